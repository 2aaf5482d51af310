use mathlib.Core.Path.{◌≡◌, sym, ◌∙◌}
use lib.Dec.{leb}
use borrow.Author.Rules.{rules}
use Rattle.rules.specs.Paths.{is_live, live_from}
use Rattle.slots.specs.View.{spot_view}
use Rattle.paths.proofs.is_from.Goals as goal

pub returns-then-is_live : goal.returns-then-is_live
unfolding live_from is_live spot_view
returns-then-is_live c s = let h : c.le.result ≡ leb c.args.slot.0 c.args.e.slot.0 = search rules in rw (sym c.is_live.ensures ∙ c.if-is_live.true) h

pub returns-else-is_live : goal.returns-else-is_live
unfolding live_from is_live spot_view
returns-else-is_live c s = rw (sym c.is_live.ensures ∙ c.if-is_live.false) c.if-is_live.false
