use mathlib.Core.Path.{sym, ◌∙◌}
use Rattle.std.proofs.lemmas.List.{take_rest}
use Rattle.regions.specs.Gathering.{in-turn, sorted-turns}
use Rattle.regions.proofs.order.Goals as goal

pub returns-then-in_turn : goal.returns-then-in_turn
returns-then-in_turn c = rw (← take_rest c.args.keys.now c.args.i) (in-turn _ (sym c.if-in_turn.true ∙ c.in_turn.ensures))

pub returns : goal.returns
returns c = sorted-turns _ _ _ c.sort_keys.ensures (rw (← take_rest c.sort_keys.new.keys c.args.i) c.in_turn-2.ensures)
