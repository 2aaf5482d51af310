use mathlib.Core.Path.{◌≡◌}
use lib.Dec.{leb}
use borrow.Author.Rules.{rules}
use Rattle.rules.specs.Editions.{by_edition, past_end}
use Rattle.editions.specs.View.{is-second, is-first}
use Rattle.editions.proofs.Edition.ends_by.Goals as goal

pub returns-in-Second : goal.returns-in-Second
unfolding past_end by_edition
returns-in-Second c = rw (is-second _ c.in-Second.is) c.last_before.ensures

pub returns-in-First : goal.returns-in-First
unfolding past_end by_edition
returns-in-First c = let h : c.le.result ≡ leb c.args.stored.0 c.args.b.0 = search rules in rw (is-first _ c.in-First.is) h
