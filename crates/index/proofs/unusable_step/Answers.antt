use mathlib.Core.Path.{refl}
use mathlib.Core.Bool.{Bool, true, false}
use native.Mathlib.Omega.{arith}
use lib.ListN.{take, drop}
use Rattle.std.specs.Bool.{then_some}
use Rattle.rules.specs.Lists.{pick}
use Rattle.rules.specs.Editions.{sum_good}
use Rattle.rules.specs.Index.{slot_bytes}
use Rattle.editions.specs.View.{edition_view}
use Rattle.sums.specs.Summed.{summed-here}
use Rattle.index.specs.View.{unusable_step, StepIs}
use Rattle.index.proofs.unusable_step.Goals as goal

pub is_good-requires : goal.is_good-requires
is_good-requires c = c.requires.room

one_or_none : (b : Bool) → StepIs 1 (pick b 1 0) (then_some b 1)
unfolding pick
one_or_none true = (refl, omega arith, omega arith)
one_or_none false = refl

pub returns : goal.returns
unfolding unusable_step
returns c =
    rw (c.then_some.ensures, c.is_good.ensures, summed-here _ _ _ _ _ _ c.requires 1 (omega arith))
    (one_or_none (sum_good (edition_view c.args.ed) (take slot_bytes (drop c.args.at.0 c.args.img.now))))
