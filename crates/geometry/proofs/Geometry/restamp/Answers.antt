use mathlib.Core.Logic.{inl, inr}
use Rattle.rules.specs.SuperBlock.{restamp}
use Rattle.rules.specs.Lists.{pick}
use borrow.Author.Tests.{eq-eqb, ne_eqb}
use Rattle.geometry.proofs.Geometry.restamp.Goals as goal

pub returns-then-old-self-2 : goal.returns-then-old-self-2
unfolding restamp pick
returns-then-old-self-2 c =
    elim c.if-old-self-2.either [
      | inl d ↦ rw (ne_eqb _ _ d) c.stamped.ensures
      | inr p ↦ rw (eq-eqb _ _ p.0, ne_eqb _ _ p.1) c.stamped.ensures
    ]

pub returns-else-old-self-2 : goal.returns-else-old-self-2
unfolding restamp pick
returns-else-old-self-2 c = rw (eq-eqb _ _ c.if-old-self-2.false.0, eq-eqb _ _ c.if-old-self-2.false.1)
