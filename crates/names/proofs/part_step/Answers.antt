use Prim.Native.Nat.{ℕ}
use mathlib.Core.Path.{◌≡◌, refl}
use native.Mathlib.Omega.{arith}
use borrow.Author.Rules.{rules}
use borrow.Author.Tests.{ne_eqb}
use Rattle.rules.specs.Lists.{pick}
use Rattle.names.specs.Automaton.{part_step}
use Rattle.names.specs.View.{part_view}
use Rattle.names.specs.declared.Part.{Part}
use Rattle.names.specs.declared.Part.TheVariants.{Nothing, Dot, Dots, Other}
use Rattle.names.proofs.part_step.Goals as goal

bad : (p : Part) (b : ℕ) → b ≡ 47 → (p ≡ Other → ⊥) → 4 ≡ part_step (part_view p) b
unfolding part_step pick
bad Nothing b e h = rw e
bad Dot b e h = rw e
bad Dots b e h = rw e
bad Other b e h = absurd (h refl)

other : (p : Part) (b : ℕ) → b ≡ 46 → (p ≡ Nothing → ⊥) → (p ≡ Dot → ⊥) → 3 ≡ part_step (part_view p) b
unfolding part_step pick
other Nothing b e h k = absurd (h refl)
other Dot b e h k = absurd (k refl)
other Dots b e h k = rw e
other Other b e h k = rw e

rest : (p : Part) (b : ℕ) → (b ≡ 47 → ⊥) → (b ≡ 46 → ⊥) → 3 ≡ part_step (part_view p) b
unfolding part_step pick
rest Nothing b h k = rw (ne_eqb b 47 h, ne_eqb b 46 k)
rest Dot b h k = rw (ne_eqb b 47 h, ne_eqb b 46 k)
rest Dots b h k = rw (ne_eqb b 47 h, ne_eqb b 46 k)
rest Other b h k = rw (ne_eqb b 47 h, ne_eqb b 46 k)

pub returns-in-47-Other : goal.returns-in-47-Other
unfolding part_step pick
returns-in-47-Other c = rw (c.in-47-Other.is-0, c.in-47-Other.is-1)

pub returns-in-47-default : goal.returns-in-47-default
returns-in-47-default c = bad _ _ c.in-47-default.is-0 (λ e. search rules)

pub returns-in-46-Nothing : goal.returns-in-46-Nothing
unfolding part_step pick
returns-in-46-Nothing c = rw (c.in-46-Nothing.is-0, c.in-46-Nothing.is-1)

pub returns-in-46-Dot : goal.returns-in-46-Dot
unfolding part_step pick
returns-in-46-Dot c = rw (c.in-46-Dot.is-0, c.in-46-Dot.is-1)

pub returns-in_default : goal.returns-in_default
returns-in_default c = other _ _ c.in_default.is-0 c.in_default.not-Nothing-1 c.in_default.not-Dot-1

pub returns-in_default-2 : goal.returns-in_default-2
returns-in_default-2 c = rest _ _ (λ e. omega arith) (λ e. omega arith)
