use mathlib.Core.Path.{◌≡◌, refl}
use lib.Dec.{eqb}
use denote.Enum.Bare.{sameb}
use borrow.Author.Tests.{eq-eqb, ne_eqb}
use Rattle.rules.specs.Lists.{pick}
use Rattle.names.specs.View.{part_view}
use Rattle.names.specs.contracts.Part.{the_type}
use Rattle.names.specs.declared.Part.{Part}
use Rattle.names.specs.declared.Part.TheVariants.{Nothing, Dot, Dots, Other}
use Rattle.names.proofs.ended.Goals as goal
use Rattle.names.proofs.ended.Goals.{else-reader-eq0-via-then-reader-eq0+else-eq, else-reader-eq0-via-else-reader-eq0}

is-other : (p : Part) → eqb (part_view p) 3 ≡ sameb the_type p Other
is-other Nothing = refl
is-other Dot = refl
is-other Dots = refl
is-other Other = refl

pub returns-then-eq : goal.returns-then-eq
unfolding pick
returns-then-eq c = rw (eq-eqb _ 0 c.if-reader-eq0.true, is-other c.args.part, ← c.eq.ensures, c.if-eq.true)

pub returns-else-reader-eq0 : goal.returns-else-reader-eq0
unfolding pick
returns-else-reader-eq0 c =
    elim c.else-reader-eq0.branch [
      | else-reader-eq0-via-then-reader-eq0+else-eq w ↦ rw (eq-eqb _ 0 w.if-reader-eq0.true, is-other c.args.part, ← w.eq.ensures, w.if-eq.false)
      | else-reader-eq0-via-else-reader-eq0 w ↦ rw (ne_eqb _ 0 w.if-reader-eq0.false)
    ]
