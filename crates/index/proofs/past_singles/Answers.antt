use mathlib.Core.Path.{◌≡◌, refl, sym, ap, ◌∙◌}
use mathlib.Core.Bool.{true}
use native.Mathlib.Omega.{arith}
use lib.ListN.{get_or}
use Rattle.rules.specs.Index.Items.{entry_type}
use Rattle.index.specs.View.{behind-itself, behind-past}
use Rattle.editions.specs.View.{edition_view}
use Rattle.index.specs.Steps.{onward-walks, onward-less}
use Rattle.index.specs.Unused.{lowest-behind}
use borrow.Author.Rules.{rules}
use Rattle.index.proofs.past_singles.Goals as goal
use Rattle.index.proofs.past_singles.Goals.{Else-not-is_entry}

pub kind_at-requires : goal.kind_at-requires
kind_at-requires c = omega (arith, c.loop-c.invariant.0.inside.fits, c.loop-c-test.true)

-- an entry of one slot
type-is : (c : Else-not-is_entry) → entry_type (edition_view c.loop-c.c.edition) (get_or c.args.img.now c.loop-c.c.at.0 0) ≡ true
type-is c = sym (ap (entry_type _) c.kind_at.ensures) ∙ sym c.is_entry.ensures ∙ c.if-not-is_entry.false

pub is_single-requires : goal.is_single-requires
is_single-requires c = omega (arith, c.loop-c.invariant.0.inside.fits, c.loop-c-test.true)

pub past-c-requires : goal.past-c-requires
past-c-requires c =
    let i = c.loop-c.invariant.0.inside in
    (omega (arith, c.loop-c-test.true), omega (arith, i.fits, i.short), i.numbers)

pub loop-c-preserved : goal.loop-c-preserved
loop-c-preserved c =
    let l = c.loop-c in
    let one = sym (c.is_single.ensures (c.if-not-is_single.false) _) in (
      onward-walks _ l.c l.invariant.0 c.loop-c-test.true 1 one _ c.past-c.ensures,
      omega (arith, l.invariant.1, onward-less _ l.c l.invariant.0 c.loop-c-test.true 1 one _ c.past-c.ensures),
      λ n h. lowest-behind _ l.c l.invariant.0 c.loop-c-test.true 1 one _ c.past-c.ensures (type-is (goal.at.loop-c-preserved c).Else-not-is_entry) n h ∙ l.invariant.2 n h,
      behind-past _ l.c l.invariant.3 1 _ c.past-c.ensures (omega (arith, c.loop-c-test.true)),
    )

pub loop-c-init : goal.loop-c-init
loop-c-init c = (c.requires, omega arith, λ n h. refl, behind-itself _)

pub loop-c-smaller : goal.loop-c-smaller
loop-c-smaller c = search (rules, c.past-c.ensures.left)
