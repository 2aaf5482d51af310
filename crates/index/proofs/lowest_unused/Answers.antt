use mathlib.Core.Path.{◌≡◌, refl, sym, ◌∙◌}
use native.Mathlib.Omega.{arith}
use lib.ListN.{get_or}
use Rattle.rules.specs.Index.Items.{entry_type}
use Rattle.rules.specs.Writing.{lowest_unused}
use Rattle.editions.specs.View.{edition_view}
use Rattle.index.specs.View.{items_from, SumsFrom, sums-behind}
use Rattle.index.specs.Steps.{sums-onward}
use Rattle.index.specs.Unused.{lowest_from, search-first, search-end, search-entry, search-gap, search-full}
use Rattle.index.proofs.lowest_unused.Goals as goal
use Rattle.index.proofs.lowest_unused.Goals.{After-further, After-is_entry, Else-is_entry}

pub loop-c-init : goal.loop-c-init
loop-c-init c = (c.requires.0, omega arith, omega (arith, c.requires.1), search-first _ _ _ c.args.from c.requires.1 refl, c.requires.2)

pub further-requires : goal.further-requires
further-requires c = let i = c.loop-c.invariant in (i.0, c.loop-c-test.true, i.4)

-- the sums serve the cursor behind what stands there
served : (c : After-further) → SumsFrom c.args.img.now c.args.sums.now c.further.result.rest
served c = sums-onward _ _ c.loop-c.c c.loop-c.invariant.4 _ _ c.further.ensures

-- what stands there, by its first byte
type-is : (c : After-is_entry)
    → entry_type (edition_view c.loop-c.c.edition) (get_or c.args.img.now c.loop-c.c.at.0 0) ≡ c.is_entry.result
type-is c = let o = c.further.ensures in rw (← o.of, ← o.here.2) (sym c.is_entry.ensures)

pub past_singles-c-requires : goal.past_singles-c-requires
past_singles-c-requires c = c.further.ensures.walks

pub loop-c-smaller-then-is_entry : goal.loop-c-smaller-then-is_entry
loop-c-smaller-then-is_entry c = omega (arith, c.past_singles-c.ensures.1, c.further.ensures.less)

pub loop-c-preserved-then-is_entry : goal.loop-c-preserved-then-is_entry
loop-c-preserved-then-is_entry c =
    let l = c.loop-c in
    let low = c.requires.1 in
    let r = c.past_singles-c in (
      r.ensures.0,
      omega arith,
      omega (arith, low),
      search-first _ _ _ r.result low refl ∙ r.ensures.2 _ low
          ∙ search-entry _ _ l.first.0 l.c l.invariant.2 l.invariant.0 c.loop-c-test.true _ refl _ c.further.ensures.past (type-is (goal.at.loop-c-preserved-then-is_entry c).After-is_entry ∙ c.if-is_entry.true)
          ∙ l.invariant.3,
      sums-behind _ _ _ (served (goal.at.loop-c-preserved-then-is_entry c).After-further) _ r.ensures.3,
    )

-- the search behind a gap
passed : (c : Else-is_entry) → let l = c.loop-c in
    lowest_from c.args.n c.args.img.now l.first.0 c.further.result.rest ≡ lowest_unused c.args.n (items_from c.args.img.now c.args.from)
passed c =
    let l = c.loop-c in
    search-gap _ _ l.first.0 l.c l.invariant.2 l.invariant.0 c.loop-c-test.true _ refl _ c.further.ensures.past l.invariant.1 (type-is (goal.at.Else-is_entry c).After-is_entry ∙ c.if-is_entry.false)
    ∙ l.invariant.3

pub slots_to-requires : goal.slots_to-requires
slots_to-requires c = omega (arith, c.loop-c.invariant.1, c.further.ensures.ahead)

pub returns-then-n-slots_to : goal.returns-then-n-slots_to
returns-then-n-slots_to c =
    sym (search-full _ _ _ c.further.result.rest (omega (arith, c.if-n-slots_to.true, c.slots_to.ensures))) ∙ passed (goal.at.returns-then-n-slots_to c).Else-is_entry

pub loop-c-smaller : goal.loop-c-smaller
loop-c-smaller c = c.further.ensures.less

pub loop-c-preserved : goal.loop-c-preserved
loop-c-preserved c =
    let l = c.loop-c in
    let o = c.further.ensures in
    (o.walks, omega (arith, l.invariant.1, o.ahead), omega (arith, c.if-n-slots_to.false, c.slots_to.ensures), passed (goal.at.loop-c-preserved c).Else-is_entry, served (goal.at.loop-c-preserved c).After-further)

pub returns : goal.returns
returns c = let l = c.loop-c in sym (search-end _ _ l.first.0 l.c l.invariant.2 (omega arith)) ∙ l.invariant.3
