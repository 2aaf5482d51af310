use mathlib.Core.Path.{◌≡◌, refl, sym, ◌∙◌}
use lib.ListN.{drop}
use native.Mathlib.Omega.{arith}
use Rattle.rules.specs.Index.{run_whole}
use Rattle.rules.specs.Index.Items.{whole_sum}
use Rattle.editions.specs.View.{edition_view}
use Rattle.rules.specs.Index.Frame.{run-unfit}
use Rattle.sums.specs.Summed.{summed-here, alike-good}
use Rattle.slots.specs.View.{stale-stray, stale-broken, stale-all}
use Rattle.slots.proofs.stale_slots.Goals as goal
use Rattle.slots.proofs.stale_slots.Goals.{After-sum_to_zero}

pub returns-then-not-is_deleted : goal.returns-then-not-is_deleted
returns-then-not-is_deleted c =
    (stale-stray _ c.args.img.now _ _ 1 _ c.requires.2 (sym c.is_deleted.ensures ∙ c.if-not-is_deleted.true) refl, omega arith, omega (arith, c.requires.0))

pub returns-then-left-n : goal.returns-then-left-n
returns-then-left-n c =
    (stale-broken _ c.args.img.now _ _ 1 _ c.requires.2 (run-unfit _ _ _ (omega (arith, c.if-left-n.true, c.slots_at-n.ensures))) refl, omega arith, omega (arith, c.requires.0))

pub sum_to_zero-requires : goal.sum_to_zero-requires
sum_to_zero-requires c = omega (arith, c.if-left-n.false, c.requires.3.room)

-- the sums tell whether the run is whole
whole : (c : After-sum_to_zero) → c.sum_to_zero.result ≡ run_whole (edition_view c.args.ed) c.args.left (drop c.args.at.0 c.args.img.now)
whole c =
    let l = c.if-left-n.false in
    c.sum_to_zero.ensures ∙ sym (alike-good _ _ _ _ c.requires.4) ∙ summed-here _ _ _ _ _ _ c.requires.3 _ l ∙ sym (whole_sum _ _ _ _ c.slots_at-n.ensures.0 l)

pub returns-then-not-sum_to_zero : goal.returns-then-not-sum_to_zero
returns-then-not-sum_to_zero c =
    (stale-broken _ c.args.img.now _ _ 1 _ c.requires.2 (sym (whole (goal.at.returns-then-not-sum_to_zero c).After-sum_to_zero) ∙ c.if-not-sum_to_zero.true) refl, omega arith, omega (arith, c.requires.0))

pub returns : goal.returns
returns c =
    let n = c.slots_at-n.ensures in
    let d = sym c.is_deleted.ensures ∙ c.if-not-is_deleted.false in
    (stale-all _ c.args.img.now _ _ _ _ c.requires.2 d (sym (whole (goal.at.returns c).After-sum_to_zero) ∙ c.if-not-sum_to_zero.false) n.0, n.2, c.if-left-n.false)
