use mathlib.Core.Path.{◌≡◌, sym, ap, ◌∙◌}
use mathlib.Core.Bool.{Bool, true}
use native.Mathlib.Omega.{arith}
use Rattle.std.specs.Prelude.{Some, None}
use Rattle.std.proofs.lemmas.Result.{err_from_is_err_and}
use Rattle.rules.specs.Index.{entries_of, index_sound, items_of}
use Rattle.rules.specs.Regions.{regions_sound}
use Rattle.rules.specs.Paths.{paths_sound}
use Rattle.rules.specs.Refusals.Laws.{judge-index, index-bad-slots, index-bad-regions, index-bad-paths, index-good}
use Rattle.refusals.specs.declared.Refusal.TheVariants.{Regions}
use Rattle.geometry.specs.View.{geometry_view}
use Rattle.index.specs.Steps.{Walks, entries_from}
use Rattle.super_block.specs.View.{good-judged}
use Rattle.super_block.specs.Ends.{sound-walks}
use Rattle.regions.specs.Bounds.{good-bounded}
use Rattle.regions.specs.Gathering.{regions-unsound, regions-from}
use Rattle.judging.specs.Keeping.{Keeps, keeps-good}
use Rattle.judging.proofs.judge_index.Goals as goal
use Rattle.judging.proofs.judge_index.Goals.{After-first_slot-from, After-paths_sound-paths, Else-not-index_sound, In_ok-i}

-- the passes that were passed
index_is : (c : Else-not-index_sound) → let a = c.args in let g = geometry_view a.g in
    index_sound a.img.now g (items_of a.img.now g) ≡ true
index_is c = sym c.index_sound.ensures ∙ c.if-not-index_sound.false

walks : (c : Else-not-index_sound) → Walks c.args.img.now c.first_slot-from.result
walks c =
    let a = c.args in
    sound-walks a.img.now (geometry_view a.g) c.first_slot-from.result c.first_slot-from.ensures.0 c.first_slot-from.ensures.1 (index_is c)

paths-are : (c : After-paths_sound-paths) → let a = c.args in paths_sound (entries_of (items_of a.img.now (geometry_view a.g))) ≡ c.paths_sound-paths.result
paths-are c = sym (c.paths_sound-paths.ensures ∙ ap (λ is. paths_sound (entries_of is)) c.first_slot-from.ensures.0)

regions-are : (c : After-first_slot-from) (t : Bool) → let a = c.args in let g = geometry_view a.g in
    regions_sound g (entries_from a.img.now c.first_slot-from.result) ≡ t → regions_sound g (entries_of (items_of a.img.now g)) ≡ t
regions-are c t e = sym (ap (λ is. regions_sound (geometry_view c.args.g) (entries_of is)) c.first_slot-from.ensures.0) ∙ e

found : (c : In_ok-i) → c.judge_regions.result ≡ Some c.in_ok-i.i
found c = grind arith

sound : (c : In_ok-i) → let a = c.args in let g = geometry_view a.g in
    regions_sound g (entries_of (items_of a.img.now g)) ≡ true
sound c = regions-are (goal.at.In_ok-i c).After-first_slot-from _ (regions-from _ _ _ _ _ c.judge_regions.ensures _ (found c)).0

pub first_slot-from-requires : goal.first_slot-from-requires
first_slot-from-requires c = (good-judged _ _ c.requires.0, omega arith)

pub index_sound-requires : goal.index_sound-requires
index_sound-requires c =
    let e = c.first_slot-from.ensures in
    (good-judged _ _ c.requires.0, e.0, e.1, e.6)

pub returns-then-not-index_sound : goal.returns-then-not-index_sound
unfolding Keeps
returns-then-not-index_sound c = judge-index _ c.requires.0 ∙ index-bad-slots _ _ _ (sym c.index_sound.ensures ∙ c.if-not-index_sound.true)

pub paths_sound-paths-requires : goal.paths_sound-paths-requires
paths_sound-paths-requires c =
    let e = c.first_slot-from.ensures in
    let p = c.requires in
    (walks (goal.at.paths_sound-paths-requires c).Else-not-index_sound, omega (arith, e.3), omega (arith, e.3, e.4, p.1), omega (arith, p.2), e.6)

pub judge_regions-requires : goal.judge_regions-requires
judge_regions-requires c =
    let e = c.first_slot-from.ensures in
    let p = c.requires in
    let j = good-judged _ _ p.0 in
    (good-bounded _ _ j.good j.short, walks (goal.at.judge_regions-requires c).Else-not-index_sound, omega (arith, e.3, e.4, p.1), omega (arith, p.2), e.6)

pub returns-then-not-paths : goal.returns-then-not-paths
unfolding Keeps
returns-then-not-paths c =
    judge-index _ c.requires.0 ∙ index-bad-paths _ _ _ (index_is (goal.at.returns-then-not-paths c).Else-not-index_sound) (sound (goal.at.returns-then-not-paths c).In_ok-i) (paths-are (goal.at.returns-then-not-paths c).After-paths_sound-paths ∙ c.if-not-paths.true)

pub returns-in_err-i : goal.returns-in_err-i
unfolding Keeps
returns-in_err-i c =
    let gone : c.judge_regions.result ≡ None = grind arith in
    let told : c.in_err-i.field-0.0 ≡ Regions = grind arith in
    let p = err_from_is_err_and c.from_residual.result c.from_residual.ensures.1 in
    rw (p.1, p.2, told)
    (judge-index _ c.requires.0 ∙ index-bad-regions _ _ _ (index_is (goal.at.returns-in_err-i c).Else-not-index_sound) (regions-are (goal.at.returns-in_err-i c).After-first_slot-from _ (regions-unsound _ _ _ _ _ c.judge_regions.ensures gone)))

pub returns : goal.returns
returns c =
    keeps-good _ _ _ (judge-index _ c.requires.0 ∙ index-good _ _ _ (index_is (goal.at.returns c).Else-not-index_sound) (sound (goal.at.returns c).In_ok-i) (paths-are (goal.at.returns c).After-paths_sound-paths ∙ c.if-not-paths.false)) c.first_slot-from.result c.first_slot-from.ensures.0
    _ _ (regions-from _ _ _ _ _ c.judge_regions.ensures _ (found (goal.at.returns c).In_ok-i)).1
