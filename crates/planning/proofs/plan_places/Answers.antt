use mathlib.Core.Path.{◌≡◌, ap, ◌∙◌}
use mathlib.Core.Option.{some}
use native.Mathlib.Omega.{arith}
use lib.ListN.{length}
use Prim.Native.Nat.{ℕ, ◌+◌}
use mathlib.Core.List.{List}
use mathlib.Core.Path.{ap₂}
use Rattle.std.specs.Prelude.{Option, Some, None}
use Rattle.std.proofs.lemmas.Result.{err_from_is_err_and}
use Rattle.refusals.specs.declared.Refusal.TheVariants.{NoSlots, NoBlocks}
use Rattle.rules.specs.Index.{continuing}
use Rattle.rules.specs.Regions.{blocks_needed}
use Rattle.rules.specs.Writing.{New, new_slots, new_blocks, place_run, place_file}
use Rattle.rules.specs.Refusals.{Volume, entries}
use Rattle.editions.specs.View.{edition_view}
use Rattle.geometry.specs.View.{geometry_view}
use Rattle.geometry.specs.declared.Geometry.{Geometry}
use Rattle.units.specs.declared.Block.{Block}
use Rattle.units.specs.declared.Slot.{Slot}
use Rattle.judging.specs.View.{volume_of, opened-super}
use Rattle.placing.specs.Site.{new_of}
use Rattle.free_runs.specs.View.{free_view}
use Rattle.planning.specs.Places.{place_view, run-says, file-says}
use Rattle.planning.specs.Planned.{few-slots, run-grown, end_fits, planned-slots, planned-blocks, planned-at}
use Rattle.planning.proofs.plan_places.Goals as goal
use Rattle.planning.proofs.plan_places.Goals.{After-blocks_needed-blocks, After-place_file, After-place_run, After-run_slots-slots, In_ok-slot, In_ok-start, Start}

-- what is new, and the volume that it is new in
abbrev made : Start → New
made x = new_of x.args.new.made

abbrev volume : Start → Volume
volume x = volume_of x.args.img.now (geometry_view x.args.g)

-- the slots of the run, and the blocks of the bytes
slots-are : (c : After-run_slots-slots) → c.run_slots-slots.result ≡ new_slots (edition_view c.args.g.edition) (made (goal.at.After-run_slots-slots c).Start) c.args.new.path.now
slots-are c = c.run_slots-slots.ensures ∙ ap (λ (k : ℕ). 1 + continuing (edition_view c.args.g.edition) k (length c.args.new.path.now)) c.kind.ensures

blocks-are : (c : After-blocks_needed-blocks) → c.blocks_needed-blocks.result ≡ new_blocks (geometry_view c.args.g) (made (goal.at.After-blocks_needed-blocks c).Start)
blocks-are c = c.blocks_needed-blocks.ensures ∙ ap₂ blocks_needed c.block_length.ensures.0 (ap (λ (x : List ℕ). length x) c.bytes-bytes.ensures)

-- its place
run_is : (c : After-place_run) (r : Option (Slot × Geometry)) → c.place_run.result ≡ r → place_run (length c.args.img.now) (volume (goal.at.After-place_run c).Start) c.args.new.path.now (new_slots (edition_view c.args.g.edition) (made (goal.at.After-place_run c).Start) c.args.new.path.now) ≡ place_view r
run_is c r e = run-says _ _ _ _ _ _ c.place_run.ensures e _ (slots-are (goal.at.After-place_run c).After-run_slots-slots)

slot-found : (c : In_ok-slot) → c.place_run.result ≡ Some (c.in_ok-slot.slot, c.in_ok-slot.grown)
slot-found c = grind arith

run-said : (c : In_ok-slot) → place_run (length c.args.img.now) (volume (goal.at.In_ok-slot c).Start) c.args.new.path.now (new_slots (edition_view c.args.g.edition) (made (goal.at.In_ok-slot c).Start) c.args.new.path.now)
    ≡ some (record { slot = c.in_ok-slot.slot.0; geometry = geometry_view c.in_ok-slot.grown })
run-said c = run_is (goal.at.In_ok-slot c).After-place_run _ (slot-found c)

-- the place of the blocks
file-is : (c : After-place_file) (r : Option Block) → c.place_file.result ≡ r → place_file (length c.args.img.now) (geometry_view c.in_ok-slot.grown) (entries (volume (goal.at.After-place_file c).Start)) (new_blocks (geometry_view c.args.g) (made (goal.at.After-place_file c).Start))
    ≡ free_view r
file-is c r e = file-says _ _ _ _ _ _ (c.place_file.ensures _ c.requires.3) e _ (blocks-are (goal.at.After-place_file c).After-blocks_needed-blocks)

start-found : (c : In_ok-start) → c.place_file.result ≡ Some c.in_ok-start.start
start-found c = grind arith

pub place_run-requires : goal.place_run-requires
place_run-requires c =
    let s = slots-are (goal.at.place_run-requires c).After-run_slots-slots in
    (c.requires.0, c.requires.1, omega (arith, s), omega (arith, s, few-slots _ _ c.requires.0 (made (goal.at.place_run-requires c).Start) _ c.requires.2), c.requires.4)

pub block_length-requires : goal.block_length-requires
block_length-requires c = (opened-super _ _ c.requires.0).good.field-high

pub place_file-requires : goal.place_file-requires
place_file-requires c =
    let z = (run-grown _ _ c.requires.0 _ _ c.requires.2 _ (run-said (goal.at.place_file-requires c).In_ok-slot)).good in
    (z.field-high, z.index-fits)

pub site_at-requires : goal.site_at-requires
site_at-requires c =
    omega (arith, end_fits _ _ c.requires.0 _ _ c.requires.2 _ (run-said (goal.at.site_at-requires c).In_ok-slot) _ (file-is (goal.at.site_at-requires c).After-place_file _ (start-found (goal.at.site_at-requires c).In_ok-start)), blocks-are (goal.at.site_at-requires c).After-blocks_needed-blocks)

pub returns-in_err-slot : goal.returns-in_err-slot
returns-in_err-slot c =
    let gone : c.place_run.result ≡ None = grind arith in
    let told : c.in_err-slot.field-0.0 ≡ NoSlots = grind arith in
    let p = err_from_is_err_and c.from_residual.result c.from_residual.ensures.1 in
    rw (p.1, p.2, told) (planned-slots _ _ c.requires.0 _ _ c.requires.2 _ (run_is (goal.at.returns-in_err-slot c).After-place_run _ gone))

pub returns-in_err-start : goal.returns-in_err-start
returns-in_err-start c =
    let gone : c.place_file.result ≡ None = grind arith in
    let told : c.in_err-start.field-0.0 ≡ NoBlocks = grind arith in
    let p = err_from_is_err_and c.from_residual-in_err-start.result c.from_residual-in_err-start.ensures.1 in
    rw (p.1, p.2, told)
    (planned-blocks _ _ c.requires.0 _ _ c.requires.2 _ (run-said (goal.at.returns-in_err-start c).In_ok-slot) _ (file-is (goal.at.returns-in_err-start c).After-place_file _ gone))

pub returns : goal.returns
returns c =
    planned-at _ _ c.requires.0 _ _ c.requires.2 _ (run-said (goal.at.returns c).In_ok-slot) _ (file-is (goal.at.returns c).After-place_file _ (start-found (goal.at.returns c).In_ok-start)) _ _ _
    (slots-are (goal.at.returns c).After-run_slots-slots) (blocks-are (goal.at.returns c).After-blocks_needed-blocks) _ c.site_at.ensures
