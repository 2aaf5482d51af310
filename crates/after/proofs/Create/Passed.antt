-- What an accepted create has passed. Assumes nothing.
use Prim.Native.Nat.{ℕ}
use mathlib.Core.Path.{◌≡◌, refl, sym, ap, ◌∙◌}
use mathlib.Core.Bool.{true, not}
use mathlib.Core.List.{List}
use mathlib.Core.Option.{Option, none, some}
use native.Mathlib.Omega.{arith}
use lib.ListN.{length}
use lib.IntN.{ℤ}
use Rattle.rules.specs.Lists.{is_some}
use Rattle.rules.specs.Lists.Laws.{clash}
use Rattle.rules.specs.Index.{Entry}
use Rattle.rules.specs.Names.{new_path_good, leading}
use Rattle.rules.specs.Paths.{lookup}
use Rattle.rules.specs.Refusals.{accepted, Volume, entries, judge}
use Rattle.rules.specs.Writing.{Written, New, nearest_live, new_slots, new_blocks, Place, place_from, place_run, place_file, site_of, created, create_of}
use Rattle.rules.specs.Writing.Laws.{tidy_image}
use Rattle.laws.proofs.Images.Accepted.{passed-need, passed-found, passed-writable, passed-done}
use Rattle.laws.proofs.Images.Tidying.{settled_volume, settled-entries, IsSlotted, settled-lowest}

not_some : {A : Type 0} (o : Option A) → not (is_some o) ≡ true → o ≡ none
unfolding is_some
not_some none e = refl
not_some (some x) e = clash (sym e)

-- what its tests found, of a volume in an image of n bytes: the run's place and the file's first block
pub record Sited (n : ℕ) (v : Volume) (new : New) (path : List ℕ) (place : Place) (start : ℕ) : Type 0 where
  pub path-good : new_path_good path ≡ true
  pub path-new : lookup path (entries v) ≡ none
  pub nearest : nearest_live (entries v) (leading path) ≡ true
  pub run-placed : place_run n v path (new_slots v.geometry.edition new path) ≡ some place
  pub file-placed : place_file n place.geometry (entries v) (new_blocks v.geometry new) ≡ some start

pub record CreatePassed (s : List ℕ) (v : Volume) (new : New) (path : List ℕ) (stamp : ℤ) : Type 0 where
  pub place : Place
  pub start : ℕ
  pub sited : Sited (length s) v new path place start
  pub image-is : (create_of s new path stamp).image ≡ created (tidy_image s v) (site_of v new path stamp place start) new path stamp

pub create-passed : (s : List ℕ) (v : Volume) (new : New) (path : List ℕ) (stamp : ℤ) → judge s ≡ accepted v → (create_of s new path stamp).refusal ≡ 0
    → CreatePassed s v new path stamp
unfolding create_of
create-passed s v new path stamp o z =
    let w : Written = create_of s new path stamp in
    let p₁ = passed-need s w z (new_path_good path) 10 _ (omega arith) (passed-writable s v _ o z) in
    let p₂ = passed-need s w z (not (is_some (lookup path (entries v)))) 12 _ (omega arith) p₁.1 in
    let p₃ = passed-need s w z (nearest_live (entries v) (leading path)) 13 _ (omega arith) p₂.1 in
    let p₄ = passed-found s w z (place_run (length s) v path (new_slots v.geometry.edition new path)) 15 _ (omega arith) p₃.1 in
    let p₅ = passed-found s w z (place_file (length s) p₄.0.geometry (entries v) (new_blocks v.geometry new)) 16 _ (omega arith) p₄.2 in
    record {
      place = p₄.0;
      start = p₅.0;
      sited = record {
        path-good = p₁.0;
        path-new = not_some (lookup path (entries v)) p₂.0;
        nearest = p₃.0;
        run-placed = p₄.1;
        file-placed = p₅.1;
      };
      image-is = passed-done s _ w p₅.2;
    }

-- the same is found of the volume that is tidied
pub settled-sited : (n : ℕ) (v : Volume) (new : New) (path : List ℕ) (place : Place) (start : ℕ) → IsSlotted v.items → Sited n v new path place start
    → Sited n (settled_volume v) new path place start
unfolding place_run
settled-sited n v new path place start h c =
    let es = settled-entries v.items in
    let slots : ℕ = new_slots v.geometry.edition new path in
    record {
      path-good = c.path-good;
      path-new = ap (lookup path) es ∙ c.path-new;
      nearest = ap (λ (xs : List Entry). nearest_live xs (leading path)) es ∙ c.nearest;
      run-placed = ap (place_from n v.geometry slots) (settled-lowest slots v.geometry.edition path v.items h) ∙ c.run-placed;
      file-placed = ap (λ (xs : List Entry). place_file n place.geometry xs (new_blocks v.geometry new)) es ∙ c.file-placed;
    }
