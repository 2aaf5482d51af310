-- What the history sees of entries of which some have another type and stamp: the same, but whether they are live. Assumes nothing.
use Prim.Native.Nat.{ℕ}
use mathlib.Core.Path.{◌≡◌, refl, sym, ap, ◌∙◌}
use mathlib.Core.Bool.{Bool, true}
use mathlib.Core.List.{List, map}
use lib.ListN.{length}
use lib.IntN.{ℤ}
use Rattle.rules.specs.Lists.{only, All}
use Rattle.rules.specs.SuperBlock.{Geometry}
use Rattle.rules.specs.SuperBlock.Laws.{GoodGeometry}
use Rattle.rules.specs.Index.{Entry}
use Rattle.rules.specs.Regions.{blocks_of, region_good, regions_sound}
use Rattle.rules.specs.Paths.{is_live}
use Rattle.rules.specs.Reading.{file_bytes}
use Rattle.rules.specs.Writing.{live_kind}
use Rattle.rules.specs.History.{Kept, with_live}
use Rattle.after.specs.After.{is_named, seen}
use Rattle.laws.proofs.Lists.Parts.{map-map, only-map, only-ext}
use Rattle.laws.proofs.Lists.Every.{map-ext, all-weaken, all-and, only-holds}
use Rattle.laws.proofs.Index.Entries.{retyped_entry}
use Rattle.laws.proofs.Entries.Regions.{sound-says}
use Rattle.laws.proofs.Entries.Retyping.{Retypes, retype_at, retype-by, retype-run}
use Rattle.laws.proofs.Entries.Walked.{Bare}
use Rattle.laws.proofs.Images.Kept.{Between}
use Rattle.laws.proofs.Images.Areas.{bytes-kept}

module _ (s t : List ℕ) (g : Geometry) (good : GoodGeometry (length s) g) (same : Between s t g)
    (p : Entry → Bool) (kinds : ℕ → ℕ) (r : Retypes p kinds) (stamp : ℤ) where
  see : (e : Entry) → Bare e → region_good g e ≡ true → seen t g (retype_at p kinds stamp e) ≡ with_live (seen s g e) (is_live (retype_at p kinds stamp e))
  unfolding seen retyped_entry blocks_of file_bytes live_kind is_live
  see e b q =
      let bytes = bytes-kept s t g g e good same refl b q in
      retype-by p kinds stamp (λ x. seen t g x ≡ with_live (seen s g e) (is_live x)) e (λ h. rw (r.file e.kind, bytes)) (λ h. rw bytes)

  still-named : (e : Entry) → is_named (retype_at p kinds stamp e) ≡ is_named e
  unfolding is_named
  still-named e = retype-run p kinds stamp r e

  -- whether each is live then goes by what was seen of it before
  pub all_seen : (live : Kept → Bool) (es : List Entry) → All Bare es → regions_sound g es ≡ true
      → All (λ e. is_named e ≡ true → is_live (retype_at p kinds stamp e) ≡ live (seen s g e)) es
      → map (seen t g) (only is_named (map (retype_at p kinds stamp) es)) ≡ map (λ k. with_live k (live k)) (map (seen s g) (only is_named es))
  all_seen live es b q l =
      let each = all-weaken _ (λ e. is_named e ≡ true → seen t g (retype_at p kinds stamp e) ≡ with_live (seen s g e) (live (seen s g e)))
      (λ e h n. see e h.0.0 h.0.1 ∙ ap (with_live (seen s g e)) (h.1 n)) es (all-and _ _ es (all-and Bare _ es b (sound-says g es q).each) l) in
      ap (map (seen t g)) (only-map is_named (retype_at p kinds stamp) es ∙ ap (map (retype_at p kinds stamp)) (only-ext _ is_named still-named es))
      ∙ map-map (seen t g) (retype_at p kinds stamp) (only is_named es)
      ∙ map-ext _ _ (only is_named es) (only-holds _ is_named es each)
      ∙ sym (map-map (λ k. with_live k (live k)) (seen s g) (only is_named es))
