-- Entries under a change of type and stamp, as a delete that keeps and a restore make it: where those that pass a test are runs' and a file stays one, the
-- regions stay as they were. Assumes nothing.
use mathlib.Core.Path.{◌≡◌, refl, sym, ap, ap₂, ◌∙◌}
use mathlib.Core.Bool.{Bool, true, false}
use mathlib.Core.List.{List, ◌∷◌, ◌++◌, map}
use Prim.Native.Nat.{ℕ}
use lib.IntN.{ℤ}
use Rattle.rules.specs.Lists.{pick, All}
use Rattle.rules.specs.Lists.Laws.{pick_true, pick-false}
use Rattle.rules.specs.SuperBlock.{Geometry}
use Rattle.rules.specs.Index.{Entry, run_type, file_type}
use Rattle.rules.specs.Regions.{regions_sound}
use Rattle.laws.proofs.Lists.Parts.{map-append}
use Rattle.laws.proofs.Lists.Every.{all-weaken, map_same}
use Rattle.laws.proofs.Index.Entries.{retyped_entry}
use Rattle.laws.proofs.Entries.EntryKinds.{run-usable}
use Rattle.laws.proofs.Entries.Regions.{SameRegion, same-region, sound-map}

-- the entries that pass have another type and a new stamp, the others are as they were
unfoldable pub retype_at : (Entry → Bool) → (ℕ → ℕ) → ℤ → Entry → Entry
retype_at p kinds stamp e = pick (p e) (retyped_entry (kinds e.kind) stamp e) e

-- what a change of types is to keep
pub record Retypes (p : Entry → Bool) (kinds : ℕ → ℕ) : Type 0 where
  pub named : (e : Entry) → p e ≡ true → run_type e.kind ≡ true
  pub run : (t : ℕ) → run_type (kinds t) ≡ true
  pub file : (t : ℕ) → file_type (kinds t) ≡ file_type t

module _ (p : Entry → Bool) (kinds : ℕ → ℕ) (stamp : ℤ) where
  pub retype-here : (e : Entry) → p e ≡ true → retype_at p kinds stamp e ≡ retyped_entry (kinds e.kind) stamp e
  unfolding retype_at
  retype-here e h = pick_true (retyped_entry (kinds e.kind) stamp e) e h

  pub retype-other : (e : Entry) → p e ≡ false → retype_at p kinds stamp e ≡ e
  unfolding retype_at
  retype-other e h = pick-false (retyped_entry (kinds e.kind) stamp e) e h

  -- by whether it passes
  pub retype-by : (P : Entry → Type 0) (e : Entry) → (p e ≡ true → P (retyped_entry (kinds e.kind) stamp e)) → (p e ≡ false → P e)
      → P (retype_at p kinds stamp e)
  retype-by P e f g = go (p e) refl
    where
      go : (t : Bool) → p e ≡ t → P (retype_at p kinds stamp e)
      go true h = rw (retype-here e h) (f h)
      go false h = rw (retype-other e h) (g h)

  -- where just one passes, one element changes
  pub retype-one : (pre : List Entry) (e : Entry) (post : List Entry) → All (λ x. p x ≡ false) pre → p e ≡ true → All (λ x. p x ≡ false) post
      → map (retype_at p kinds stamp) (pre ++ (e ∷ post)) ≡ pre ++ (retyped_entry (kinds e.kind) stamp e ∷ post)
  retype-one pre e post before here behind =
      map-append (retype_at p kinds stamp) pre (e ∷ post)
      ∙ ap₂ (λ us vs. us ++ (retype_at p kinds stamp e ∷ vs))
      (map_same (retype_at p kinds stamp) pre (all-weaken _ _ retype-other pre before))
      (map_same (retype_at p kinds stamp) post (all-weaken _ _ retype-other post behind))
      ∙ ap (λ (x : Entry). pre ++ (x ∷ post)) (retype-here e here)

  module _ (r : Retypes p kinds) where
    -- a run's entry stays one
    pub retype-run : (e : Entry) → run_type (retype_at p kinds stamp e).kind ≡ run_type e.kind
    unfolding retyped_entry
    retype-run e = retype-by (λ x. run_type x.kind ≡ run_type e.kind) e (λ h. r.run e.kind ∙ sym (r.named e h)) (λ h. refl)

    pub retype-region : (e : Entry) → SameRegion e (retype_at p kinds stamp e)
    unfolding retyped_entry
    retype-region e =
        retype-by (SameRegion e) e
        (λ h. record {
          file = r.file e.kind;
          unusable = run-usable (kinds e.kind) (r.run e.kind) ∙ sym (run-usable e.kind (r.named e h));
          start = refl;
          end = refl;
          length = refl;
        })
        (λ h. same-region e e refl refl refl refl)

    pub retype-regions : (g : Geometry) (es : List Entry) → regions_sound g (map (retype_at p kinds stamp) es) ≡ regions_sound g es
    retype-regions g es = sound-map g (retype_at p kinds stamp) retype-region es
