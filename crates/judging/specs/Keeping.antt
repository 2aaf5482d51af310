-- What a judgement says that keeps the keys of the regions: the verdict, and of a volume that opens its regions in order from place i on.
use Rattle.std.specs.Prelude.{ℕ, ◌≡◌, List, drop, Result, Ok, Err}
use Rattle.std.proofs.Common.{subst}
use Rattle.rules.specs.Index.{Item, items_of, entries_of}
use Rattle.rules.specs.Refusals.{Verdict, refused, accepted, Volume, entries}
use Rattle.geometry.specs.View.{geometry_view}
use Rattle.geometry.specs.declared.Geometry.{Geometry as Held}
use Rattle.index.specs.declared.Cursor.{Cursor}
use Rattle.index.specs.View.{items_from}
use Rattle.index.specs.Steps.{entries_from}
use Rattle.regions.specs.Gathering.{HasRegions}
use Rattle.judging.specs.View.{volume_of}
use Rattle.refusals.specs.declared.Refusal.{Refusal}
use Rattle.refusals.specs.View.{number_of}

-- the keys of the volume's regions, in order
abbrev pub KeysOf : List ℕ → Held → List ℕ → Type 0
KeysOf s g keys = HasRegions (entries (volume_of s (geometry_view g))) keys

unfoldable pub Keeps : List ℕ → Verdict Volume → List ℕ → Result (Held × ℕ) Refusal → Type 0
Keeps s v keys (Err e) = v ≡ refused (number_of e)
Keeps s v keys (Ok p) = (v ≡ accepted (volume_of s (geometry_view p.0))) × KeysOf s p.0 (drop p.1 keys)

-- of the cursor at slot 1
pub keeps-good : (s : List ℕ) (g : Held) (v : Verdict Volume) → v ≡ accepted (volume_of s (geometry_view g)) → (c : Cursor) → items_from s c ≡ items_of s (geometry_view g)
    → (keys : List ℕ) (i : ℕ) → HasRegions (entries_from s c) (drop i keys) → Keeps s v keys (Ok (g, i))
unfolding Keeps
keeps-good s g v e c items keys i h = (e, subst (λ (is : List Item). HasRegions (entries_of is) (drop i keys)) items h)

-- ---- what it says, by what it is
module _ (s : List ℕ) (v : Verdict Volume) (keys : List ℕ) (r : Result (Held × ℕ) Refusal) (told : Keeps s v keys r) where
  pub kept-refused : (e : Refusal) → r ≡ Err e → v ≡ refused (number_of e)
  unfolding Keeps
  kept-refused e i = rw i at told

  pub kept-good : (g : Held) (i : ℕ) → r ≡ Ok (g, i) → (v ≡ accepted (volume_of s (geometry_view g))) × KeysOf s g (drop i keys)
  unfolding Keeps
  kept-good g i e = rw e at told
