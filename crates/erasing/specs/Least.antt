-- The sizes with the least data area, once some entries are gone.
use Rattle.std.specs.Prelude.{ℕ, ◌≡◌, List, ℤ}
use Rattle.std.proofs.Math.Path.{ap}
use Rattle.std.proofs.Common.{◌∙◌}
use Rattle.rules.specs.SuperBlock.{Geometry, trim_data, with_data, restamp}
use Rattle.rules.specs.SuperBlock.Laws.{same_self, same-trim, same-restamp}
use Rattle.rules.specs.Index.{Entry, items_of, entries_of}
use Rattle.rules.specs.Writing.{least_end, trimmed_to}
use Rattle.laws.proofs.Images.Sizes.{restamp-index}
use Rattle.index.specs.declared.Cursor.{Cursor}
use Rattle.index.specs.View.{items_from}
use Rattle.index.specs.Steps.{entries_from}
use Rattle.free_runs.specs.declared.Gone.{Gone}
use Rattle.free_runs.specs.View.{staying}

unfoldable pub least_sizes : Gone → List ℕ → Geometry → ℤ → Geometry
least_sizes gone s g z = trimmed_to (staying gone (entries_of (items_of s g))) g z

-- the edition and the index area's size are kept
abbrev pub SameIndex : Geometry → Geometry → Type 0
SameIndex k g = (k.edition ≡ g.edition) × (k.index_bytes ≡ g.index_bytes)

module _ (gone : Gone) (s : List ℕ) (g : Geometry) (z : ℤ) where
  abbrev stay : List Entry
  stay = staying gone (entries_of (items_of s g))

  pub least-index : (k : Geometry) → k ≡ least_sizes gone s g z → SameIndex k g
  unfolding least_sizes trim_data with_data
  least-index k e =
      let t : Geometry = trim_data g (least_end stay) in
      (ap (λ (x : Geometry). x.edition) e ∙ (same-restamp t g (same-trim g g (same_self g) (least_end stay)) g z).edition-same, ap (λ (x : Geometry). x.index_bytes) e ∙ restamp-index g t z)

  -- as a program finds them: from a cursor at the first inner slot on
  pub sizes-are : (c : Cursor) → items_from s c ≡ items_of s g
      → (e : ℕ) (t k : Geometry) → e ≡ least_end (staying gone (entries_from s c)) → t ≡ trim_data g e → k ≡ restamp g t z → k ≡ least_sizes gone s g z
  unfolding least_sizes
  sizes-are c items e t k x y w = w ∙ ap (λ h. restamp g h z) (y ∙ ap (trim_data g) (x ∙ ap (λ is. least_end (staying gone (entries_of is))) items))
