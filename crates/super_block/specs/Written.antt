-- A super-block that is written field by field: writings side by side are one.
use Rattle.std.specs.Prelude.{ℕ, ◌+◌, ◌≤◌, ◌<◌, ◌≡◌, length}
use Rattle.std.proofs.Math.Path.{refl, sym, ap}
use Rattle.std.proofs.Common.{◌∙◌, arith}
use mathlib.Core.List.{List, [], ◌∷◌, ◌++◌, append_assoc}
use Rattle.std.proofs.Math.ListN.{length-append}
use Rattle.rules.specs.Lists.{part}
use Rattle.rules.specs.Fields.{le_bytes, splice, stamp_bytes, checksum_of}
use Rattle.rules.specs.Fields.Laws.{length-le_bytes, part-splice-in}
use Rattle.rules.specs.Editions.{super_block_at}
use Rattle.rules.specs.Editions.Laws.{super-bounds}
use Rattle.rules.specs.SuperBlock.{Geometry, data_at, index_at, magic_at, version_at, total_at, reserved_at, block_field_at, magic, sizes_bytes, summed_bytes, super_block_bytes, put_sizes}
use Rattle.rules.specs.SuperBlock.Laws.{length-sizes, length-summed, length-put_sizes}
use Rattle.fields.specs.Written.{byte-alone, join, length-stamp}

magic-number : le_bytes 3 0x53_4653 ≡ magic
unfolding le_bytes
magic-number = refl

module _ (s : List ℕ) (room : 0x1BE ≤ length s) (g : Geometry) where
  pub sizes-put : (p q r : ℕ) → p ≡ (super_block_at g.edition) → q ≡ (data_at g.edition) → r ≡ (index_at g.edition) → (s₁ s₂ s₃ : List ℕ)
      → s₁ ≡ splice s p (stamp_bytes g.stamp)
      → s₂ ≡ splice s₁ q (le_bytes 8 g.data_blocks)
      → s₃ ≡ splice s₂ r (le_bytes 8 g.index_bytes)
      → s₃ ≡ put_sizes s g
  unfolding put_sizes sizes_bytes
  sizes-put p q r p-is q-is r-is s₁ s₂ s₃ e₁ e₂ e₃ =
      let x = stamp_bytes g.stamp in
      let y = le_bytes 8 g.data_blocks in
      let z = le_bytes 8 g.index_bytes in
      rw (
        e₃,
        e₂,
        e₁,
        p-is,
        q-is,
        r-is,
        join s (super_block_at g.edition) x 8 y (length-stamp _) (rw length-le_bytes (omega (arith, super-bounds g.edition))),
        join s (super_block_at g.edition) (x ++ y) 16 z (simp (length-append, length-stamp, length-le_bytes)) (rw length-le_bytes (omega (arith, super-bounds g.edition))),
      )
      (ap (splice s (super_block_at g.edition)) (append_assoc x y z))

  pub summed-put : (p₁ p₂ p₃ p₄ p₅ : ℕ) → p₁ ≡ (magic_at g.edition) → p₂ ≡ (version_at g.edition) → p₃ ≡ (total_at g.edition) → p₄ ≡ (reserved_at g.edition) → p₅ ≡ (block_field_at g.edition) → (s₁ s₂ s₃ s₄ s₅ : List ℕ) (v b : ℕ)
      → v ≡ g.version → v < 256 → b ≡ g.block_field → b < 256
      → s₁ ≡ splice s p₁ (le_bytes 3 0x53_4653)
      → s₂ ≡ splice s₁ p₂ (le_bytes 1 v)
      → s₃ ≡ splice s₂ p₃ (le_bytes 8 g.total)
      → s₄ ≡ splice s₃ p₄ (le_bytes 4 g.reserved)
      → s₅ ≡ splice s₄ p₅ (le_bytes 1 b)
      → s₅ ≡ splice s (magic_at g.edition) (summed_bytes g)
  unfolding summed_bytes
  summed-put p₁ p₂ p₃ p₄ p₅ i₁ i₂ i₃ i₄ i₅ s₁ s₂ s₃ s₄ s₅ v b v-is v-fits b-is b-fits e₁ e₂ e₃ e₄ e₅ =
      let x = g.version ∷ [] in
      let y = le_bytes 8 g.total in
      let z = le_bytes 4 g.reserved in
      let w = g.block_field ∷ [] in
      let ex : le_bytes 1 v ≡ x = rw (← v-is) (byte-alone v v-fits) in
      let ew : le_bytes 1 b ≡ w = rw (← b-is) (byte-alone b b-fits) in
      rw (
        e₅,
        e₄,
        e₃,
        e₂,
        e₁,
        i₁,
        i₂,
        i₃,
        i₄,
        i₅,
        magic-number,
        ex,
        ew,
        join s (magic_at g.edition) magic 3 x refl (omega (arith, super-bounds g.edition)),
        join s (magic_at g.edition) (magic ++ x) 4 y refl (rw length-le_bytes (omega (arith, super-bounds g.edition))),
        join s (magic_at g.edition) ((magic ++ x) ++ y) 12 z (simp length-le_bytes) (rw length-le_bytes (omega (arith, super-bounds g.edition))),
        join s (magic_at g.edition) (((magic ++ x) ++ y) ++ z) 16 w (simp (length-append, length-le_bytes)) (omega (arith, super-bounds g.edition)),
      )
      (ap (splice s (magic_at g.edition)) (simp append_assoc))

  -- the checksum is over what was just written
  module _ (t : List ℕ) (sums : t ≡ splice (put_sizes s g) (magic_at g.edition) (summed_bytes g)) where
    summed-part : part t (magic_at g.edition) 17 ≡ summed_bytes g
    summed-part =
        let fits : (magic_at g.edition) + length (summed_bytes g) ≤ length (put_sizes s g) = omega (arith, length-summed g, length-put_sizes s g (omega (arith, super-bounds g.edition)), super-bounds g.edition) in
        rw sums (rw length-summed at (part-splice-in (put_sizes s g) (magic_at g.edition) (summed_bytes g) fits))

    pub super-put : (k p : ℕ) (u : List ℕ) → p ≡ super_block_at g.edition + 41 → k ≡ checksum_of (part t (magic_at g.edition) 17) → k < 256 → u ≡ splice t p (le_bytes 1 k) → u ≡ splice s (super_block_at g.edition) (super_block_bytes g)
    unfolding put_sizes super_block_bytes
    super-put k p u p-is k-is k-fits e =
        let z = k ∷ [] in
        let i : checksum_of (summed_bytes g) ≡ k = sym (k-is ∙ ap checksum_of summed-part) in
        rw (
          e,
          p-is,
          sums,
          byte-alone k k-fits,
          join s (super_block_at g.edition) (sizes_bytes g) 24 (summed_bytes g) (length-sizes g) (omega (arith, length-summed g, super-bounds g.edition)),
          join s (super_block_at g.edition) (sizes_bytes g ++ summed_bytes g) 41 z (omega (arith, length-append (sizes_bytes g) (summed_bytes g), length-sizes g, length-summed g)) (omega (arith, super-bounds g.edition)),
          i,
        )
        (ap (splice s (super_block_at g.edition)) (append_assoc (sizes_bytes g) (summed_bytes g) z))
