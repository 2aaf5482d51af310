-- The two ends of the index where a program finds them, and as it writes them.
use Prim.Native.Nat.{ℕ, ◌+◌, ◌-◌, ◌*◌, ◌≤◌}
use Rattle.std.specs.Prelude.{◌≡◌, Bool, true, false, ◌&&◌, take, drop, ℤ}
use Rattle.std.proofs.Math.Path.{refl, sym, ap}
use Rattle.std.proofs.Common.{◌∙◌}
use mathlib.Core.List.{List, ◌∷◌, ◌++◌, append_assoc}
use native.Mathlib.Omega.{arith}
use Rattle.std.proofs.Math.ListN.{length, get_or, replicate, length-append, length-replicate}
use Rattle.std.proofs.Math.Dec.{eqb}
use borrow.Author.Tests.{eq-eqb, ne_eqb}
use Rattle.rules.specs.Lists.{part, padded}
use Rattle.rules.specs.Lists.Laws.{and_left, and_right, pick_true, pick-false, length-padded}
use Rattle.rules.specs.Fields.{byte_at, le, has_zero, up_to_zero, splice, le_bytes, stamp_bytes, signed_of, stamp_in, byte_sum}
use Rattle.rules.specs.Fields.Laws.{up_to_zero-take, byte_sum-append, byte_sum-zeros, byte_sum-padded}
use Rattle.rules.specs.Editions.{Edition, edition10, edition110, by_edition, sum_length, sum_good, sum_of}
use Rattle.rules.specs.Editions.Laws.{length-sum, sum-short}
use Rattle.rules.specs.Names.{volume_text_good}
use Rattle.rules.specs.SuperBlock.{Geometry}
use Rattle.rules.specs.Index.{slot_at, identifier_at, volume_field, volume_name, volume_stamp, identifier_good, marker_good, type_identifier, type_marker, marker_bytes, identifier_bytes}
use Rattle.rules.specs.Refusals.Laws.{length-marker, length-identifier, identifier_head, identifier-parts}
use Rattle.rules.specs.Writing.{put_marker}
use Rattle.fields.specs.Written.{join, length-stamp}
use Rattle.runs.specs.Sealed.{sealed}

-- ---- the identifier, the last slot
pub identifier-place : (s : List ℕ) (at : ℕ) → 64 ≤ length s → at ≡ length s - 64 → (at ≡ identifier_at s) × (at + 64 ≡ length s)
unfolding identifier_at
identifier-place s at h e = (e, omega arith)

-- the name, by the place n of the first zero in its field f
pub name-part : (s f : List ℕ) → f ≡ volume_field s → (n : ℕ) → n ≡ length (up_to_zero f) → take n f ≡ volume_name s
unfolding volume_name
name-part s f field n is = ap (λ (m : ℕ). take m f) is ∙ sym (up_to_zero-take f) ∙ ap up_to_zero field

module _ (s : List ℕ) (at : ℕ) (place : at ≡ identifier_at s) where
  pub field-read : at + 64 ≡ length s → (x : ℕ) → x ≡ at + 12 → take (length s - x) (drop x s) ≡ volume_field s
  unfolding volume_field part
  field-read room x e =
      let w : length s - x ≡ 52 = omega arith in
      rw (w, ← place, e)

  pub stamp-read : (b x : ℕ) → x ≡ at + 4 → b ≡ le 8 s x → signed_of b ≡ volume_stamp s
  unfolding volume_stamp stamp_in
  stamp-read b x e f = ap signed_of f ∙ rw (e, place)

  -- as a program tests it: its type, then the sum and the name
  module _ (ed : Edition) (k : ℕ) (kind : k ≡ get_or s at 0) where
    type-is : byte_at s (identifier_at s) ≡ k
    unfolding byte_at
    type-is = sym (kind ∙ ap (λ (i : ℕ). get_or s i 0) place)

    pub identifier-type : (k ≡ type_identifier → ⊥) → false ≡ identifier_good ed s
    unfolding identifier_good
    identifier-type d = sym (and_left _ _ (and_left _ _ (and_left _ _ (ap (λ (t : ℕ). eqb t type_identifier) type-is ∙ ne_eqb k type_identifier d))))

    module _ (b : Bool) (sums : b ≡ sum_good ed (take 64 (drop at s))) where
      sum_is : sum_good ed (part s (identifier_at s) 64) ≡ b
      unfolding part
      sum_is = sym (sums ∙ ap (λ (i : ℕ). sum_good ed (take 64 (drop i s))) place)

      pub identifier-broken : b ≡ false → false ≡ identifier_good ed s
      unfolding identifier_good
      identifier-broken z = sym (and_left _ _ (and_left _ _ (and_right (eqb (byte_at s (identifier_at s)) type_identifier) _ (sum_is ∙ z))))

      pub identifier-named : k ≡ type_identifier → b ≡ true → (f : List ℕ) → f ≡ volume_field s → (r : Bool) → r ≡ (has_zero f && volume_text_good (up_to_zero f)) → r ≡ identifier_good ed s
      unfolding identifier_good volume_name
      identifier-named t z f field r e = rw (type-is, eq-eqb k type_identifier t, sum_is ∙ z, ← field) e

-- ---- the start marker
module _ (s : List ℕ) (g : Geometry) (at k : ℕ) (place : at ≡ length s - g.index_bytes) (kind : k ≡ get_or s at 0) where
  first_slot : slot_at s g 0 ≡ at
  unfolding slot_at
  first_slot = omega arith

  mark-is : byte_at s (slot_at s g 0) ≡ k
  unfolding byte_at
  mark-is = ap (λ (i : ℕ). get_or s i 0) first_slot ∙ sym kind

  pub marker-type : (k ≡ type_marker → ⊥) → false ≡ marker_good s g
  unfolding marker_good
  marker-type d = sym (and_left _ _ (ap (λ (t : ℕ). eqb t type_marker) mark-is ∙ ne_eqb k type_marker d))

  pub marker-summed : k ≡ type_marker → (b : Bool) → b ≡ sum_good g.edition (take 64 (drop at s)) → b ≡ marker_good s g
  unfolding marker_good part
  marker-summed t b e = rw (mark-is, eq-eqb k type_marker t, first_slot) e

pub marker-moves : (s t : List ℕ) (old new : Geometry) (at : ℕ) → (old.index_bytes ≡ new.index_bytes → ⊥) → at ≡ length s - new.index_bytes → t ≡ splice s at (marker_bytes new.edition) → t ≡ put_marker s old new
unfolding put_marker slot_at
marker-moves s t old new at d e f =
    let z : at ≡ length s - new.index_bytes + 64 * 0 = omega arith in
    f ∙ ap (λ (k : ℕ). splice s k (marker_bytes new.edition)) z ∙ sym (pick-false _ _ (ne_eqb old.index_bytes new.index_bytes d))

pub marker-stays : (s : List ℕ) (old new : Geometry) → old.index_bytes ≡ new.index_bytes → s ≡ put_marker s old new
unfolding put_marker
marker-stays s old new e = sym (pick_true _ _ (eq-eqb old.index_bytes new.index_bytes e))

-- ---- the identifier, written
-- its type and the zeros behind it are a number of four bytes
type-number : le_bytes 4 type_identifier ≡ type_identifier ∷ replicate 3 0
unfolding le_bytes
type-number = refl

-- the first of those zeros is in the place of the sum
zeros-apart : (ed : Edition) → replicate {A = ℕ} 3 0 ≡ replicate (sum_length ed) 0 ++ replicate (3 - sum_length ed) 0
unfolding sum_length by_edition
zeros-apart edition10 = refl
zeros-apart edition110 = refl

sum-padded : (ed : Edition) (bs : List ℕ) → padded (sum_of ed bs) 3 ≡ sum_of ed bs ++ replicate (3 - sum_length ed) 0
unfolding padded
sum-padded ed bs = rw (length-sum ed bs)

module _ (ed : Edition) (z : ℤ) (name : List ℕ) (short : length name ≤ 52) where
  -- what stands behind the sum
  behind : List ℕ
  behind = replicate (3 - sum_length ed) 0 ++ (stamp_bytes z ++ padded name 52)

  length-behind : 1 + (sum_length ed + length behind) ≡ 64
  unfolding behind
  length-behind =
      omega (
        arith,
        length-append (replicate (3 - sum_length ed) 0) (stamp_bytes z ++ padded name 52),
        length-replicate {A = ℕ} (3 - sum_length ed) 0,
        length-append (stamp_bytes z) (padded name 52),
        length-stamp z,
        length-padded name 52 short,
        sum-short ed,
      )

  sum-behind : byte_sum behind ≡ byte_sum (stamp_bytes z ++ name)
  unfolding behind
  sum-behind =
      omega (
        arith,
        byte_sum-append (replicate (3 - sum_length ed) 0) (stamp_bytes z ++ padded name 52),
        byte_sum-zeros (3 - sum_length ed),
        byte_sum-append (stamp_bytes z) (padded name 52),
        byte_sum-padded name 52,
        byte_sum-append (stamp_bytes z) name,
      )

  identifier-behind : identifier_bytes ed z name ≡ type_identifier ∷ (sum_of ed (type_identifier ∷ stamp_bytes z ++ name) ++ behind)
  unfolding behind identifier_head
  identifier-behind =
      let x = stamp_bytes z in
      let y = padded name 52 in
      let sum : List ℕ = sum_of ed (type_identifier ∷ x ++ name) in
      identifier-parts ed z name
      ∙ append_assoc (type_identifier ∷ padded sum 3) x y
      ∙ ap (λ (bs : List ℕ). type_identifier ∷ (bs ++ (x ++ y))) (sum-padded ed (type_identifier ∷ x ++ name))
      ∙ ap (λ (bs : List ℕ). type_identifier ∷ bs) (append_assoc sum (replicate (3 - sum_length ed) 0) (x ++ y))

  pub identifier-put : (s : List ℕ) (at k q r e : ℕ) → at + 64 ≤ length s → k ≡ type_identifier → q ≡ at + 4 → r ≡ at + 12 → e ≡ at + 64 → (s₁ s₂ s₃ s₄ : List ℕ)
      → s₁ ≡ splice s at (le_bytes 4 k)
      → s₂ ≡ splice s₁ q (stamp_bytes z)
      → s₃ ≡ splice s₂ r (padded name (e - r))
      → s₄ ≡ splice s₃ (at + 1) (sum_of ed (part s₃ at 64))
      → s₄ ≡ splice s at (identifier_bytes ed z name)
  unfolding behind
  identifier-put s at k q r e room k-is q-is r-is e-is s₁ s₂ s₃ s₄ e₁ e₂ e₃ e₄ =
      let t = type_identifier ∷ replicate 3 0 in
      let x = stamp_bytes z in
      let y = padded name 52 in
      let w : e - r ≡ 52 = omega arith in
      let all : (t ++ x) ++ y ≡ type_identifier ∷ (replicate (sum_length ed) 0 ++ behind) =
      append_assoc t x y
      ∙ ap (λ (zs : List ℕ). type_identifier ∷ (zs ++ (x ++ y))) (zeros-apart ed)
      ∙ ap (λ (zs : List ℕ). type_identifier ∷ zs) (append_assoc (replicate (sum_length ed) 0) (replicate (3 - sum_length ed) 0) (x ++ y)) in
      let put : s₃ ≡ splice s at (type_identifier ∷ (replicate (sum_length ed) 0 ++ behind)) =
      rw (
        e₃,
        e₂,
        e₁,
        w,
        q-is,
        r-is,
        k-is,
        type-number,
        join s at t 4 x refl (omega (arith, length-stamp z)),
        join s at (t ++ x) 12 y (omega (arith, length-append t x, length-stamp z)) (omega (arith, length-padded name 52 short)),
      )
      (ap (splice s at) all) in
      sealed ed s at type_identifier 64 behind (x ++ name) sum-behind length-behind (omega arith) room s₃ s₄ put e₄ ∙ ap (splice s at) (sym identifier-behind)

  -- both, side by side
  pub ends-put : (s : List ℕ) (at p : ℕ) → at + 128 ≤ length s → p ≡ at + 64 → (s₁ s₂ : List ℕ) → s₁ ≡ splice s at (marker_bytes ed) → s₂ ≡ splice s₁ p (identifier_bytes ed z name)
      → s₂ ≡ splice s at (marker_bytes ed ++ identifier_bytes ed z name)
  ends-put s at p room p-is s₁ s₂ e₁ e₂ = rw (e₂, e₁, p-is) (join s at (marker_bytes ed) 64 (identifier_bytes ed z name) (length-marker ed) (omega (arith, length-identifier ed z name short)))
