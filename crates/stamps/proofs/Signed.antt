-- The library's words for a signed number, its bits and its division rounded down, in those of the rules. Assumes nothing.
use mathlib.Core.Bool.{true, false}
use mathlib.Core.Path.{◌≡◌, refl, sym, ap, ◌∙◌}
use Prim.Native.Nat.{ℕ, suc, ◌-◌, ◌%◌, ◌^◌, ◌<◌}
use native.Mathlib.Decide.{dec_lt}
use native.Mathlib.Omega.{arith}
use lib.IntN.{ℤ, pos, negsuc, nat_abs}
use lib.Dec.{T}
use lib.Signed.{lt_z, non_neg, mag, ◌<ℤ◌}
use mir.Syntax.{w64}
use mir.Val.{Fits, SFits, of_z, to_z}
use mir.ValLaws.{to_z-of_z, to_z_pos, to_z-neg}
use borrow.Author.Tests.{ltb-true}
use Rattle.std.specs.Int.{int_div_euclid, int_rem_euclid}
use Rattle.rules.specs.Lists.Laws.{clash}
use Rattle.rules.specs.Fields.{signed_of, bits_of}
use Rattle.rules.specs.Fields.Signed.{signed_of-low, signed_of-high, bits_of-pos, bits_of-neg}
use Rattle.rules.specs.Dates.{floor_div, floor_mod}

-- -1 - z, which is what `!z` computes
abbrev pub flip : ℤ → ℤ
flip (pos n) = negsuc n
flip (negsuc n) = pos n

pub not_back : (z : ℤ) → SFits w64 z → to_z w64 (2 ^ 64 - 1 - of_z w64 z) ≡ flip z
not_back (pos n) f =
    let e : 2 ^ 64 - 1 - n ≡ 2 ^ 64 - suc n = omega arith in
    rw e (to_z-neg w64 n f.sfits)
not_back (negsuc n) f =
    let h : n < 2 ^ 63 = f.sfits in
    let e : 2 ^ 64 - 1 - (2 ^ 64 - suc n) ≡ n = omega arith in
    rw e (to_z_pos w64 n h)

-- ---- the bits of a number
pub signed-is : (x : ℕ) → Fits w64 x → to_z w64 x ≡ signed_of x
signed-is x f = by (dec_lt x (2 ^ 63))
  where
    by : Dec (x < 2 ^ 63) → to_z w64 x ≡ signed_of x
    by (yes h) = to_z_pos w64 x h ∙ sym (signed_of-low x h)
    by (no h) =
        let g : x < 2 ^ 64 = f.fits in
        let e : 2 ^ 64 - suc (2 ^ 64 - 1 - x) ≡ x = omega arith in
        (rw e at (to_z-neg w64 (2 ^ 64 - 1 - x) (omega arith))) ∙ sym (signed_of-high x (omega arith))

pub bits-are : (z : ℤ) → SFits w64 z → of_z w64 z ≡ bits_of z
bits-are (pos n) f = let h : n < 2 ^ 63 = f.sfits in sym (bits_of-pos n (omega arith))
bits-are (negsuc n) f = let h : n < 2 ^ 63 = f.sfits in let e : 2 ^ 64 - suc n ≡ 2 ^ 64 - 1 - n = omega arith in e ∙ sym (bits_of-neg n (omega arith))

-- ---- the cases of a branch on `z < 0`, where the branch reads z back from its bits
pub is-neg : (z : ℤ) → SFits w64 z → lt_z (to_z w64 (of_z w64 z)) (pos 0) ≡ true → (n : ℕ) × (z ≡ negsuc n) × (n < 2 ^ 63)
is-neg (pos n) f e = let h : n < 0 = ltb-true n 0 (rw (to_z_pos w64 n f.sfits) at e) in absurd (omega arith)
is-neg (negsuc n) f e = (n, refl, f.sfits)

pub is_pos : (z : ℤ) → SFits w64 z → lt_z (to_z w64 (of_z w64 z)) (pos 0) ≡ false → (n : ℕ) × (z ≡ pos n) × (n < 2 ^ 63)
is_pos (pos n) f e = (n, refl, f.sfits)
is_pos (negsuc n) f e = clash (rw (to_z-neg w64 n f.sfits) at e)

-- ---- a cast of a number whose sign a branch told
pub to-neg-cast : (n : ℕ) → n < 2 ^ 63
    → T (non_neg (to_z w64 (2 ^ 64 - 1 - of_z w64 (negsuc n)))) × Fits w64 (nat_abs (to_z w64 (2 ^ 64 - 1 - of_z w64 (negsuc n))))
to-neg-cast n h = rw (not_back (negsuc n) (record { sfits = h })) (tt, record { fits = omega arith })

pub to-pos-cast : (n : ℕ) → n < 2 ^ 63 → T (non_neg (to_z w64 (of_z w64 (pos n)))) × Fits w64 (nat_abs (to_z w64 (of_z w64 (pos n))))
to-pos-cast n h = rw (to_z_pos w64 n h) (tt, record { fits = omega arith })

-- ---- the quotient rounded down and what is left, as the code reads them back from their bits
div_is : (z : ℤ) (b : ℕ) → int_div_euclid z (pos b) ≡ floor_div z b
unfolding floor_div
div_is (pos n) b = refl
div_is (negsuc n) b = refl

rem_is : (z : ℤ) (b : ℕ) → nat_abs (int_rem_euclid z (pos b)) ≡ floor_mod z b
unfolding floor_mod
rem_is (pos n) b = refl
rem_is (negsuc n) b = refl

module _ (r x z : ℤ) (b : ℕ) (f : mag r < 2 ^ 63) (same : x ≡ z) where
  pub quotient : r ≡ int_div_euclid x (pos b) → to_z w64 (of_z w64 r) ≡ floor_div z b
  quotient e = to_z-of_z w64 r (record { sfits = f }) ∙ e ∙ rw same (div_is z b)

  pub left : r ≡ int_rem_euclid x (pos b) → nat_abs (to_z w64 (of_z w64 r)) ≡ floor_mod z b
  left e = ap nat_abs (to_z-of_z w64 r (record { sfits = f }) ∙ e) ∙ rw same (rem_is z b)

-- by a number above 0 that is no literal
pub quotient-by : (r x z b y : ℤ) → mag r < 2 ^ 63 → x ≡ z → pos 0 <ℤ b → y ≡ b → r ≡ int_div_euclid x y → to_z w64 (of_z w64 r) ≡ floor_div z (nat_abs b)
quotient-by r x z (pos m) y f same above is e = quotient r x z m f same (e ∙ ap (int_div_euclid x) is)
quotient-by r x z (negsuc m) y f same above is e = absurd above.lt

-- ---- what is left, by the sign: a divisor need not fit a signed number
module _ (b n : ℕ) (h : n < 2 ^ 63) where
  pub mod-neg : b - 1 - nat_abs (to_z w64 (2 ^ 64 - 1 - of_z w64 (negsuc n))) % b ≡ floor_mod (negsuc n) b
  unfolding floor_mod
  mod-neg = rw (not_back (negsuc n) (record { sfits = h }))

  pub mod-pos : nat_abs (to_z w64 (of_z w64 (pos n))) % b ≡ floor_mod (pos n) b
  unfolding floor_mod
  mod-pos = rw (to_z_pos w64 n h)
