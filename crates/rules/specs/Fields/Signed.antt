-- Laws of the signed numbers of 64 bits: there and back.
use Rattle.std.specs.Prelude.{ℕ, ◌-◌, ◌^◌, ◌≤◌, ◌<◌, ◌≡◌, ℤ, pos, negsuc}
use Rattle.std.proofs.Common.{ap, ◌∙◌, arith, mod-lt, mod-eq_of_lt, lt-ltb, le-ltb}
use Rattle.std.proofs.Math.Decide.{dec_lt}
use Rattle.std.specs.Int.Signed.{mag}
use Rattle.rules.specs.Lists.Laws.{pick_true, pick-false}
use Rattle.rules.specs.Fields.{signed_of, bits_of}

-- ---- by cases
pub signed_of-low : (n : ℕ) → n < 2 ^ 63 → signed_of n ≡ pos n
unfolding signed_of
signed_of-low n h = pick_true _ _ (lt-ltb n (2 ^ 63) h)

pub signed_of-high : (n : ℕ) → 2 ^ 63 ≤ n → signed_of n ≡ negsuc (2 ^ 64 - 1 - n)
unfolding signed_of
signed_of-high n h = pick-false _ _ (le-ltb n (2 ^ 63) h)

pub bits_of-pos : (n : ℕ) → n < 2 ^ 64 → bits_of (pos n) ≡ n
unfolding bits_of
bits_of-pos n h = mod-eq_of_lt h

pub bits_of-neg : (n : ℕ) → n < 2 ^ 64 → bits_of (negsuc n) ≡ 2 ^ 64 - 1 - n
unfolding bits_of
bits_of-neg n h = ap (λ (r : ℕ). 2 ^ 64 - 1 - r) (mod-eq_of_lt h)

-- ---- how large
pub bits_of-lt : (z : ℤ) → bits_of z < 2 ^ 64
unfolding bits_of
bits_of-lt (pos n) = mod-lt n (omega arith)
bits_of-lt (negsuc n) = omega arith

pub signed_of-mag : (n : ℕ) → n < 2 ^ 64 → mag (signed_of n) < 2 ^ 63
signed_of-mag n h = go (dec_lt n (2 ^ 63))
  where
    go : Dec (n < 2 ^ 63) → mag (signed_of n) < 2 ^ 63
    go (yes k) = rw (signed_of-low n k) k
    go (no k) = rw (signed_of-high n (omega arith)) (omega arith)

-- ---- there and back
pub signed-bits : (z : ℤ) → mag z < 2 ^ 63 → signed_of (bits_of z) ≡ z
signed-bits (pos n) h = ap signed_of (bits_of-pos n (omega arith)) ∙ signed_of-low n h
signed-bits (negsuc n) h =
    let e : 2 ^ 64 - 1 - (2 ^ 64 - 1 - n) ≡ n = omega arith in
    ap signed_of (bits_of-neg n (omega arith)) ∙ signed_of-high (2 ^ 64 - 1 - n) (omega arith) ∙ ap negsuc e

pub bits-signed : (n : ℕ) → n < 2 ^ 64 → bits_of (signed_of n) ≡ n
bits-signed n h = go (dec_lt n (2 ^ 63))
  where
    go : Dec (n < 2 ^ 63) → bits_of (signed_of n) ≡ n
    go (yes k) = rw (signed_of-low n k) (bits_of-pos n h)
    go (no k) = rw (signed_of-high n (omega arith), bits_of-neg (2 ^ 64 - 1 - n) (omega arith)) (omega arith)
