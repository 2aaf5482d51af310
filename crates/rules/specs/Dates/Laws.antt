-- Laws of the rounded-down quotient and its remainder, and how large signed numbers are.
use Rattle.std.specs.Prelude.{ℕ, zero, suc, ◌+◌, ◌-◌, ◌*◌, ◌/◌, ◌%◌, ◌≤◌, ◌<◌, ◌≡◌, refl, Bool, true, false, cond, ltb, ℤ, pos, negsuc, neg_ℤ, ◌+ℤ◌, ◌*ℤ◌}
use Rattle.std.proofs.Common.{ap, ◌∙◌, mod-lt, mod-eq_of_lt, mul-le-mul_right, div-add-mod', suc-mul, arith, lt-ltb, le-ltb}
use Rattle.std.proofs.Math.Nat.{le-suc, div-eq_of_lt, mul-add-div_right, mul-add-mod_self_right}
use Rattle.std.specs.Int.Signed.{mag}
use Rattle.rules.specs.Dates.{floor_div, floor_mod}

-- ---- -k + j, by which is more, and -n
pub neg_sum : (k j n : ℕ) → k ≡ n + j + 1 → neg_ℤ (pos k) +ℤ pos j ≡ negsuc n
neg_sum zero j n e = absurd (omega arith)
neg_sum (suc k) j n e =
    let h : j < suc k = omega arith in
    let q : suc k - suc j ≡ n = omega arith in
    simp (lt-ltb j (suc k) h, q)

pub pos_sum : (k j n : ℕ) → j ≡ n + k → neg_ℤ (pos k) +ℤ pos j ≡ pos n
pos_sum zero j n e = ap pos (omega arith)
pos_sum (suc k) j n e =
    let h : suc k ≤ j = omega arith in
    let q : j - suc k ≡ n = omega arith in
    simp (le-ltb j (suc k) h, q)

pub neg_of : (n : ℕ) → 0 < n → neg_ℤ (pos n) ≡ negsuc (n - 1)
neg_of zero h = absurd (omega arith)
neg_of (suc n) h = ap negsuc (omega arith)

-- ---- the rounded-down quotient and its remainder
pub floor-law : (z : ℤ) (b : ℕ) → 0 < b → floor_div z b *ℤ pos b +ℤ pos (floor_mod z b) ≡ z
unfolding floor_div floor_mod
floor-law (pos n) b h = ap pos (div-add-mod' n b)
floor-law (negsuc n) b h =
    neg_sum (suc (n / b) * b) (b - 1 - n % b) n (omega (arith, div-add-mod' n b, mod-lt n h, suc-mul (n / b) b))

pub mod_below : (z : ℤ) (b : ℕ) → 0 < b → floor_mod z b < b
unfolding floor_mod
mod_below (pos n) b h = mod-lt n h
mod_below (negsuc n) b h = omega arith

div-of : (q b r : ℕ) → r < b → (q * b + r) / b ≡ q
div-of q b r h = mul-add-div_right {m = b} (omega arith) q r ∙ omega (arith, div-eq_of_lt h)

mod-of : (q b r : ℕ) → r < b → (q * b + r) % b ≡ r
mod-of q b r h = mul-add-mod_self_right q b r ∙ mod-eq_of_lt h

-- they are what a multiple and a rest were put together from
pub floor-of : (q : ℤ) (b r : ℕ) → r < b → (floor_div (q *ℤ pos b +ℤ pos r) b ≡ q) × (floor_mod (q *ℤ pos b +ℤ pos r) b ≡ r)
unfolding floor_div floor_mod
floor-of (pos k) b r h = (ap pos (div-of k b r h), mod-of k b r h)
floor-of (negsuc k) b r h =
    let s : b - 1 - r < b = omega arith in
    rw (neg_sum (suc k * b) r (k * b + (b - 1 - r)) (omega (arith, suc-mul k b)))
    (ap negsuc (div-of k b (b - 1 - r) s), omega (arith, mod-of k b (b - 1 - r) s))

-- ---- how large a quotient, a negative, a product and a sum are: `mag` of n is n, of -(n + 1) too
pub mag-div : (z : ℤ) (b : ℕ) → mag (floor_div z b) ≡ mag z / b
unfolding floor_div
mag-div (pos n) b = refl
mag-div (negsuc n) b = refl

pub mag-neg : (r : ℕ) → mag (neg_ℤ (pos r)) ≡ r - 1
mag-neg zero = refl
mag-neg (suc r) = omega arith

pub mag-mul : (z : ℤ) (k : ℕ) → mag (z *ℤ pos k) ≤ suc (mag z) * k
mag-mul (pos a) k = mul-le-mul_right k (le-suc a)
mag-mul (negsuc a) k = omega (arith, mag-neg (suc a * k))

mag-sub : (b : Bool) (a k : ℕ) → mag (cond b (negsuc (suc a - suc k)) (pos (k - suc a))) ≤ a + k
mag-sub true a k = omega arith
mag-sub false a k = omega arith

pub mag-add : (z : ℤ) (k : ℕ) → mag (z +ℤ pos k) ≤ mag z + k
mag-add (pos a) k = omega arith
mag-add (negsuc a) k = mag-sub (ltb k (suc a)) a k
