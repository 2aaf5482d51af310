-- A number with one set bit is a power of two, and what follows for the five block sizes. Assumes nothing.
use mathlib.Core.Path.{◌≡◌, refl, sym, ap, ◌∙◌}
use Prim.Native.Nat.{ℕ, zero, suc, ◌+◌, ◌-◌, ◌*◌, ◌/◌, ◌%◌, ◌^◌, ◌≤◌, ◌<◌}
use native.Mathlib.Nat.{pow-suc}
use native.Mathlib.Decide.{dec_lt}
use native.Mathlib.Omega.{arith}
use lib.Count.{ones, ones_in, ones_step, ones_cat, count_trailing_zeros}
use lib.Pow.{pow-add, pow_mono, pow_pos}
use mir.Syntax.{w8}
use mir.Val.{Fits}
use borrow.Author.Tests.{ne_eqb}
use mathlib.Core.Option.{none, some}
use Rattle.rules.specs.Lists.{pick}
use Rattle.rules.specs.SuperBlock.{field_of, block_bytes}

-- no set bit: the number is 0
pub no_ones : (k n : ℕ) → n < 2 ^ k → ones n ≡ 0 → n ≡ 0
no_ones zero n h e = omega arith
no_ones (suc k) n h e =
    let s : n % 2 + ones (n / 2) ≡ 0 = sym (ones_step n) ∙ e in
    let g : n / 2 < 2 ^ k = omega (arith, pow-suc 2 k) in
    omega (arith, no_ones k (n / 2) g (omega arith))

-- one set bit: a power of two. (The recursive call is passed to the helper as `rec`.)
unfoldable pub Power : ℕ → ℕ → Type 0
Power k n = (j : ℕ) × (n ≡ 2 ^ j) × (j < k)

step : (k n : ℕ) → n < 2 ^ suc k → n % 2 + ones (n / 2) ≡ 1 → (ones (n / 2) ≡ 1 → Power k (n / 2)) → Dec (n % 2 < 1) → Power (suc k) n
unfolding Power
step k n h s rec (yes z) =
    let (j, p, l) = rec (omega arith) in
    (suc j, omega (arith, pow-suc 2 j), omega arith)
step k n h s rec (no z) =
    (0, omega (arith, no_ones k (n / 2) (omega (arith, pow-suc 2 k)) (omega arith)), omega arith)

pub one-one : (k n : ℕ) → n < 2 ^ k → ones n ≡ 1 → Power k n
unfolding ones ones_in Power
one-one zero n h e =
    let z : n ≡ 0 = omega arith in
    let w : ◌≡◌ {A = ℕ} 0 1 = ap ones (sym z) ∙ e in
    absurd (omega arith)
one-one (suc k) n h e =
    step k n h (sym (ones_step n) ∙ e) (one-one k (n / 2) (omega (arith, pow-suc 2 k))) (dec_lt (n % 2) 1)

-- a power of two has one set bit
pub ones-pow : (j : ℕ) → ones (2 ^ j) ≡ 1
unfolding ones ones_in
ones-pow j =
    let e : 1 * 2 ^ j + 0 ≡ 2 ^ j = omega arith in
    rw e at (ones_cat j 1 0 (omega (arith, pow_pos j)))

-- ---- the five sizes
-- no size: refused
pub no_size : (n : ℕ) → ((i : ℕ) → i < 5 → n ≡ 2 ^ (8 + i) → ⊥) → none ≡ field_of n
unfolding field_of pick
no_size n f =
    simp (ne_eqb n 256 (f 0 (omega arith)), ne_eqb n 512 (f 1 (omega arith)), ne_eqb n 1024 (f 2 (omega arith)), ne_eqb n 2048 (f 3 (omega arith)), ne_eqb n 4096 (f 4 (omega arith)))

low : (i : ℕ) → 256 ≤ 2 ^ (8 + i)
low i = pow_mono {i = 8} {j = 8 + i} (omega arith)

high : (i : ℕ) → i < 5 → 2 ^ (8 + i) ≤ 4096
high i h = pow_mono {i = 8 + i} {j = 12} (omega arith)

pub too_small : (n : ℕ) → n < 256 → none ≡ field_of n
too_small n h = no_size n (λ i l e. omega (arith, low i))

pub too_large : (n : ℕ) → 4096 < n → none ≡ field_of n
too_large n h = no_size n (λ i l e. omega (arith, high i l))

pub no_power : (n : ℕ) → (ones n ≡ 1 → ⊥) → none ≡ field_of n
no_power n h = no_size n (λ i l e. h (ap ones e ∙ ones-pow (8 + i)))

-- a size: its field is what the trailing zeros give
unfoldable pub FieldRight : ℕ → Type 0
FieldRight n = (7 ≤ count_trailing_zeros 64 n) × Fits w8 (count_trailing_zeros 64 n - 7) × (some (count_trailing_zeros 64 n - 7) ≡ field_of n)

five : (i : ℕ) → i < 5 → FieldRight (2 ^ (8 + i))
unfolding FieldRight count_trailing_zeros field_of pick
five zero h = (omega arith, record { fits = omega arith }, refl)
five (suc zero) h = (omega arith, record { fits = omega arith }, refl)
five (suc (suc zero)) h = (omega arith, record { fits = omega arith }, refl)
five (suc (suc (suc zero))) h = (omega arith, record { fits = omega arith }, refl)
five (suc (suc (suc (suc zero)))) h = (omega arith, record { fits = omega arith }, refl)
five (suc (suc (suc (suc (suc i))))) h = absurd (omega arith)

pub right : (n : ℕ) → 256 ≤ n → n ≤ 4096 → ones n ≡ 1 → FieldRight n
unfolding Power
right n a b e =
    let (j, p, l) = one-one 13 n (omega arith) e in
    let q : 8 ≤ j = large j (omega arith) in
    let r : j ≡ 8 + (j - 8) = omega arith in
    rw (p, r) (five (j - 8) (omega arith))
  where
    large : (j : ℕ) → 256 ≤ 2 ^ j → 8 ≤ j
    large j h = go (dec_lt j 8)
      where
        go : Dec (j < 8) → 8 ≤ j
        go (yes k) = absurd (omega (arith, pow_mono {i = j} {j = 7} (omega arith)))
        go (no k) = omega arith

-- ---- a field's block: 128 shifted
pub shifted : (b : ℕ) → b ≤ 5 → (128 * 2 ^ b % 2 ^ 64 ≡ block_bytes b) × (128 ≤ 128 * 2 ^ b % 2 ^ 64) × (128 * 2 ^ b % 2 ^ 64 ≤ 4096)
unfolding block_bytes
shifted b h =
    let p : 2 ^ b ≤ 2 ^ 5 = pow_mono h in
    let q : 0 < 2 ^ b = pow_pos b in
    let e : 2 ^ (b + 7) ≡ 2 ^ b * 2 ^ 7 = pow-add 2 b 7 in
    (omega arith, omega arith, omega arith)
