-- Laws of numbers as text: digit by digit, and how many bytes they take.
use Rattle.std.specs.Prelude.{ℕ, zero, suc, ◌+◌, ◌-◌, ◌/◌, ◌^◌, ◌≤◌, ◌<◌, ◌≡◌, List, [], ◌∷◌, ◌++◌, replicate}
use Prim.Native.Char.{code}
use Rattle.std.proofs.Common.{sym, ap, ◌∙◌, append_assoc, lt-ltb, le-ltb}
use Rattle.std.proofs.Math.Decide.{dec_lt}
use native.Mathlib.Omega.{arith}
use Rattle.std.proofs.Math.ListN.{length, length-append, length-replicate, replicate-append-replicate}
use Rattle.rules.specs.Lists.Laws.{pick_true, pick-false}
use Rattle.rules.specs.Text.{digit, digits, decimal, widened}

-- ---- digits, by the number's last digit; the steps are enough where they are more than the number
digits_low : (s n : ℕ) → n < 10 → digits (suc s) n ≡ digit n ∷ []
unfolding digits
digits_low s n h = pick_true _ _ (lt-ltb n 10 h)

digits-high : (s n : ℕ) → 10 ≤ n → digits (suc s) n ≡ digits s (n / 10) ++ (digit n ∷ [])
unfolding digits
digits-high s n h = pick-false _ _ (le-ltb n 10 h)

digits-enough : (s t n : ℕ) → n < s → n < t → digits s n ≡ digits t n
digits-enough zero t n h k = absurd (omega arith)
digits-enough (suc s) zero n h k = absurd (omega arith)
digits-enough (suc s) (suc t) n h k = go (λ l. digits-enough s t (n / 10) (omega arith) (omega arith)) (dec_lt n 10)
  where
    go : (10 ≤ n → digits s (n / 10) ≡ digits t (n / 10)) → Dec (n < 10) → digits (suc s) n ≡ digits (suc t) n
    go r (yes l) = digits_low s n l ∙ sym (digits_low t n l)
    go r (no l) =
        let m : 10 ≤ n = omega arith in
        digits-high s n m ∙ ap (λ (ds : List ℕ). ds ++ (digit n ∷ [])) (r m) ∙ sym (digits-high t n m)

decimal-low : (n : ℕ) → n < 10 → decimal n ≡ digit n ∷ []
unfolding decimal
decimal-low n h = digits_low n n h

decimal-high : (n : ℕ) → 10 ≤ n → decimal n ≡ decimal (n / 10) ++ (digit n ∷ [])
unfolding decimal
decimal-high n h =
    digits-high n n h
    ∙ ap (λ (ds : List ℕ). ds ++ (digit n ∷ [])) (digits-enough n (suc (n / 10)) (n / 10) (omega arith) (omega arith))

-- ---- how many digits
length_high : (n : ℕ) → 10 ≤ n → length (decimal n) ≡ length (decimal (n / 10)) + 1
length_high n h = ap length (decimal-high n h) ∙ length-append (decimal (n / 10)) (digit n ∷ [])

-- a number below 10 ^ d has at most d digits
pub decimal-length : (d n : ℕ) → 0 < d → n < 10 ^ d → length (decimal n) ≤ d
decimal-length zero n k h = absurd (omega arith)
decimal-length (suc d) n k h = go (λ r. decimal-length d (n / 10) r) (dec_lt n 10)
  where
    some_left : (e : ℕ) → 10 ≤ n → n < 10 ^ suc e → 0 < e
    some_left zero l m = absurd (omega arith)
    some_left (suc e) l m = omega arith

    go : (0 < d → n / 10 < 10 ^ d → length (decimal (n / 10)) ≤ d) → Dec (n < 10) → length (decimal n) ≤ suc d
    go r (yes l) = rw (decimal-low n l) (omega arith)
    go r (no l) =
        let q : length (decimal (n / 10)) ≤ d = r (some_left d (omega arith) h) (omega arith) in
        omega (arith, length_high n (omega arith))

decimal-some : (n : ℕ) → 1 ≤ length (decimal n)
decimal-some n = go (dec_lt n 10)
  where
    go : Dec (n < 10) → 1 ≤ length (decimal n)
    go (yes l) = rw (decimal-low n l) (omega arith)
    go (no l) = omega (arith, length_high n (omega arith))

-- a number of 64 bits
pub decimal-64 : (n : ℕ) → n < 2 ^ 64 → length (decimal n) ≤ 20
decimal-64 n h = decimal-length 20 n (omega arith) (omega arith)

-- ---- at least w digits: also by the last one
module _ (w n : ℕ) where
  pub wide-length : length (widened w (decimal n)) ≡ w - length (decimal n) + length (decimal n)
  unfolding widened
  wide-length = length-append (replicate (w - length (decimal n)) (code "0")) (decimal n) ∙ rw length-replicate

  pub wide_low : n < 10 → w ≤ 1 → widened w (decimal n) ≡ digit n ∷ []
  unfolding widened
  wide_low h k =
      let z : w - length (digit n ∷ []) ≡ 0 = omega arith in
      rw (decimal-low n h, z)

  wide-more : 10 ≤ n → widened w (decimal n) ≡ widened (w - 1) (decimal (n / 10)) ++ (digit n ∷ [])
  unfolding widened
  wide-more h =
      let e : w - length (decimal n) ≡ w - 1 - length (decimal (n / 10)) = omega (arith, length_high n h) in
      rw (e, decimal-high n h) (sym (append_assoc (replicate (w - 1 - length (decimal (n / 10))) (code "0")) (decimal (n / 10)) (digit n ∷ [])))

  -- the zeros in front are those of the number 0
  wide-zero : n < 10 → 2 ≤ w → widened w (decimal n) ≡ widened (w - 1) (decimal (n / 10)) ++ (digit n ∷ [])
  unfolding widened digit
  wide-zero h k =
      let z : n / 10 ≡ 0 = omega arith in
      let e : w - 2 + 1 ≡ w - 1 = omega arith in
      let f : w - 1 - 1 ≡ w - 2 = omega arith in
      rw (decimal-low n h, z, decimal-low 0 (omega arith), f, ← e, ← replicate-append-replicate {A = ℕ} (w - 2) 1 (code "0"))

  pub wide_high : (n < 10 → 2 ≤ w) → widened w (decimal n) ≡ widened (w - 1) (decimal (n / 10)) ++ (digit n ∷ [])
  wide_high k = go (dec_lt n 10)
    where
      go : Dec (n < 10) → widened w (decimal n) ≡ widened (w - 1) (decimal (n / 10)) ++ (digit n ∷ [])
      go (yes l) = wide-zero l (k l)
      go (no l) = wide-more (omega arith)

  -- a number that has at most w digits takes w bytes
  pub wide-exact : 0 < w → n < 10 ^ w → length (widened w (decimal n)) ≡ w
  wide-exact k h = omega (arith, wide-length, decimal-length w n k h)

-- with one digit at least: the number as it is
pub wide-one : (n : ℕ) → widened 1 (decimal n) ≡ decimal n
unfolding widened
wide-one n = let z : 1 - length (decimal n) ≡ 0 = omega (arith, decimal-some n) in rw z
