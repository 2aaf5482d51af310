-- Laws of years: how many days come before one, and that the calendar repeats every 400 of them.
use Prim.Native.Nat.{ℕ, zero, suc, ◌+◌, ◌-◌, ◌*◌, ◌/◌, ◌<◌}
use Rattle.std.specs.Prelude.{◌≡◌, refl, ◌⊎◌, Bool, true, false, ◌&&◌, ◌||◌, not, ℤ, pos, negsuc, ◌+ℤ◌, ◌*ℤ◌}
use Rattle.std.proofs.Common.{sym, ap, ◌∙◌, inl, inr, ⊎_elim, arith, eq-eqb, ne_eqb, eqb-true}
use Rattle.std.proofs.Math.Decide.{dec_lt}
use Rattle.rules.specs.Lists.{pick}
use Rattle.rules.specs.Lists.Laws.{pick_true, pick-false, clash}
use Rattle.rules.specs.Dates.{floor_mod, divides, leap_year, year_length, total, year_start, cycle}
use Rattle.rules.specs.Dates.Laws.{neg_sum, neg_of, pos_sum}

-- ---- years: how many of them are leap years
unfoldable ind : Bool → ℕ
ind b = pick b 1 0

-- the length of a year, where 400 divides only what 100 divides, and that only what 4 divides
length-by : (a b c : Bool) → (b ≡ true → a ≡ true) → (c ≡ true → b ≡ true) → pick ((a && not b) || c) 366 365 + ind b ≡ 365 + ind a + ind c
unfolding ind pick
length-by true true true h k = refl
length-by true true false h k = refl
length-by true false true h k = clash (sym (k refl))
length-by true false false h k = refl
length-by false true c h k = clash (sym (h refl))
length-by false false true h k = clash (sym (k refl))
length-by false false false h k = refl

divides-true : (n : ℕ) (y : ℤ) → floor_mod y n ≡ 0 → divides n y ≡ true
unfolding divides
divides-true n y e = eq-eqb (floor_mod y n) 0 e

divides-mod : (n : ℕ) (y : ℤ) → divides n y ≡ true → floor_mod y n ≡ 0
unfolding divides
divides-mod n y e = eqb-true (floor_mod y n) 0 e

mods : (y : ℤ) → (floor_mod y 100 ≡ 0 → floor_mod y 4 ≡ 0) × (floor_mod y 400 ≡ 0 → floor_mod y 100 ≡ 0)
unfolding floor_mod
mods (pos n) = ((λ e. omega arith), (λ e. omega arith))
mods (negsuc n) = ((λ e. omega arith), (λ e. omega arith))

length-is : (y : ℤ) → year_length y + ind (divides 100 y) ≡ 365 + ind (divides 4 y) + ind (divides 400 y)
unfolding year_length leap_year
length-is y =
    length-by _ _ _
    (λ e. divides-true 4 y ((mods y).0 (divides-mod 100 y e)))
    (λ e. divides-true 100 y ((mods y).1 (divides-mod 400 y e)))

ind-true : (n : ℕ) (y : ℤ) → floor_mod y n ≡ 0 → ind (divides n y) ≡ 1
unfolding ind
ind-true n y e = pick_true _ _ (divides-true n y e)

ind-false : (n : ℕ) (y : ℤ) → 0 < floor_mod y n → ind (divides n y) ≡ 0
unfolding ind divides
ind-false n y h = pick-false _ _ (ne_eqb (floor_mod y n) 0 (λ e. omega arith))

by-divides : (d : ℕ) (y : ℤ) (P : ℕ → Type 0) → (floor_mod y d ≡ 0 → P 1) → (0 < floor_mod y d → P 0) → P (ind (divides d y))
by-divides d y P h k = go (dec_lt 0 (floor_mod y d))
  where
    go : Dec (0 < floor_mod y d) → P (ind (divides d y))
    go (yes l) = rw (ind-false d y l) (k l)
    go (no l) = let e : floor_mod y d ≡ 0 = omega arith in rw (ind-true d y e) (h e)

-- of the years 0, 1, .., n - 1 the number d divides (n + (d - 1)) / d, and of -1, -2, .., -n it divides n / d
module _ (n : ℕ) where
  up-4 : (suc n + 3) / 4 ≡ (n + 3) / 4 + ind (divides 4 (pos n))
  unfolding floor_mod
  up-4 = by-divides 4 (pos n) (λ i. (suc n + 3) / 4 ≡ (n + 3) / 4 + i) (λ e. omega arith) (λ e. omega arith)

  up-100 : (suc n + 99) / 100 ≡ (n + 99) / 100 + ind (divides 100 (pos n))
  unfolding floor_mod
  up-100 = by-divides 100 (pos n) (λ i. (suc n + 99) / 100 ≡ (n + 99) / 100 + i) (λ e. omega arith) (λ e. omega arith)

  up-400 : (suc n + 399) / 400 ≡ (n + 399) / 400 + ind (divides 400 (pos n))
  unfolding floor_mod
  up-400 = by-divides 400 (pos n) (λ i. (suc n + 399) / 400 ≡ (n + 399) / 400 + i) (λ e. omega arith) (λ e. omega arith)

  down-4 : suc n / 4 ≡ n / 4 + ind (divides 4 (negsuc n))
  unfolding floor_mod
  down-4 = by-divides 4 (negsuc n) (λ i. suc n / 4 ≡ n / 4 + i) (λ e. omega arith) (λ e. omega arith)

  down-100 : suc n / 100 ≡ n / 100 + ind (divides 100 (negsuc n))
  unfolding floor_mod
  down-100 = by-divides 100 (negsuc n) (λ i. suc n / 100 ≡ n / 100 + i) (λ e. omega arith) (λ e. omega arith)

  down-400 : suc n / 400 ≡ n / 400 + ind (divides 400 (negsuc n))
  unfolding floor_mod
  down-400 = by-divides 400 (negsuc n) (λ i. suc n / 400 ≡ n / 400 + i) (λ e. omega arith) (λ e. omega arith)

-- the days of the years from 0 up, and from -1 down
abbrev pub years_up : ℕ → ℕ
years_up k = year_length (pos k)

abbrev pub days_up : ℕ → ℕ
days_up n = total years_up n

abbrev days_down : ℕ → ℕ
days_down n = total (λ k. year_length (negsuc k)) n

pub days-up : (n : ℕ) → days_up n + (n + 99) / 100 ≡ 365 * n + (n + 3) / 4 + (n + 399) / 400
unfolding total
days-up zero = refl
days-up (suc n) = omega (arith, days-up n, length-is (pos n), up-4 n, up-100 n, up-400 n)

days-down : (n : ℕ) → days_down n + n / 100 ≡ 365 * n + n / 4 + n / 400
unfolding total
days-down zero = refl
days-down (suc n) = omega (arith, days-down n, length-is (negsuc n), down-4 n, down-100 n, down-400 n)

-- ---- the calendar repeats every 400 years
-- a year of a cycle, counted from 0
abbrev pub in_cycle : ℤ → ℕ → ℤ
in_cycle q y = q *ℤ pos 400 +ℤ pos y

-- the cycle begins before year 0: so does the year, or not
abbrev CycleBelow : ℕ → ℕ → Type 0
CycleBelow k y = (n : ℕ) × (in_cycle (negsuc k) y ≡ negsuc n) × (suc k * 400 ≡ n + y + 1)

abbrev CycleAbove : ℕ → ℕ → Type 0
CycleAbove k y = (n : ℕ) × (in_cycle (negsuc k) y ≡ pos n) × (y ≡ n + suc k * 400)

either : (k y : ℕ) → CycleBelow k y ⊎ CycleAbove k y
either k y = go (dec_lt y (suc k * 400))
  where
    go : Dec (y < suc k * 400) → CycleBelow k y ⊎ CycleAbove k y
    go (yes h) = inl (suc k * 400 - suc y, neg_sum (suc k * 400) y _ (omega arith), omega arith)
    go (no h) = inr (y - suc k * 400, pos_sum (suc k * 400) y _ (omega arith), omega arith)

leap-by : (x y : ℤ) → floor_mod x 4 ≡ floor_mod y 4 → floor_mod x 100 ≡ floor_mod y 100 → floor_mod x 400 ≡ floor_mod y 400 → leap_year x ≡ leap_year y
unfolding leap_year divides
leap-by x y a b c = rw (a, b, c)

pub leap-repeats : (q : ℤ) (y : ℕ) → leap_year (in_cycle q y) ≡ leap_year (pos y)
unfolding floor_mod
leap-repeats (pos k) y = leap-by _ _ (omega arith) (omega arith) (omega arith)
leap-repeats (negsuc k) y = ⊎_elim
    (λ (n, e, h). rw e (leap-by (negsuc n) (pos y) (omega arith) (omega arith) (omega arith)))
    (λ (n, e, h). rw e (leap-by (pos n) (pos y) (omega arith) (omega arith) (omega arith)))
    (either k y)

up-repeats : (k n y : ℕ) → y ≡ n + k * 400 → days_up y ≡ days_up n + k * cycle
up-repeats k n y e =
    let a : (y + 3) / 4 ≡ (n + 3) / 4 + 100 * k = omega arith in
    let b : (y + 99) / 100 ≡ (n + 99) / 100 + 4 * k = omega arith in
    let c : (y + 399) / 400 ≡ (n + 399) / 400 + k = omega arith in
    omega (arith, days-up n, days-up y)

down-repeats : (k n y : ℕ) → k * 400 ≡ n + y → days_down n + days_up y ≡ k * cycle
down-repeats k n y e =
    let a : n / 4 + (y + 3) / 4 ≡ 100 * k = omega arith in
    let b : n / 100 + (y + 99) / 100 ≡ 4 * k = omega arith in
    let c : n / 400 + (y + 399) / 400 ≡ k = omega arith in
    omega (arith, days-down n, days-up y)

pub start-repeats : (q : ℤ) (y : ℕ) → year_start (in_cycle q y) ≡ q *ℤ pos cycle +ℤ pos (days_up y)
unfolding year_start
start-repeats (pos k) y = ap pos (omega (arith, up-repeats k y (k * 400 + y) (omega arith)))
start-repeats (negsuc k) y = ⊎_elim
    (λ (n, e, h).
    rw e
    (let d = down-repeats (suc k) (suc n) y (omega arith) in
    let m : 0 < days_down (suc n) = omega (arith, days-down (suc n)) in
    neg_of (days_down (suc n)) m ∙ sym (neg_sum (suc k * cycle) (days_up y) (days_down (suc n) - 1) (omega arith))))
    (λ (n, e, h). rw e (sym (pos_sum (suc k * cycle) (days_up y) (days_up n) (omega (arith, up-repeats (suc k) n y (omega arith))))))
    (either k y)
