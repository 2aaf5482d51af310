-- Laws of the quick date: it is the date of every day.
use Prim.Native.Nat.{ℕ, suc, ◌+◌, ◌-◌, ◌*◌, ◌/◌, ◌%◌, ◌≤◌, ◌<◌}
use Rattle.std.specs.Prelude.{◌≡◌, Bool, ◌&&◌, ◌||◌, not, eqb, ℤ, pos, ◌+ℤ◌, ◌-ℤ◌, ◌*ℤ◌}
use Rattle.std.proofs.Math.Path.{refl}
use Rattle.std.proofs.Common.{sym, ap, ◌∙◌, mod-lt, lt-ltb, le-ltb, eq-eqb, ne_eqb, eqb-true}
use Rattle.std.proofs.Math.Bool.{true, false}
use Rattle.std.proofs.Math.Decide.{dec_lt}
use native.Mathlib.Omega.{arith}
use Rattle.std.proofs.Math.IntN.{+ℤ_assoc, +ℤ-neg_ℤ_cancel}
use Rattle.rules.specs.Lists.{pick}
use Rattle.rules.specs.Lists.Laws.{pick_true, pick-false, and-true, clash, checked, check-at}
use Rattle.rules.specs.Dates.{floor_div, floor_mod, divides, leap_year, year_length, month_length, Valid, total, epoch, cycle, day_number, date_of}
use Rattle.rules.specs.Dates.Laws.{floor-law, mod_below}
use Rattle.rules.specs.Dates.Counting.{total-next}
use Rattle.rules.proofs.Dates.Years.{years_up, days_up, days-up}
use Rattle.rules.proofs.Dates.Calendar.{day_in, number_in, valid-in, date-only}
use Rattle.rules.specs.Dates.Quick.{century, in_century, year_of_four, year_of, day_of, month_of, month_start, calendar_month, carry, date_at, quick_date}

-- ---- years
-- (stated over free numbers: with the definitions in place `omega` has too many quotients to eliminate)
quarter : (c q y : ℕ) → y ≤ 3 → (100 * c + 4 * q + y) / 4 ≡ 25 * c + q
quarter c q y h = omega arith

hundred : (c q y : ℕ) → q ≤ 24 → y ≤ 3 → (100 * c + 4 * q + y) / 100 ≡ c
hundred c q y h k = omega arith

count : (e c q s y : ℕ) → e ≡ 36524 * c + (1461 * q + s) → q ≤ 24 → y ≤ 3 → 365 * y ≤ s
    → 365 * (100 * c + 4 * q + y) + (100 * c + 4 * q + y) / 4 - (100 * c + 4 * q + y) / 100 + (s - 365 * y) ≡ e
count e c q s y p h k l = rw (quarter c q y k, hundred c q y h k) (omega arith)

split : (e : ℕ) → e < 146097 → e ≡ 36524 * century e + (1461 * (in_century e / 1461) + in_century e % 1461)
unfolding century in_century
split e h = omega arith

fours : (e : ℕ) → e < 146097 → in_century e / 1461 ≤ 24
unfolding century in_century
fours e h = omega arith

within : (e : ℕ) → (year_of_four e ≤ 3) × (365 * year_of_four e ≤ in_century e % 1461)
unfolding year_of_four
within e = omega arith

-- a year of an era begins 365 days for each year before it, and a day for each leap year among those, after the era
day-count : (e : ℕ) → e < 146097 → 365 * year_of e + year_of e / 4 - year_of e / 100 + day_of e ≡ e
unfolding year_of day_of
day-count e h =
    count e (century e) (in_century e / 1461) (in_century e % 1461) (year_of_four e) (split e h) (fours e h) (within e).0 (within e).1

last-four : (e : ℕ) → 365 ≤ day_of e → (year_of_four e ≡ 3) × (in_century e % 1461 ≡ 1460)
unfolding year_of_four day_of
last-four e k = omega (arith, mod-lt (in_century e) {m = 1461} (omega arith))

last-century : (e : ℕ) → e < 146097 → in_century e % 1461 ≡ 1460 → in_century e / 1461 ≡ 24 → century e ≡ 3
unfolding century in_century
last-century e h p q = omega arith

-- `omega` does not find that q is 24 by itself; it does once the case is split
short : (c q y : ℕ) → y ≡ 3 → q < 24 → (100 * c + 4 * q + y + 1) % 100 ≡ 4 * q + 4
short c q y h k = omega arith

full : (c q y : ℕ) → y ≡ 3 → q ≤ 24 → (100 * c + 4 * q + y + 1) % 100 ≡ 0 → Dec (q < 24) → q ≡ 24
full c q y h g z (yes k) = absurd (omega (arith, short c q y h k))
full c q y h g z (no k) = omega arith

leap : (c q y : ℕ) → y ≡ 3 → q ≤ 24 → (q ≡ 24 → c ≡ 3)
    → ((100 * c + 4 * q + y + 1) % 4 ≡ 0) × ((100 * c + 4 * q + y + 1) % 100 ≡ 0 → 100 * c + 4 * q + y + 1 ≡ 400)
leap c q y h g k = (omega arith, λ z. let e : q ≡ 24 = full c q y h g z (dec_lt q 24) in omega (arith, k e))

-- the 366th day is there only in a year that ends in a leap year of the calendar
leap-day : (e : ℕ) → e < 146097 → 365 ≤ day_of e
    → ((year_of e + 1) % 4 ≡ 0) × ((year_of e + 1) % 100 ≡ 0 → year_of e + 1 ≡ 400)
unfolding year_of
leap-day e h k =
    leap (century e) (in_century e / 1461) (year_of_four e) (last-four e k).0 (fours e h) (last-century e h (last-four e k).1)

in-month : (d : ℕ) → d < 366 → (month_of d ≤ 11) × (month_start (month_of d) ≤ d) × (d < month_start (month_of d + 1))
unfolding month_of month_start
in-month d h = omega arith

pub year_of-lt : (e : ℕ) → e < 146097 → year_of e < 400
unfolding century in_century year_of_four year_of
year_of-lt e h = omega arith

pub day_of-lt : (e : ℕ) → e < 146097 → day_of e < 366
unfolding century in_century year_of_four day_of
day_of-lt e h = omega arith

-- the calendar's month, and its year's carry, by cases
pub calendar_month-low : (m : ℕ) → m < 10 → calendar_month m ≡ m + 3
unfolding calendar_month
calendar_month-low m h = pick_true _ _ (lt-ltb m 10 h)

pub calendar_month-high : (m : ℕ) → 10 ≤ m → calendar_month m ≡ m - 9
unfolding calendar_month
calendar_month-high m h = pick-false _ _ (le-ltb m 10 h)

pub carry-low : (m : ℕ) → m < 10 → carry m ≡ 0
unfolding carry
carry-low m h = pick_true _ _ (lt-ltb m 10 h)

pub carry-high : (m : ℕ) → 10 ≤ m → carry m ≡ 1
unfolding carry
carry-high m h = pick-false _ _ (le-ltb m 10 h)

pub carry-le : (m : ℕ) → carry m ≤ 1
carry-le m = go (dec_lt m 10)
  where
    go : Dec (m < 10) → carry m ≤ 1
    go (yes h) = omega (arith, carry-low m h)
    go (no h) = omega (arith, carry-high m (omega arith))

calendar_month-range : (m : ℕ) → m ≤ 11 → (1 ≤ calendar_month m) × (calendar_month m ≤ 12)
calendar_month-range m k = go (dec_lt m 10)
  where
    go : Dec (m < 10) → (1 ≤ calendar_month m) × (calendar_month m ≤ 12)
    go (yes h) = omega (arith, calendar_month-low m h)
    go (no h) = omega (arith, calendar_month-high m (omega arith))

-- ---- 1 March of a year, in days from 1 January of year 0: 306 days before the next year
march-sum : (d y a b c i j : ℕ) → d + b ≡ 365 * suc y + a + c → a ≡ i + 1 → b ≡ j + 1 → c ≡ 1 → d + j ≡ 365 * y + i + 366
march-sum d y a b c i j e f g h = omega arith

march : (y : ℕ) → y < 400 → days_up (suc y) + y / 100 ≡ 365 * y + y / 4 + 366
march y h =
    march-sum (days_up (suc y)) y ((suc y + 3) / 4) ((suc y + 99) / 100) ((suc y + 399) / 400) (y / 4) (y / 100) (days-up (suc y))
    (omega arith) (omega arith) (omega arith)

-- ---- months
-- from March on: where a month starts, behind January and February, and where the next one does
months-low : (b : Bool) (m : ℕ) → m < 10
    → (total (month_length b) (m + 3) ≡ month_start m + pick b 60 59) × (month_start (m + 1) ≡ month_start m + month_length b (m + 3))
unfolding checked total month_length month_start pick
months-low b m h =
    let f : ℕ → Bool = λ k. eqb (total (month_length b) (k + 3)) (month_start k + pick b 60 59) in
    let g : ℕ → Bool = λ k. eqb (month_start (k + 1)) (month_start k + month_length b (k + 3)) in
    let e = and-true (f m) (g m) (check-at (λ k. f k && g k) 10 m (right b) h) in
    (eqb-true _ _ e.0, eqb-true _ _ e.1)
  where
    right : (b : Bool) → checked (λ k. eqb (total (month_length b) (k + 3)) (month_start k + pick b 60 59) && eqb (month_start (k + 1)) (month_start k + month_length b (k + 3))) 10 ≡ true
    right true = refl
    right false = refl

-- January and February
months-high : (b : Bool) → (total (month_length b) 1 ≡ 0) × (month_length b 1 ≡ 31) × (total (month_length b) 2 ≡ 31) × (month_length b 2 ≡ pick b 29 28)
unfolding total month_length
months-high b = (refl, refl, refl, refl)

leap-true : (y : ℕ) → y % 4 ≡ 0 → (y % 100 ≡ 0 → y ≡ 400) → leap_year (pos y) ≡ true
unfolding leap_year divides floor_mod
leap-true y e f = rw (eq-eqb (y % 4) 0 e) (go (dec_lt 0 (y % 100)))
  where
    go : Dec (0 < y % 100) → (not (eqb (y % 100) 0) || eqb (y % 400) 0) ≡ true
    go (yes h) = rw (ne_eqb (y % 100) 0 (λ z. omega arith))
    go (no h) = rw (f (omega arith))

-- ---- a day of an era is the right one: its month has it, and from 1 January of the first year it is 60 days more than from 1 March
abbrev Right : ℕ → ℕ → ℕ → ℕ → Type 0
Right e y m t = (t < month_length (leap_year (pos y)) m) × (day_in y m t ≡ e + 60)

-- the sums, over free numbers
low_sum : (e d y a b f u x w s t : ℕ) → 365 * y + a - b + d ≡ e → b ≤ a → w + b ≡ 365 * y + a + 366 → w ≡ f + x → u + 306 ≡ s + x → s ≤ d → t ≡ d - s
    → f + (u + t) ≡ e + 60
low_sum e d y a b f u x w s t p q r g h k l = omega arith

high_sum : (e d y a b w u s t : ℕ) → 365 * y + a - b + d ≡ e → b ≤ a → w + b ≡ 365 * y + a + 366 → u + 306 ≡ s → s ≤ d → t ≡ d - s → w + (u + t) ≡ e + 60
high_sum e d y a b w u s t p q r h k l = omega arith

module _ (e y d : ℕ) (count-is : 365 * y + y / 4 - y / 100 + d ≡ e) (small : y < 400) where
  right-low : (m : ℕ) → m < 10 → month_start m ≤ d → d < month_start (m + 1) → Right e y (m + 3) (d - month_start m)
  unfolding year_length pick
  right-low m h low high =
      let b = leap_year (pos y) in
      let l = months-low b m h in
      let p : total (month_length b) (m + 3) + 306 ≡ month_start m + year_length (pos y) = omega (arith, l.0, year-by b) in (
        omega (arith, l.1),
        low_sum e d y (y / 4) (y / 100) (days_up y) (total (month_length b) (m + 3)) (year_length (pos y)) (days_up (suc y)) (month_start m) (d - month_start m)
            count-is (omega arith) (march y small) (total-next years_up y) p low refl,
      )
    where
      year-by : (b : Bool) → pick b 60 59 + 306 ≡ pick b 366 365
      year-by true = refl
      year-by false = refl

  right-january : 306 ≤ d → d < 337 → Right e (suc y) 1 (d - 306)
  right-january low high =
      let l = months-high (leap_year (pos (suc y))) in
      (omega arith, high_sum e d y (y / 4) (y / 100) (days_up (suc y)) _ 306 (d - 306) count-is (omega arith) (march y small) (omega arith) low refl)

  right-february : 337 ≤ d → d < 366 → (365 ≤ d → leap_year (pos (suc y)) ≡ true) → Right e (suc y) 2 (d - 337)
  unfolding pick
  right-february low high leaps =
      let b = leap_year (pos (suc y)) in
      let l = months-high b in
      (omega (arith, last b leaps), high_sum e d y (y / 4) (y / 100) (days_up (suc y)) _ 337 (d - 337) count-is (omega arith) (march y small) (omega arith) low refl)
    where
      last : (b : Bool) → (365 ≤ d → b ≡ true) → d - 337 < pick b 29 28
      last true k = omega arith
      last false k = go (dec_lt d 365)
        where
          go : Dec (d < 365) → d - 337 < 28
          go (yes g) = omega arith
          go (no g) = clash (sym (k (omega arith)))

module _ (e : ℕ) (h : e < 146097) where
  right : let m = month_of (day_of e) in Right e (year_of e + carry m) (calendar_month m) (day_of e - month_start m)
  unfolding carry calendar_month month_start pick
  right = go (dec_lt (month_of (day_of e)) 10) (dec_lt (month_of (day_of e)) 11)
    where
      go : Dec (month_of (day_of e) < 10) → Dec (month_of (day_of e) < 11) → let m = month_of (day_of e) in Right e (year_of e + carry m) (calendar_month m) (day_of e - month_start m)
      go (yes l) k =
          let i = in-month (day_of e) (day_of-lt e h) in
          let y : year_of e + carry (month_of (day_of e)) ≡ year_of e = omega (arith, carry-low (month_of (day_of e)) l) in
          rw (y, calendar_month-low (month_of (day_of e)) l)
          (right-low e (year_of e) (day_of e) (day-count e h) (year_of-lt e h) (month_of (day_of e)) l i.1 i.2)
      go (no l) (yes k) =
          let i = in-month (day_of e) (day_of-lt e h) in
          let m : month_of (day_of e) ≡ 10 = omega arith in
          let y : year_of e + 1 ≡ suc (year_of e) = omega arith in
          rw (m, y) (right-january e (year_of e) (day_of e) (day-count e h) (year_of-lt e h) (rw m at i.1) (rw m at i.2))
      go (no l) (no k) =
          let i = in-month (day_of e) (day_of-lt e h) in
          let m : month_of (day_of e) ≡ 11 = omega arith in
          let y : year_of e + 1 ≡ suc (year_of e) = omega arith in
          rw (m, y)
          (right-february e (year_of e) (day_of e) (day-count e h) (year_of-lt e h) (rw m at i.1) (day_of-lt e h)
          (λ g. let f = leap-day e h g in rw y at (leap-true (year_of e + 1) f.0 f.1)))

  quick-in : (era : ℤ) → Valid (date_at era e) × (day_number (date_at era e) ≡ era *ℤ pos cycle +ℤ pos (e + 60) -ℤ pos epoch)
  unfolding date_at
  quick-in era =
      let m = month_of (day_of e) in
      let y = year_of e + carry m in
      let t = day_of e - month_start m in
      let c = calendar_month-range m (in-month (day_of e) (day_of-lt e h)).0 in
      (valid-in era y (calendar_month m) t c.0 c.1 right.0, number_in era y (calendar_month m) t ∙ rw right.1)

-- the quick date of every day is its date
pub quick-date : (days : ℤ) → date_of days ≡ quick_date days
unfolding quick_date
quick-date days =
    let z = days +ℤ pos 719468 in
    let q = quick-in (floor_mod z cycle) (mod_below z cycle (omega arith)) (floor_div z cycle) in
    let s : floor_div z cycle *ℤ pos cycle +ℤ pos (floor_mod z cycle + 60) ≡ days +ℤ pos epoch =
    sym (+ℤ_assoc (floor_div z cycle *ℤ pos cycle) (pos (floor_mod z cycle)) (pos 60))
    ∙ ap (λ (x : ℤ). x +ℤ pos 60) (floor-law z cycle (omega arith))
    ∙ +ℤ_assoc days (pos 719468) (pos 60) in
    let n : day_number (quick_date days) ≡ days = q.1 ∙ ap (λ (x : ℤ). x -ℤ pos epoch) s ∙ +ℤ-neg_ℤ_cancel days (pos epoch) in
    sym (date-only days (quick_date days) q.0 n)
