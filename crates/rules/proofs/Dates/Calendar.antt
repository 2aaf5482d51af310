-- THE DATE OF A DAY: the calendar has it, its day number is that day, and no other date has that day number.
use Rattle.std.specs.Prelude.{ℕ, suc, ◌+◌, ◌-◌, ◌≤◌, ◌<◌, ◌≡◌, Bool, true, false, leb, ℤ, ◌+ℤ◌, ◌-ℤ◌, ◌*ℤ◌}
use Rattle.std.proofs.Math.Path.{refl, ap}
use Rattle.std.proofs.Common.{sym, ◌∙◌, leb-true}
use native.Mathlib.Omega.{arith}
use Rattle.std.proofs.Math.IntN.{pos, +ℤ_assoc, +ℤ-neg_ℤ_cancel, -ℤ-+ℤ_cancel}
use Rattle.rules.specs.Lists.{pick}
use Rattle.rules.specs.Lists.Laws.{checked, check-at}
use Rattle.rules.specs.Dates.{floor_div, floor_mod, leap_year, year_length, month_length, Date, Valid, total, epoch, day_number, Counted, cycle, year_off, month_off, date_in, date_of}
use Rattle.rules.specs.Dates.Laws.{floor-law, mod_below, floor-of}
use Rattle.rules.specs.Dates.Counting.{total-none, total-next, total-le, Placed, counted, counted-only}
use Rattle.rules.proofs.Dates.Years.{years_up, days_up, days-up, in_cycle, leap-repeats, start-repeats}

-- ---- the day number of a date in a cycle
abbrev pub date_as : ℤ → ℕ → ℕ → ℕ → Date
date_as q y m t = record { year = in_cycle q y; month = m; day = t + 1 }

-- days from the start of the cycle
abbrev pub day_in : ℕ → ℕ → ℕ → ℕ
day_in y m t = days_up y + (total (month_length (leap_year (pos y))) m + t)

pub number_in : (q : ℤ) (y m t : ℕ) → day_number (date_as q y m t) ≡ q *ℤ pos cycle +ℤ pos (day_in y m t) -ℤ pos epoch
unfolding day_number
number_in q y m t =
    let e : t + 1 - 1 ≡ t = omega arith in
    rw (leap-repeats q y, start-repeats q y, e)
    (ap (λ (z : ℤ). z -ℤ pos epoch) (+ℤ_assoc (q *ℤ pos cycle) (pos (days_up y)) (pos (total (month_length (leap_year (pos y))) m + t))))

pub valid-in : (q : ℤ) (y m t : ℕ) → 1 ≤ m → m ≤ 12 → t < month_length (leap_year (pos y)) m → Valid (date_as q y m t)
valid-in q y m t a b h = rw (leap-repeats q y) (a, b, omega arith, omega arith)

-- ---- months
pub month-le : (b : Bool) (m : ℕ) → m ≤ 12 → month_length b m ≤ 31
unfolding checked month_length pick
month-le b m h = leb-true _ _ (check-at (λ k. leb (month_length b k) 31) 13 m (right b) (omega arith))
  where
    right : (b : Bool) → checked (λ k. leb (month_length b k) 31) 13 ≡ true
    right true = refl
    right false = refl

-- a year is its months
months-start : (b : Bool) → total (month_length b) 1 ≡ 0
unfolding total month_length
months-start b = refl

months-end : (y : ℤ) → total (month_length (leap_year y)) 13 ≡ year_length y
unfolding year_length total month_length pick
months-end y = go (leap_year y)
  where
    go : (b : Bool) → total (month_length b) 13 ≡ pick b 366 365
    go true = refl
    go false = refl

-- 400 years are a cycle
cycle-days : days_up 400 ≡ cycle
cycle-days = omega (arith, days-up 400)

-- ---- counting off years, and then months
pub year-placed : (n : ℕ) → n < cycle → Placed years_up 0 400 n (year_off n)
unfolding year_off
year-placed n h = counted years_up 400 0 n (total-none years_up) (omega (arith, cycle-days))

month-placed : (y : Counted) → y.left < years_up y.unit → Placed (month_length (leap_year (pos y.unit))) 1 13 y.left (month_off y)
unfolding month_off
month-placed y h = let b = leap_year (pos y.unit) in counted (month_length b) 12 1 y.left (months-start b) (omega (arith, months-end (pos y.unit)))

-- the date of a day, in its cycle
found : (q : ℤ) (r : ℕ) → r < cycle → Valid (date_in q (year_off r)) × (day_number (date_in q (year_off r)) ≡ q *ℤ pos cycle +ℤ pos r -ℤ pos epoch)
unfolding date_in
found q r h =
    let y = year_off r in
    let m = month_off y in
    let p = year-placed r h in
    let c = month-placed y p.3 in
    let e : day_in y.unit m.unit m.left ≡ r = omega arith in
    (valid-in q y.unit m.unit m.left c.0 (omega arith) c.3, number_in q y.unit m.unit m.left ∙ rw e)

module _ (days : ℤ) where
  in-cycle : floor_mod (days +ℤ pos epoch) cycle < cycle
  in-cycle = mod_below (days +ℤ pos epoch) cycle (omega arith)

  -- it is a date of the calendar
  pub date-valid : Valid (date_of days)
  unfolding date_of
  date-valid = (found (floor_div (days +ℤ pos epoch) cycle) (floor_mod (days +ℤ pos epoch) cycle) in-cycle).0

  -- its day number is that day
  pub date-is : day_number (date_of days) ≡ days
  unfolding date_of
  date-is =
      (found (floor_div (days +ℤ pos epoch) cycle) (floor_mod (days +ℤ pos epoch) cycle) in-cycle).1
      ∙ ap (λ (z : ℤ). z -ℤ pos epoch) (floor-law (days +ℤ pos epoch) cycle (omega arith))
      ∙ +ℤ-neg_ℤ_cancel days (pos epoch)

-- a date of a cycle is found again
module _ (q : ℤ) (y m t : ℕ) (hy : y < 400) (low : 1 ≤ m) (high : m ≤ 12) (h : t < month_length (leap_year (pos y)) m) where
  abbrev day_of_year : ℕ
  day_of_year = total (month_length (leap_year (pos y))) m + t

  within-year : day_of_year < years_up y
  within-year =
      let f = month_length (leap_year (pos y)) in
      omega (arith, total-next f m, total-le f (suc m) 13 (omega arith), months-end (pos y))

  within-cycle : day_in y m t < cycle
  within-cycle = omega (arith, total-next years_up y, total-le years_up (suc y) 400 hy, cycle-days, within-year)

  year-found : year_off (day_in y m t) ≡ record { unit = y; left = day_of_year }
  unfolding year_off
  year-found = counted-only years_up 400 0 (day_in y m t) (record { unit = y; left = day_of_year }) (total-none years_up) (omega arith, hy, refl, within-year)

  month-found : month_off (record { unit = y; left = day_of_year }) ≡ record { unit = m; left = t }
  unfolding month_off
  month-found =
      counted-only (month_length (leap_year (pos y))) 12 1 day_of_year (record { unit = m; left = t }) (months-start (leap_year (pos y))) (low, omega arith, refl, h)

  again : date_of (day_number (date_as q y m t)) ≡ date_as q y m t
  unfolding date_of date_in
  again =
      let e : day_number (date_as q y m t) +ℤ pos epoch ≡ q *ℤ pos cycle +ℤ pos (day_in y m t) =
      ap (λ (z : ℤ). z +ℤ pos epoch) (number_in q y m t) ∙ -ℤ-+ℤ_cancel (q *ℤ pos cycle +ℤ pos (day_in y m t)) (pos epoch) in
      let f = floor-of q cycle (day_in y m t) within-cycle in
      rw (e, f.0, f.1, year-found, month-found)

found-again : (d : Date) → Valid d → date_of (day_number d) ≡ d
found-again d (low, high, some, h) =
    let q = floor_div d.year 400 in
    let y = floor_mod d.year 400 in
    let e : in_cycle q y ≡ d.year = floor-law d.year 400 (omega arith) in
    let n : d.day - 1 + 1 ≡ d.day = omega arith in
    let p : date_as q y d.month (d.day - 1) ≡ record { year = d.year; month = d.month; day = d.day } = cc in
    let l : leap_year d.year ≡ leap_year (pos y) = ap leap_year (sym e) ∙ leap-repeats q y in
    let k : d.day ≤ month_length (leap_year (pos y)) d.month = rw l at h in
    ap (λ (x : Date). date_of (day_number x)) (sym p) ∙ again q y d.month (d.day - 1) (mod_below d.year 400 (omega arith)) low high (omega arith) ∙ p

-- no other date has that day number
pub date-only : (days : ℤ) (d : Date) → Valid d → day_number d ≡ days → d ≡ date_of days
date-only days d v e = sym (found-again d v) ∙ ap date_of e
