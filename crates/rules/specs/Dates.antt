-- 01, "Dates": a stamp counts 1/65536 seconds from 1970-01-01 UTC; the Gregorian calendar runs both ways; division rounds down.
use Rattle.std.specs.Prelude.{ℕ, zero, suc, ◌+◌, ◌-◌, ◌/◌, ◌%◌, ◌≤◌, Bool, ◌&&◌, ◌||◌, not, List, [], ◌∷◌, ◌++◌, get_or, eqb, ltb, ℤ, pos, negsuc, neg_ℤ, ◌+ℤ◌, ◌-ℤ◌, ◌*ℤ◌}
use Rattle.rules.specs.Lists.{pick}
use Rattle.rules.specs.Text.{text, joined, decimal, widened}
pub mod Laws
pub mod Counting
pub mod Quick
pub mod Range
pub mod Text

-- rounded down, by a number above 0: -(n + 1) divided by b is -(n / b + 1)
unfoldable pub floor_div : ℤ → ℕ → ℤ
floor_div (pos n) b = pos (n / b)
floor_div (negsuc n) b = negsuc (n / b)

-- what is left of it, from 0 up to b
unfoldable pub floor_mod : ℤ → ℕ → ℕ
floor_mod (pos n) b = n % b
floor_mod (negsuc n) b = b - 1 - n % b

-- ---- the calendar
unfoldable pub divides : ℕ → ℤ → Bool
divides n y = eqb (floor_mod y n) 0

-- every fourth year, but of those that 100 divides only those that 400 divides
unfoldable pub leap_year : ℤ → Bool
leap_year y = (divides 4 y && not (divides 100 y)) || divides 400 y

unfoldable pub year_length : ℤ → ℕ
year_length y = pick (leap_year y) 366 365

-- by whether the year is a leap year; January is month 1, and there is no month 0
unfoldable pub month_length : Bool → ℕ → ℕ
month_length leap m = get_or (0 ∷ 31 ∷ pick leap 29 28 ∷ 31 ∷ 30 ∷ 31 ∷ 30 ∷ 31 ∷ 31 ∷ 30 ∷ 31 ∷ 30 ∷ 31 ∷ []) m 0

pub record Date : Type 0 where
  pub year : ℤ
  pub month : ℕ
  pub day : ℕ

-- a date that the calendar has
abbrev pub Valid : Date → Type 0
Valid d = (1 ≤ d.month) × (d.month ≤ 12) × (1 ≤ d.day) × (d.day ≤ month_length (leap_year d.year) d.month)

-- f 0 + f 1 + .. + f (n - 1)
unfoldable pub total : (ℕ → ℕ) → ℕ → ℕ
total f zero = 0
total f (suc n) = total f n + f n

-- 1 January of a year, in days from 1 January of year 0: the lengths of the years between, either way
unfoldable pub year_start : ℤ → ℤ
year_start (pos n) = pos (total (λ k. year_length (pos k)) n)
year_start (negsuc n) = neg_ℤ (pos (total (λ k. year_length (negsuc k)) (suc n)))

-- 1970-01-01, in days from 1 January of year 0
abbrev pub epoch : ℕ
epoch = 719_528

-- the day number of a date: days from 1970-01-01
unfoldable pub day_number : Date → ℤ
day_number d = year_start d.year +ℤ pos (total (month_length (leap_year d.year)) d.month + (d.day - 1)) -ℤ pos epoch

-- ---- the date of a day: the one date with that day number (`date-is` and `date-only` of Dates/Calendar.antt), found by counting off
pub record Counted : Type 0 where
  pub unit : ℕ
  pub left : ℕ

-- of n days, units of f k, f (k + 1), .. days are counted off while they are whole: the unit come to, and the days left in it; the first
-- number bounds the steps
unfoldable pub count_off : ℕ → (ℕ → ℕ) → ℕ → ℕ → Counted
count_off zero f k n = record { unit = k; left = n }
count_off (suc steps) f k n = let r = count_off steps f (suc k) (n - f k) in pick (ltb n (f k)) (record { unit = k; left = n }) r

-- the calendar repeats every 400 years, which have 146,097 days
abbrev pub cycle : ℕ
cycle = 146_097

-- the year of a cycle's day, and the month of a year's day
unfoldable pub year_off : ℕ → Counted
year_off n = count_off 400 (λ k. year_length (pos k)) 0 n

unfoldable pub month_off : Counted → Counted
month_off y = count_off 12 (month_length (leap_year (pos y.unit))) 1 y.left

unfoldable pub date_in : ℤ → Counted → Date
date_in cycles y = record { year = cycles *ℤ pos 400 +ℤ pos y.unit; month = (month_off y).unit; day = (month_off y).left + 1 }

unfoldable pub date_of : ℤ → Date
date_of days = date_in (floor_div (days +ℤ pos epoch) cycle) (year_off (floor_mod (days +ℤ pos epoch) cycle))

pub record Moment : Type 0 where
  pub date : Date
  pub hour : ℕ
  pub minute : ℕ
  pub second : ℕ

unfoldable pub seconds_of : ℤ → ℤ
seconds_of stamp = floor_div stamp 65536

unfoldable pub days_of : ℤ → ℤ
days_of stamp = floor_div (seconds_of stamp) 86400

unfoldable pub second_of_day : ℤ → ℕ
second_of_day stamp = floor_mod (seconds_of stamp) 86400

unfoldable pub moment_of : ℤ → Moment
moment_of stamp = record {
  date = date_of (days_of stamp);
  hour = second_of_day stamp / 3600;
  minute = second_of_day stamp / 60 % 60;
  second = second_of_day stamp % 60;
}

-- ---- as text
-- years have at least four digits, with a minus sign below 0
unfoldable pub year_text : ℤ → List ℕ
year_text (pos n) = widened 4 (decimal n)
year_text (negsuc n) = text "-" ++ widened 4 (decimal (suc n))

unfoldable pub two_digits : ℕ → List ℕ
two_digits n = widened 2 (decimal n)

-- as 1970-01-01T00:01:00Z
unfoldable pub moment_text : Moment → List ℕ
moment_text m =
    joined
    (year_text m.date.year ∷ text "-" ∷ two_digits m.date.month ∷ text "-" ∷ two_digits m.date.day
    ∷ text "T" ∷ two_digits m.hour ∷ text ":" ∷ two_digits m.minute ∷ text ":" ∷ two_digits m.second ∷ text "Z" ∷ [])
