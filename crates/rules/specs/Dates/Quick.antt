-- THE QUICK DATE: the calendar by a few quotients, as the code computes it. That it is the date of every day is proved in proofs/Dates/Quick.antt.
use Prim.Native.Nat.{ℕ, ◌+◌, ◌-◌, ◌*◌, ◌/◌, ◌%◌, min}
use Rattle.std.specs.Prelude.{ltb, ℤ, pos, ◌+ℤ◌, ◌*ℤ◌}
use Rattle.rules.specs.Lists.{pick}
use Rattle.rules.specs.Dates.{floor_div, floor_mod, Date}

-- ---- in years that start on 1 March, so that the leap day is the last of its year
-- 400 years, 146,097 days, are an era: four centuries of 36,524 days and a day more in the last; 25 times four years of 1,461 days,
-- the last of a century a day less; four years of 365 days, and a day more in the last
unfoldable pub century : ℕ → ℕ
century e = min (e / 36524) 3

unfoldable pub in_century : ℕ → ℕ
in_century e = e - 36524 * century e

unfoldable pub year_of_four : ℕ → ℕ
year_of_four e = min (in_century e % 1461 / 365) 3

-- the year of the era, and the day of that year, both from 0
unfoldable pub year_of : ℕ → ℕ
year_of e = 100 * century e + 4 * (in_century e / 1461) + year_of_four e

unfoldable pub day_of : ℕ → ℕ
day_of e = in_century e % 1461 - 365 * year_of_four e

-- the month, from 0 for March, and its first day: lengths of 31 30 31 30 31 repeat
unfoldable pub month_of : ℕ → ℕ
month_of d = (5 * d + 2) / 153

unfoldable pub month_start : ℕ → ℕ
month_start m = (153 * m + 2) / 5

-- the calendar's month, and how much further its year is: January and February are the next year's
unfoldable pub calendar_month : ℕ → ℕ
calendar_month m = pick (ltb m 10) (m + 3) (m - 9)

unfoldable pub carry : ℕ → ℕ
carry m = pick (ltb m 10) 0 1

unfoldable pub date_at : ℤ → ℕ → Date
date_at era e = record {
  year = era *ℤ pos 400 +ℤ pos (year_of e + carry (month_of (day_of e)));
  month = calendar_month (month_of (day_of e));
  day = day_of e - month_start (month_of (day_of e)) + 1;
}

-- 1970-01-01 is 719,468 days after 1 March of year 0
unfoldable pub quick_date : ℤ → Date
quick_date days = date_at (floor_div (days +ℤ pos 719468) 146097) (floor_mod (days +ℤ pos 719468) 146097)
