-- How large the parts of a date and of a moment are: laws.
use Rattle.std.specs.Prelude.{ℕ, ◌^◌, ◌<◌, ℤ, pos, ◌+ℤ◌, ◌*ℤ◌}
use Rattle.std.proofs.Common.{arith}
use Rattle.std.specs.Int.Signed.{mag}
use Rattle.rules.specs.Dates.{floor_div, floor_mod, leap_year, epoch, cycle, year_off, date_in, date_of, seconds_of, days_of, second_of_day, moment_of}
use Rattle.rules.specs.Dates.Laws.{mod_below, mag-div, mag-mul, mag-add}
use Rattle.rules.proofs.Dates.Calendar.{month-le, year-placed, date-valid}
use Rattle.rules.specs.Dates.Range.{DateInRange, InRange}

-- the cycles before a day, wherever near 1970 they are counted from
pub cycles-small : (days : ℤ) (from : ℕ) → mag days < 2 ^ 40 → from < 2 ^ 40 → mag (floor_div (days +ℤ pos from) cycle) < 2 ^ 30
cycles-small days from h k = omega (arith, mag-div (days +ℤ pos from) cycle, mag-add days from)

year-small : (days : ℤ) → mag days < 2 ^ 40 → mag (date_of days).year < 2 ^ 40
unfolding date_of date_in
year-small days h =
    let q = floor_div (days +ℤ pos epoch) cycle in
    let y = year_off (floor_mod (days +ℤ pos epoch) cycle) in
    let p = year-placed (floor_mod (days +ℤ pos epoch) cycle) (mod_below (days +ℤ pos epoch) cycle (omega arith)) in
    omega (arith, mag-add (q *ℤ pos 400) y.unit, mag-mul q 400, cycles-small days epoch h (omega arith), p.1)

-- the date of any day within 2 ^ 40 of 1970
date-in-range : (days : ℤ) → mag days < 2 ^ 40 → DateInRange (date_of days)
date-in-range days h =
    let (low, high, some, last) = date-valid days in
    (year-small days h, low, high, some, omega (arith, month-le (leap_year (date_of days).year) (date_of days).month high))

pub days-small : (stamp : ℤ) → mag stamp < 2 ^ 63 → mag (days_of stamp) < 2 ^ 40
unfolding days_of seconds_of
days-small stamp h = omega (arith, mag-div stamp 65536, mag-div (floor_div stamp 65536) 86400)

-- the moment of any stamp of 64 bits
pub moment-in-range : (stamp : ℤ) → mag stamp < 2 ^ 63 → InRange (moment_of stamp)
unfolding moment_of second_of_day
moment-in-range stamp h =
    let s : second_of_day stamp < 86400 = mod_below (seconds_of stamp) 86400 (omega arith) in
    (date-in-range (days_of stamp) (days-small stamp h), omega arith, omega arith, omega arith)
