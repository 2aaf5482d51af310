use Prim.Native.Nat.{◌+◌, ◌<◌}
use native.Mathlib.Omega.{arith}
use mir.Syntax.{w64}
use mir.ValLaws.{to_z-of_z}
use Rattle.rules.specs.Dates.Quick.{month_of, date_at}
use Rattle.rules.proofs.Dates.Quick.{year_of-lt, day_of-lt, carry-le}
use Rattle.stamps.proofs.date_at.Goals as goal
use Rattle.stamps.proofs.date_at.Goals.{After-month_day-md}

pub month_day-md-requires : goal.month_day-md-requires
month_day-md-requires c = omega (arith, day_of-lt c.args.e c.requires.1)

-- the year of the era, with the carry, is at most 400
year-small : (c : After-month_day-md) → c.year_day-yd.result.year + c.month_day-md.result.carry < 1000
year-small c =
    omega (arith, year_of-lt c.args.e c.requires.1, carry-le (month_of c.year_day-yd.result.day))

pub overflow_add-yd : goal.overflow_add-yd
overflow_add-yd c = omega (arith, year-small (goal.at.overflow_add-yd c).After-month_day-md)

pub year_at-requires : goal.year_at-requires
year_at-requires c = rw (to_z-of_z w64 c.args.era c.ranges.era) (c.requires.0, year-small (goal.at.year_at-requires c).After-month_day-md)

pub returns : goal.returns
unfolding date_at
returns c = cc (to_z-of_z w64 c.year_at.result (record { sfits = c.year_at.type_inv }), to_z-of_z w64 c.args.era c.ranges.era)
