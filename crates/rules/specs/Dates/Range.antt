-- How large the parts of a date and of a moment are.
use Rattle.std.specs.Prelude.{◌^◌, ◌≤◌, ◌<◌}
use Rattle.std.specs.Int.Signed.{mag}
use Rattle.rules.specs.Dates.{Date, Moment}

abbrev pub DateInRange : Date → Type 0
DateInRange d = (mag d.year < 2 ^ 40) × (1 ≤ d.month) × (d.month ≤ 12) × (1 ≤ d.day) × (d.day ≤ 31)

abbrev pub InRange : Moment → Type 0
InRange m = DateInRange m.date × (m.hour < 24) × (m.minute < 60) × (m.second < 60)
