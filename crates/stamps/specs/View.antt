-- The code's dates and moments as those of the rules.
use Rattle.rules.specs.Dates.{Date, Moment}
use Rattle.stamps.specs.declared.Date.{Date as CodeDate}
use Rattle.stamps.specs.declared.Moment.{Moment as CodeMoment}

abbrev pub date_view : CodeDate → Date
date_view d = record { year = d.year; month = d.month; day = d.day }

abbrev pub moment_view : CodeMoment → Moment
moment_view m = record { date = date_view m.date; hour = m.hour; minute = m.minute; second = m.second }
