use mathlib.Core.Path.{refl, sym}
use Rattle.rules.specs.Dates.Quick.{month_of, month_start}
use Rattle.rules.proofs.Dates.Quick.{calendar_month-low, calendar_month-high, carry-low, carry-high}
use Rattle.stamps.proofs.month_day.Goals as goal

pub returns-then-m-lt10 : goal.returns-then-m-lt10
unfolding month_of month_start
returns-then-m-lt10 c = (sym (calendar_month-low _ c.if-m-lt10.true), refl, sym (carry-low _ c.if-m-lt10.true))

pub returns-else-m-lt10 : goal.returns-else-m-lt10
unfolding month_of month_start
returns-else-m-lt10 c = (sym (calendar_month-high _ c.if-m-lt10.false), refl, sym (carry-high _ c.if-m-lt10.false))
