use mathlib.Core.Path.{◌≡◌}
use lib.IntN.{ℤ}
use mir.Syntax.{w64}
use mir.Val.{SFits, of_z, to_z}
use mir.ValLaws.{to_z-of_z}
use Rattle.rules.specs.Dates.{Moment, moment_of, days_of, seconds_of, second_of_day}
use Rattle.rules.specs.Dates.Range.{InRange}
use Rattle.rules.proofs.Dates.Range.{days-small, moment-in-range}
use Rattle.stamps.proofs.moment_of.Goals as goal
use Rattle.stamps.proofs.moment_of.Goals.{After-floor_div, After-floor_div-seconds}

-- the seconds and the days, as the calls read them back from their bits
seconds-are : (c : After-floor_div-seconds) → to_z w64 (of_z w64 c.floor_div-seconds.result) ≡ seconds_of c.args.stamp
unfolding seconds_of
seconds-are c = cc (to_z-of_z w64 c.args.stamp c.ranges.stamp, to_z-of_z w64 c.floor_div-seconds.result (record { sfits = c.floor_div-seconds.type_inv }))

days-are : (c : After-floor_div) → to_z w64 (of_z w64 c.floor_div.result) ≡ days_of c.args.stamp
unfolding days_of
days-are c = cc (seconds-are (goal.at.After-floor_div c).After-floor_div-seconds, to_z-of_z w64 c.floor_div.result (record { sfits = c.floor_div.type_inv }))

pub date_of-date-requires : goal.date_of-date-requires
date_of-date-requires c = rw (days-are c) (days-small c.args.stamp c.ranges.stamp.sfits)

with-range : (m : Moment) (z : ℤ) → SFits w64 z → m ≡ moment_of z → (m ≡ moment_of z) × InRange m
with-range m z h e = (e, rw e (moment-in-range z h.sfits))

pub returns : goal.returns
unfolding moment_of second_of_day
returns c = with-range _ c.args.stamp c.ranges.stamp (cc (seconds-are (goal.at.returns c).After-floor_div-seconds, days-are (goal.at.returns c).After-floor_div))
