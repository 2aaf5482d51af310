use native.Mathlib.Omega.{arith}
use lib.IntN.{pos, ◌+ℤ◌}
use mir.Syntax.{w64}
use mir.ValLaws.{to_z-of_z}
use Rattle.rules.specs.Dates.Laws.{mod_below}
use Rattle.rules.specs.Dates.Quick.{quick_date}
use Rattle.rules.proofs.Dates.Quick.{quick-date}
use Rattle.rules.proofs.Dates.Range.{cycles-small}
use Rattle.stamps.proofs.Calendar.{shift-asks, shift_is}
use Rattle.stamps.proofs.date_of.Goals as goal

-- `stamps::date_of` meets its contract: the quick date of a day is its date. Assumes nothing.
pub overflow_add-z : goal.overflow_add-z
overflow_add-z c = shift-asks c.args.days c.ranges.days c.requires

pub date_at-requires : goal.date_at-requires
date_at-requires c =
    let f = c.floor_div in
    rw (to_z-of_z w64 f.result (record { sfits = f.type_inv }), f.ensures, c.floor_mod.ensures, shift_is c.args.days c.ranges.days c.requires)
    (cycles-small c.args.days 719468 c.requires (omega arith), mod_below (c.args.days +ℤ pos 719468) 146097 (omega arith))

pub returns : goal.returns
unfolding quick_date
returns c =
    let f = c.floor_div in
    cc (quick-date c.args.days, to_z-of_z w64 f.result (record { sfits = f.type_inv }), shift_is c.args.days c.ranges.days c.requires)
