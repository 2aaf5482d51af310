use mathlib.Core.List.{◌++◌}
use mathlib.Core.Path.{◌≡◌, ap}
use native.Mathlib.Omega.{arith}
use lib.IntN.{nat_abs}
use lib.ListN.{length}
use mir.Syntax.{w64}
use mir.ValLaws.{to_z-of_z}
use Rattle.rules.specs.Text.{text, decimal, widened}
use Rattle.rules.specs.Dates.{year_text}
use Rattle.rules.specs.Dates.Text.{year-up, year-down}
use Rattle.stamps.proofs.Signed.{is-neg, is_pos}
use Rattle.text.specs.Wrote.{wrote-both}
use Rattle.text.proofs.put_year.Goals as goal
use Rattle.text.proofs.put_year.Goals.{After-unsigned_abs-n, Else-year-lt0, Then-year-lt0}

-- The sign says which text it is. Assumes nothing.
size : (c : After-unsigned_abs-n) → c.unsigned_abs-n.result ≡ nat_abs c.args.year
size c = cc (c.unsigned_abs-n.ensures.value, to_z-of_z w64 c.args.year c.ranges.year)

down : (c : Then-year-lt0) → year_text c.args.year ≡ text "-" ++ widened 4 (decimal c.unsigned_abs-n.result)
down c =
    let (n, e, h) = is-neg c.args.year c.ranges.year c.if-year-lt0.true in
    rw (size (goal.at.Then-year-lt0 c).After-unsigned_abs-n, e) (year-down n)

up : (c : Else-year-lt0) → year_text c.args.year ≡ widened 4 (decimal c.unsigned_abs-n.result)
up c =
    let (n, e, h) = is_pos c.args.year c.ranges.year c.if-year-lt0.false in
    rw (size (goal.at.Else-year-lt0 c).After-unsigned_abs-n, e) (year-up n)

pub put_byte-end-requires : goal.put_byte-end-requires
put_byte-end-requires c = omega (arith, ap length (down (goal.at.put_byte-end-requires c).Then-year-lt0))

pub put_number-requires : goal.put_number-requires
put_number-requires c = omega (arith, ap length (down (goal.at.put_number-requires c).Then-year-lt0))

pub shape_of-out-then-year-lt0 : goal.shape_of-out-then-year-lt0
shape_of-out-then-year-lt0 c = omega arith

pub returns-then-year-lt0 : goal.returns-then-year-lt0
returns-then-year-lt0 c =
    let d = down (goal.at.returns-then-year-lt0 c).Then-year-lt0 in
    rw d
    (wrote-both _ _ _ _ _ _ (text "-") _ (omega (arith, ap length d)) c.put_byte-end.ensures c.put_number.ensures)

pub put_number-requires-2 : goal.put_number-requires-2
put_number-requires-2 c = omega (arith, ap length (up (goal.at.put_number-requires-2 c).Else-year-lt0))

pub shape_of-out : goal.shape_of-out
shape_of-out c = omega arith

pub returns : goal.returns
returns c = rw (up (goal.at.returns c).Else-year-lt0) c.put_number-2.ensures
