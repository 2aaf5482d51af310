use Prim.Native.Nat.{◌+◌, ◌≤◌}
use native.Mathlib.Omega.{arith}
use mir.Syntax.{w64}
use mir.ValLaws.{to_z-of_z}
use Rattle.rules.specs.Dates.{year_text}
use Rattle.rules.specs.Dates.Text.{length-year_text}
use Rattle.text.specs.Wrote.{Wrote, wrote-both}
use Rattle.text.proofs.put_date.Goals as goal
use Rattle.text.proofs.put_date.Goals.{After-put_year-y}

-- Three writings are one. Assumes nothing.
-- how much of the room the year takes
year-wrote : (c : After-put_year-y) → Wrote c.args.out.now c.args.at (year_text c.args.year) c.put_year-y.new.out c.put_year-y.result × (c.put_year-y.result ≤ c.args.at + 14)
year-wrote c =
    let w = rw (to_z-of_z w64 c.args.year c.ranges.year) at c.put_year-y.ensures in
    (w, omega (arith, length-year_text c.args.year c.requires.1))

pub put_year-y-requires : goal.put_year-y-requires
put_year-y-requires c = rw (to_z-of_z w64 c.args.year c.ranges.year) (omega (arith, length-year_text c.args.year c.requires.1))

pub put_two-m-requires : goal.put_two-m-requires
put_two-m-requires c = omega (arith, (year-wrote (goal.at.put_two-m-requires c).After-put_year-y).1)

pub put_two-requires : goal.put_two-requires
put_two-requires c = omega (arith, (year-wrote (goal.at.put_two-requires c).After-put_year-y).1)

pub shape_of-out : goal.shape_of-out
shape_of-out c = omega arith

pub returns : goal.returns
returns c =
    let y = year-wrote (goal.at.returns c).After-put_year-y in (
      wrote-both _ _ _ _ _ _ _ _ (omega arith) y.0
          (wrote-both _ _ _ _ _ _ _ _ (omega arith) c.put_two-m.ensures.0 c.put_two.ensures.0),
      omega arith,
    )
