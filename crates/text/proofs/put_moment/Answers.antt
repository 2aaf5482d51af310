use mathlib.Core.Path.{◌≡◌, sym, ap, ◌∙◌}
use native.Mathlib.Omega.{arith}
use mir.Syntax.{w64}
use mir.Val.{of_z, to_z}
use mir.ValLaws.{to_z-of_z}
use Rattle.rules.specs.Fields.{signed_of}
use Rattle.rules.specs.Dates.{moment_of}
use Rattle.rules.specs.Dates.Text.{moment_text-parts}
use Rattle.stamps.specs.View.{moment_view}
use Rattle.text.specs.Wrote.{wrote-both}
use Rattle.text.proofs.put_moment.Goals as goal
use Rattle.text.proofs.put_moment.Goals.{After-moment_of-m}

-- The moment's parts are in range, so each takes the bytes that its writer asks for. Assumes nothing.
pub from_bits-requires : goal.from_bits-requires
from_bits-requires c = tt

pub moment_of-m-requires : goal.moment_of-m-requires
moment_of-m-requires c = tt

-- the stamp and the year, as the calls read them back from their bits
moment-is : (c : After-moment_of-m) → moment_of (signed_of c.args.stamp) ≡ moment_view c.moment_of-m.result
moment-is c =
    let b = c.from_bits in
    ap moment_of (sym (to_z-of_z w64 b.result (record { sfits = b.type_inv }) ∙ b.ensures)) ∙ sym c.moment_of-m.ensures.0

year-is : (c : After-moment_of-m) → to_z w64 (of_z w64 c.moment_of-m.result.date.year) ≡ c.moment_of-m.result.date.year
year-is c = to_z-of_z w64 c.moment_of-m.result.date.year (record { sfits = omega (arith, c.moment_of-m.ensures.1.0.0) })

pub put_date-end-requires : goal.put_date-end-requires
put_date-end-requires c =
    let h = c.moment_of-m.ensures.1 in
    rw (year-is (goal.at.put_date-end-requires c).After-moment_of-m) (omega arith, h.0.0, omega arith, omega arith)

pub put_time-requires : goal.put_time-requires
put_time-requires c = omega (arith, c.moment_of-m.ensures.1)

pub shape_of-out : goal.shape_of-out
shape_of-out c = omega arith

pub returns : goal.returns
returns c =
    rw (moment-is (goal.at.returns c).After-moment_of-m, moment_text-parts (moment_view c.moment_of-m.result), ← year-is (goal.at.returns c).After-moment_of-m)
    (wrote-both _ _ _ _ _ _ _ _ (omega arith) c.put_date-end.ensures.0 c.put_time.ensures.0, omega arith)
