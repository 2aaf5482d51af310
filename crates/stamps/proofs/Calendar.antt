-- The sums and products of the calendar's code over signed numbers: that they fit, and what they are. Assumes nothing.
use mathlib.Core.Path.{◌≡◌}
use Prim.Native.Nat.{ℕ, ◌^◌, ◌<◌}
use native.Mathlib.Omega.{arith}
use lib.IntN.{ℤ, pos, ◌+ℤ◌, ◌*ℤ◌}
use lib.Signed.{mag}
use mir.Syntax.{w64}
use mir.Val.{SFits, of_z, to_z}
use mir.ValLaws.{to_z-of_z, to_z_pos}
use Rattle.rules.specs.Dates.Laws.{mag-mul, mag-add}

-- ---- year_at
module _ (era : ℤ) (f : SFits w64 era) (y : ℕ) (h : mag era < 2 ^ 30) (k : y < 1000) where
  mul-fits : SFits w64 (era *ℤ pos 400)
  mul-fits = record { sfits = omega (arith, mag-mul era 400) }

  add-fits : SFits w64 (era *ℤ pos 400 +ℤ pos y)
  add-fits = record { sfits = omega (arith, mag-mul era 400, mag-add (era *ℤ pos 400) y) }

  pub year-mul : SFits w64 (to_z w64 (of_z w64 era) *ℤ pos 400)
  year-mul = rw (to_z-of_z w64 era f) mul-fits

  pub year-add : SFits w64 (to_z w64 (of_z w64 (to_z w64 (of_z w64 era) *ℤ pos 400)) +ℤ to_z w64 y)
  year-add = rw (to_z-of_z w64 era f, to_z-of_z w64 (era *ℤ pos 400) mul-fits, to_z_pos w64 y (omega arith)) add-fits

  pub year-is : to_z w64 (of_z w64 (to_z w64 (of_z w64 (to_z w64 (of_z w64 era) *ℤ pos 400)) +ℤ to_z w64 y)) ≡ era *ℤ pos 400 +ℤ pos y
  year-is =
      rw (to_z-of_z w64 era f, to_z-of_z w64 (era *ℤ pos 400) mul-fits, to_z_pos w64 y (omega arith))
      (to_z-of_z w64 (era *ℤ pos 400 +ℤ pos y) add-fits)

-- ---- date_of
module _ (days : ℤ) (f : SFits w64 days) (h : mag days < 2 ^ 40) where
  shift_fits : SFits w64 (days +ℤ pos 719468)
  shift_fits = record { sfits = omega (arith, mag-add days 719468) }

  pub shift-asks : SFits w64 (to_z w64 (of_z w64 days) +ℤ pos 719468)
  shift-asks = rw (to_z-of_z w64 days f) shift_fits

  pub shift_is : to_z w64 (of_z w64 (to_z w64 (of_z w64 days) +ℤ pos 719468)) ≡ days +ℤ pos 719468
  shift_is = rw (to_z-of_z w64 days f) (to_z-of_z w64 (days +ℤ pos 719468) shift_fits)
