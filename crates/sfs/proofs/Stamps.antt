-- A stamp that C passes goes on as its bits, and they are its number's.
use Prim.Native.Nat.{ℕ}
use mathlib.Core.Path.{◌≡◌, ap, ◌∙◌}
use lib.IntN.{ℤ}
use mir.Syntax.{w64}
use mir.Val.{SFits, to_z, of_z}
use mir.ValLaws.{to_z-of_z}
use Rattle.rules.specs.Fields.{signed_of, bits_of}
use Rattle.rules.specs.Fields.Signed.{signed-bits}

pub stamp-is : (z : ℤ) (n : ℕ) → SFits w64 z → n ≡ bits_of (to_z w64 (of_z w64 z)) → signed_of n ≡ z
stamp-is z n f e = ap signed_of e ∙ ap (λ (x : ℤ). signed_of (bits_of x)) (to_z-of_z w64 z f) ∙ signed-bits z f.sfits
