use Prim.Native.Nat.{◌-◌}
use mathlib.Core.Path.{◌≡◌}
use Rattle.rules.specs.Fields.{splice, le_bytes}
use Rattle.fields.proofs.put_le.Given as goal

abbrev pub invariant-loop-byte : goal.invariant-loop-byte
invariant-loop-byte l = splice l.byte-items l.byte-index (le_bytes (l.w - l.byte-index) l.x) ≡ le_bytes l.w l.v
