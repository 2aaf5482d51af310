use Prim.Native.Nat.{ℕ, ◌+◌}
use mathlib.Core.Path.{sym, ap, ◌∙◌}
use Rattle.rules.specs.Fields.{splice, stamp_bytes, signed_of}
use Rattle.laws.proofs.Records.Packed.{stamp-length}
use Rattle.records.proofs.put_stamp.Goals as goal

pub returns : goal.returns
returns c =
    let a = c.args in
    (c.put_stamp.ensures ∙ ap (λ (o : ℕ). splice a.out.now o (stamp_bytes (signed_of a.bits))) c.at.ensures, ap (λ (k : ℕ). a.at + k) (sym (stamp-length (signed_of a.bits))))
