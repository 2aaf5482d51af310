use Prim.Native.Nat.{ℕ, ◌+◌}
use mathlib.Core.Path.{sym, ap, ◌∙◌}
use Rattle.rules.specs.Fields.{splice, le_bytes}
use Rattle.rules.specs.Fields.Laws.{length-le_bytes}
use Rattle.records.proofs.put_number.Goals as goal

pub returns : goal.returns
returns c =
    let a = c.args in
    (c.put_le.ensures ∙ ap (λ (o : ℕ). splice a.out.now o (le_bytes 8 a.n)) c.at.ensures, ap (λ (k : ℕ). a.at + k) (sym (length-le_bytes 8 a.n)))
