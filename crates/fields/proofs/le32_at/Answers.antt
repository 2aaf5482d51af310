use Prim.Native.Nat.{ℕ, ◌+◌, ◌*◌}
use mathlib.Core.Path.{◌≡◌, ap, ◌∙◌}
use mathlib.Core.List.{List}
use native.Mathlib.Omega.{arith}
use lib.ListN.{get_or}
use Rattle.rules.specs.Fields.{le}
use Rattle.fields.proofs.le32_at.Goals as goal

four : (s : List ℕ) (i : ℕ) → get_or s i 0 + get_or s (i + 1) 0 * 256 + get_or s (i + 2) 0 * 65_536 + get_or s (i + 3) 0 * 16_777_216 ≡ le 4 s i
unfolding le
four s i =
    let at : (j k : ℕ) → j ≡ k → get_or s j 0 ≡ get_or s k 0 = λ j k e. ap (λ (n : ℕ). get_or s n 0) e in
    omega (arith, at (i + 1 + 1) (i + 2) (omega arith), at (i + 1 + 1 + 1) (i + 3) (omega arith))

pub returns : goal.returns
returns c = let s = c.args.s.now in c.from_le_bytes.ensures ∙ four s c.index-i.result ∙ ap (le 4 s) c.index-i.ensures
