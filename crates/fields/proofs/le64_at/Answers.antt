use Prim.Native.Nat.{ℕ, ◌+◌, ◌*◌}
use mathlib.Core.Path.{◌≡◌, ap, ◌∙◌}
use mathlib.Core.List.{List}
use native.Mathlib.Omega.{arith}
use lib.ListN.{get_or}
use Rattle.rules.specs.Fields.{le}
use Rattle.fields.proofs.le64_at.Goals as goal

eight : (s : List ℕ) (i r : ℕ)
    → r ≡ get_or s i 0 + get_or s (i + 1) 0 * 256 + get_or s (i + 2) 0 * 65_536 + get_or s (i + 3) 0 * 16_777_216 + get_or s (i + 4) 0 * 4_294_967_296
    + get_or s (i + 5) 0 * 1_099_511_627_776 + get_or s (i + 6) 0 * 281_474_976_710_656 + get_or s (i + 7) 0 * 72_057_594_037_927_936
    → r ≡ le 8 s i
unfolding le
eight s i r e =
    let at : (j k : ℕ) → j ≡ k → get_or s j 0 ≡ get_or s k 0 = λ j k e. ap (λ (n : ℕ). get_or s n 0) e in
    omega (
      arith,
      at (i + 1 + 1) (i + 2) (omega arith),
      at (i + 1 + 1 + 1) (i + 3) (omega arith),
      at (i + 1 + 1 + 1 + 1) (i + 4) (omega arith),
      at (i + 1 + 1 + 1 + 1 + 1) (i + 5) (omega arith),
      at (i + 1 + 1 + 1 + 1 + 1 + 1) (i + 6) (omega arith),
      at (i + 1 + 1 + 1 + 1 + 1 + 1 + 1) (i + 7) (omega arith),
    )

pub returns : goal.returns
returns c = let s = c.args.s.now in eight s c.index-i.result _ c.from_le_bytes.ensures ∙ ap (le 8 s) c.index-i.ensures
