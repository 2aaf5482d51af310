use Prim.Native.Nat.{ℕ}
use mathlib.Core.Path.{ap, ◌∙◌}
use native.Mathlib.Omega.{arith}
use lib.ListN.{get_or}
use Rattle.slots.specs.View.{slots_read}
use Rattle.slots.proofs.slots_at.Goals as goal

pub returns : goal.returns
returns c =
    let a = c.args in
    let place = c.index-i.ensures ∙ c.after.ensures in (
      slots_read _ a.img.now a.at.0 _ _ c.sum_length.ensures.0 (c.from.ensures ∙ ap (λ (j : ℕ). get_or a.img.now j 0) place),
      omega arith,
      omega arith,
    )
