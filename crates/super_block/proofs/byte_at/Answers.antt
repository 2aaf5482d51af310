use Prim.Native.Nat.{ℕ}
use mathlib.Core.Path.{ap, ◌∙◌}
use lib.ListN.{get_or}
use Rattle.super_block.proofs.byte_at.Goals as goal

pub returns : goal.returns
returns c = ap (λ (j : ℕ). get_or c.args.img.now j 0) (c.index-i.ensures ∙ c.place.ensures.0)
