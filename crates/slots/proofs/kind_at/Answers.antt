use mathlib.Core.Path.{ap}
use Prim.Native.Nat.{ℕ}
use lib.ListN.{get_or}
use Rattle.slots.proofs.kind_at.Goals as goal

pub returns : goal.returns
returns c = ap (λ (i : ℕ). get_or c.args.img.now i 0) c.index-i.ensures
