use Prim.Native.Nat.{◌/◌, ◌%◌, ◌^◌}
use mathlib.Core.Path.{ap}
use lib.Dec.{eqb}
use Rattle.names.specs.Masks.{bit_of}
use Rattle.names.proofs.bit.Goals as goal

pub returns : goal.returns
unfolding bit_of
returns c = ap (λ w. eqb (w / 2 ^ (c.args.b % 64) % 2) 1) c.half.ensures
