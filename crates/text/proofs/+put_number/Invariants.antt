-- A call of itself is at n / 10 and w - 1: its number or its width is less.
use Prim.Native.Nat.{◌+◌}
use Rattle.text.proofs.+put_number.Given as goal

abbrev pub decreases-put_number : goal.decreases-put_number
decreases-put_number l = l.n + l.w
