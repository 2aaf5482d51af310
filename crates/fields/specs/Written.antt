-- Fields written side by side: two writings are one.
use Rattle.std.specs.Prelude.{ℕ, ◌+◌, ◌^◌, ◌≤◌, ◌<◌, ◌≡◌, List, [], ◌∷◌, ◌++◌, length, ℤ}
use Rattle.std.proofs.Common.{mod-eq_of_lt}
use Rattle.rules.specs.Fields.{le_bytes, splice, signed_of, bits_of, stamp_bytes}
use Rattle.rules.specs.Fields.Laws.{length-le_bytes, splice-splice}
use Rattle.rules.specs.Fields.Signed.{bits-signed}

pub byte-alone : (b : ℕ) → b < 256 → le_bytes 1 b ≡ b ∷ []
unfolding le_bytes
byte-alone b h = rw (mod-eq_of_lt h)

-- n bytes, and what is written behind them
pub join : (s : List ℕ) (at : ℕ) (xs : List ℕ) (n : ℕ) (ys : List ℕ) → length xs ≡ n → at + (n + length ys) ≤ length s
    → splice (splice s at xs) (at + n) ys ≡ splice s at (xs ++ ys)
join s at xs n ys e h = rw (← e) (splice-splice s at xs ys (rw e h))

pub stamp-bits : (b : ℕ) → b < 2 ^ 64 → le_bytes 8 b ≡ stamp_bytes (signed_of b)
unfolding stamp_bytes
stamp-bits b h = rw (bits-signed b h)

pub length-stamp : (z : ℤ) → length (stamp_bytes z) ≡ 8
unfolding stamp_bytes
length-stamp z = length-le_bytes 8 (bits_of z)
