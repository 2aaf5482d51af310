-- 01, "Sizes": fields are little-endian; stamps are signed, other fields unsigned. And the checksum of "Super-block".
use Rattle.std.specs.Prelude.{ℕ, zero, suc, ◌+◌, ◌-◌, ◌*◌, ◌/◌, ◌%◌, ◌^◌, ◌<◌, Bool, false, ◌||◌, List, [], ◌∷◌, ◌++◌, length, get_or, take, drop, eqb, ltb, ℤ, pos, negsuc}
pub mod Laws
pub mod Signed
use Rattle.rules.specs.Lists.{pick, sum}

-- every element is a byte, as in what a caller lends; the definitions take any list of numbers
abbrev pub Bytes : List ℕ → Type 0
Bytes s = (i : ℕ) → get_or s i 0 < 256

-- the byte at a place; 0 past the end
unfoldable pub byte_at : List ℕ → ℕ → ℕ
byte_at s at = get_or s at 0

-- the number that w bytes from `at` on say, the lowest first
unfoldable pub le : ℕ → List ℕ → ℕ → ℕ
le zero s at = 0
le (suc w) s at = get_or s at 0 + 256 * le w s (at + 1)

-- the w lowest bytes of v, the lowest first
unfoldable pub le_bytes : ℕ → ℕ → List ℕ
le_bytes zero v = []
le_bytes (suc w) v = v % 256 ∷ le_bytes w (v / 256)

-- s with bs in the place of what stands from `at` on
unfoldable pub splice : List ℕ → ℕ → List ℕ → List ℕ
splice s at bs = take at s ++ (bs ++ drop (at + length bs) s)

-- the signed number of 64 bits: from 2 ^ 63 up they stand for the number less 2 ^ 64
unfoldable pub signed_of : ℕ → ℤ
signed_of n = pick (ltb n (2 ^ 63)) (pos n) (negsuc (2 ^ 64 - 1 - n))

-- the lowest 64 bits of any number, that is the number modulo 2 ^ 64
unfoldable pub bits_of : ℤ → ℕ
bits_of (pos n) = n % 2 ^ 64
bits_of (negsuc n) = 2 ^ 64 - 1 - n % 2 ^ 64

-- a stamp, read and as it is stored
unfoldable pub stamp_in : List ℕ → ℕ → ℤ
stamp_in s at = signed_of (le 8 s at)

unfoldable pub stamp_bytes : ℤ → List ℕ
stamp_bytes z = le_bytes 8 (bits_of z)

-- bytes that sum to 0 modulo 256 check
unfoldable pub byte_sum : List ℕ → ℕ
byte_sum s = sum (λ b. b) s

unfoldable pub checks : List ℕ → Bool
checks s = eqb (byte_sum s % 256) 0

-- the byte that makes them check
unfoldable pub checksum_of : List ℕ → ℕ
checksum_of s = (256 - byte_sum s % 256) % 256

-- a name ends at the first zero byte of its field, and there must be one
unfoldable pub up_to_zero : List ℕ → List ℕ
up_to_zero [] = []
up_to_zero (b ∷ bs) = pick (eqb b 0) [] (b ∷ up_to_zero bs)

unfoldable pub has_zero : List ℕ → Bool
has_zero [] = false
has_zero (b ∷ bs) = eqb b 0 || has_zero bs
