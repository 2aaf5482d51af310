-- Text: the bytes of words and of numbers.
use Rattle.std.specs.Prelude.{ℕ, zero, suc, ◌+◌, ◌-◌, ◌/◌, ◌%◌, List, [], ◌∷◌, ◌++◌, length, replicate, ltb}
use Prim.Native.Char.{code}
use Prim.Native.String.{String}
use Rattle.rules.specs.Lists.{pick}
pub mod Laws

-- the codes of the characters of a text: its bytes, where all are below 0x80
abbrev pub text : String → List ℕ
text String.[] = []
text (String.◌∷◌ c s) = code c ∷ text s

-- texts one behind the other
abbrev pub joined : List (List ℕ) → List ℕ
joined [] = []
joined (t ∷ ts) = t ++ joined ts

-- ---- numbers
unfoldable pub digit : ℕ → ℕ
digit n = code "0" + n % 10

-- decimal digits, with no zero in front; the first number only bounds the steps
unfoldable pub digits : ℕ → ℕ → List ℕ
digits zero n = []
digits (suc steps) n = let r = digits steps (n / 10) in pick (ltb n 10) (digit n ∷ []) (r ++ (digit n ∷ []))

unfoldable pub decimal : ℕ → List ℕ
decimal n = digits (suc n) n

-- at least w digits
unfoldable pub widened : ℕ → List ℕ → List ℕ
widened w ds = replicate (w - length ds) (code "0") ++ ds
