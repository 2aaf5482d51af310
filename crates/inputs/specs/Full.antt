-- What came of reading an input to its end, or until a buffer was full.
use Rattle.std.specs.Prelude.{ℕ, ◌≤◌, ◌<◌, List, Option, Result, MatchResult, length, take}
use Rattle.std.specs.Io.KnownBytes.{Consumes, IsAtEnd}

-- ---- so many bytes are in the buffer
abbrev pub Filled : Result ℕ ℕ → List ℕ → Type 0
Filled r s = MatchResult r (λ n. n ≤ length s) (λ n. n ≤ length s)

-- ---- where a reader's bytes are known: those that it gave, since it had a left, are at the start of the buffer, and it has no more where there was
-- room and no read failed
abbrev pub ReadAll : Option (List ℕ) → Option (List ℕ) → Result ℕ ℕ → List ℕ → Type 0
ReadAll a b r s = MatchResult r (λ n. Consumes a b (take n s) × (n < length s → IsAtEnd b)) (λ n. Consumes a b (take n s))
