-- Ends as they are stored, and the blocks past them.
use Rattle.std.specs.Prelude.{ℕ, ◌+◌, ◌≤◌, ◌≡◌, refl, Bool, true, false, eqb, ltb, leb}
use Rattle.std.proofs.Common.{sym, arith, eqb-true, ne_eqb, ltb-true, ltb-false, le-leb}
use Rattle.std.proofs.lemmas.Bool.{lt-leb}
use Rattle.rules.specs.Lists.{pick}
use Rattle.rules.specs.Editions.{Edition, edition10, edition110, by_edition, past_end}

-- the block past a region is its stored end or the next one
pub past_near : (ed : Edition) (n : ℕ) → (n ≤ past_end ed n) × (past_end ed n ≤ n + 1)
unfolding past_end by_edition pick
past_near edition10 n = (omega arith, omega arith)
past_near edition110 n = by (eqb n 0) refl
  where
    by : (b : Bool) → eqb n 0 ≡ b → (n ≤ pick b 0 (n + 1)) × (pick b 0 (n + 1) ≤ n + 1)
    by true e = (omega (arith, eqb-true n 0 e), omega arith)
    by false e = (omega arith, omega arith)

-- and is 0 exactly if that is
pub past-zero : (ed : Edition) (n : ℕ) → eqb (past_end ed n) 0 ≡ eqb n 0
unfolding past_end by_edition pick
past-zero edition10 n = refl
past-zero edition110 n = by (eqb n 0) refl
  where
    by : (b : Bool) → eqb n 0 ≡ b → eqb (pick b 0 (n + 1)) 0 ≡ b
    by true e = refl
    by false e = ne_eqb (n + 1) 0 (λ z. omega arith)

-- a block lies before b if the next one lies at or before it
pub before-next : (n b : ℕ) → ltb n b ≡ leb (n + 1) b
before-next n b = by (ltb n b) refl
  where
    by : (t : Bool) → ltb n b ≡ t → t ≡ leb (n + 1) b
    by true e = sym (le-leb (n + 1) b (omega (arith, ltb-true n b e)))
    by false e = sym (lt-leb (n + 1) b (omega (arith, ltb-false n b e)))
