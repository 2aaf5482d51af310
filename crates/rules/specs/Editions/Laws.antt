-- Laws of the editions: bounds of what differs, and what is the same for both.
use Rattle.std.specs.Prelude.{ℕ, ◌+◌, ◌-◌, ◌%◌, ◌≤◌, ◌≡◌, refl, Bool, true, false, List, [], length, eqb}
use Rattle.std.proofs.Common.{sym, arith, eq-eqb, eqb-true}
use Rattle.std.proofs.lemmas.Bool.{eqb-false}
use Rattle.rules.specs.Lists.{pick}
use Rattle.rules.specs.Lists.Laws.{clash}
use Rattle.rules.specs.Fields.{byte_sum, checks, checksum_of}
use Rattle.rules.specs.Fields.Laws.{byte_sum-nil, byte_sum-cons}
use Rattle.rules.specs.Editions.{Edition, edition10, edition110, by_edition, super_block_at, sum_length, sum_good, sum_of, past_end, stored_end, keeps_deleted}

-- the super-block lies in the first 446 bytes, which are reserved
pub super-bounds : (ed : Edition) → (0x18E ≤ super_block_at ed) × (super_block_at ed ≤ 0x194)
unfolding super_block_at by_edition
super-bounds edition10 = omega arith
super-bounds edition110 = omega arith

pub sum-short : (ed : Edition) → sum_length ed ≤ 1
unfolding sum_length by_edition
sum-short edition10 = omega arith
sum-short edition110 = omega arith

pub length-sum : (ed : Edition) (bs : List ℕ) → length (sum_of ed bs) ≡ sum_length ed
unfolding sum_of sum_length by_edition
length-sum edition10 bs = refl
length-sum edition110 bs = refl

-- the others and their sum, in any order and with zeros between them, sum right
pub sum-good : (ed : Edition) (others bytes : List ℕ) → byte_sum bytes ≡ byte_sum others + byte_sum (sum_of ed others) → sum_good ed bytes ≡ true
unfolding sum_good sum_of by_edition checks checksum_of
sum-good edition10 others bytes e = refl
sum-good edition110 others bytes e =
    let c : ℕ = (256 - byte_sum others % 256) % 256 in
    eq-eqb (byte_sum bytes % 256) 0 (omega (arith, byte_sum-cons c [], byte_sum-nil))

-- a stored end is read and given as it is
pub stored_past : (ed : Edition) (n : ℕ) → stored_end ed (past_end ed n) ≡ n
unfolding stored_end past_end by_edition pick
stored_past edition10 n = refl
stored_past edition110 n = by (eqb n 0) refl
  where
    by : (b : Bool) → eqb n 0 ≡ b → pick b 0 (n + 1) - 1 ≡ n
    by true e = omega (arith, eqb-true n 0 e)
    by false e = omega arith

-- and every end but 1, which no region has, is stored so that it is read back
pub past-stored : (ed : Edition) (n : ℕ) → (n ≡ 1 → ⊥) → past_end ed (stored_end ed n) ≡ n
unfolding stored_end past_end by_edition pick
past-stored edition10 n h = refl
past-stored edition110 n h = by (eqb (n - 1) 0) refl
  where
    by : (b : Bool) → eqb (n - 1) 0 ≡ b → pick b 0 (n - 1 + 1) ≡ n
    by true e = omega (arith, eqb-true (n - 1) 0 e, h)
    by false e = omega (arith, eqb-false (n - 1) 0 e)

-- no end is stored larger, and the 0 of an entry without a region is 0
pub stored_low : (ed : Edition) (n : ℕ) → stored_end ed n ≤ n
unfolding stored_end by_edition
stored_low edition10 n = omega arith
stored_low edition110 n = omega arith

pub past-none : (ed : Edition) → past_end ed 0 ≡ 0
unfolding past_end by_edition pick
past-none edition10 = refl
past-none edition110 = refl

-- the edition that keeps deleted entries has no sums
pub keeps-sum : (ed : Edition) (bytes : List ℕ) → keeps_deleted ed ≡ true → sum_good ed bytes ≡ true
unfolding keeps_deleted sum_good by_edition
keeps-sum edition10 bytes e = refl
keeps-sum edition110 bytes e = clash (sym e)
