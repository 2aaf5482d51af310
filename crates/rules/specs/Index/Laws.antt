-- Laws of the index area: where a name starts, and how many slots continue it.
use Rattle.std.specs.Prelude.{ℕ, zero, suc, ◌+◌, ◌-◌, ◌*◌, ◌/◌, ◌%◌, ◌≤◌, ◌<◌, ◌≡◌, refl, Bool, true, false, ◌||◌, List, [], ◌∷◌, ◌++◌, length, eqb, leb, ℤ}
use Rattle.std.proofs.Common.{sym, ap, ◌∙◌, length-append, eqb-true}
use native.Mathlib.Omega.{arith}
use Rattle.rules.specs.Lists.{pick, padded}
use Rattle.rules.specs.Lists.Laws.{clash, length-padded}
use Rattle.rules.specs.Fields.{stamp_bytes}
use Rattle.rules.specs.Fields.Laws.{byte_sum-cons, byte_sum-append, byte_sum-padded}
use Rattle.rules.specs.Editions.{Edition, edition10, edition110, by_edition, sum_length, sum_good, sum_of, keeps_deleted, takes_stray}
use Rattle.rules.specs.Editions.Laws.{sum-short, length-sum, sum-good}
use Rattle.rules.specs.Index.{Item, unused, file_type, live_type, deleted_type, stale_type, stamp_at, name_at, continuing, slot_bytes, type_unused, type_directory, type_file, type_identifier, entry_bytes, identifier_bytes, unused_bytes}

-- ---- what is left over where deleted entries are not kept
pub stale-some : (ed : Edition) (t : ℕ) → keeps_deleted ed ≡ false → stale_type ed t ≡ (deleted_type t || leb 0x20 t)
unfolding stale_type keeps_deleted takes_stray by_edition
stale-some edition10 t e = clash e
stale-some edition110 t e = refl

-- ---- where a name starts
pub name-at-bounds : (ed : Edition) (t : ℕ) → (10 ≤ name_at ed t) × (name_at ed t ≤ 35)
unfolding name_at pick
name-at-bounds ed t = by (file_type t)
  where
    by : (f : Bool) → (10 ≤ sum_length ed + pick f 34 10) × (sum_length ed + pick f 34 10 ≤ 35)
    by true = omega (arith, sum-short ed)
    by false = omega (arith, sum-short ed)

-- behind the stamp
pub name-at-behind : (ed : Edition) (t : ℕ) → stamp_at ed + 8 ≤ name_at ed t
unfolding name_at pick
name-at-behind ed t = by (file_type t)
  where
    by : (f : Bool) → stamp_at ed + 8 ≤ sum_length ed + pick f 34 10
    by true = omega arith
    by false = omega arith

-- ---- the slots that continue a name
module _ (ed : Edition) (t n : ℕ) where
  -- in parts none of which is larger than n, so that nothing wraps where n fits 64 bits
  pub continuing-parts : continuing ed t n ≡ n / 64 + (n % 64 + name_at ed t) / 64
  unfolding continuing
  continuing-parts = omega arith

  -- THE FEWEST: the name and its zero fit, and with one slot less they do not
  pub continuing-holds : n + 1 ≤ (64 - name_at ed t) + 64 * continuing ed t n
  unfolding continuing
  continuing-holds = omega (arith, name-at-bounds ed t)

  pub continuing-fewest : 0 < continuing ed t n → (64 - name_at ed t) + 64 * (continuing ed t n - 1) < n + 1
  unfolding continuing
  continuing-fewest h = omega (arith, name-at-bounds ed t)

  -- the same of the run's bytes: the zero is in its last slot
  pub continuing-room : (64 * continuing ed t n ≤ name_at ed t + n) × (name_at ed t + n < 64 * (1 + continuing ed t n))
  unfolding continuing
  continuing-room = omega arith

  -- a path that may be created has at most five
  pub continuing-new : n ≤ 285 → continuing ed t n ≤ 5
  unfolding continuing
  continuing-new h = omega (arith, name-at-bounds ed t)

-- ---- unused slots
-- the m unused slots k, k + 1, …
unfoldable pub unused_from : ℕ → ℕ → List Item
unused_from k zero = []
unused_from k (suc m) = unused k ∷ unused_from (k + 1) m

-- an entry has the bytes of its slots, where they hold it
pub length-entry : (ed : Edition) (t : ℕ) (body : List ℕ) (n : ℕ) → 1 + sum_length ed + length body ≤ n → length (entry_bytes ed t body n) ≡ n
unfolding entry_bytes
length-entry ed t body n h =
    length-padded ((t ∷ sum_of ed (t ∷ body)) ++ body) n (omega (arith, length-append (t ∷ sum_of ed (t ∷ body)) body, length-sum ed (t ∷ body)))

pub length-bare : (ed : Edition) (t : ℕ) → length (entry_bytes ed t [] slot_bytes) ≡ slot_bytes
length-bare ed t = length-entry ed t [] slot_bytes (omega (arith, sum-short ed))

pub length-unused_bytes : (ed : Edition) (m : ℕ) → length (unused_bytes ed m) ≡ slot_bytes * m
unfolding unused_bytes
length-unused_bytes ed zero = refl
length-unused_bytes ed (suc m) =
    length-append (entry_bytes ed type_unused [] slot_bytes) (unused_bytes ed m) ∙ omega (arith, length-bare ed type_unused, length-unused_bytes ed m)

-- ---- sums
-- what is written sums right: an entry, and the identifier
pub entry-sum : (ed : Edition) (t : ℕ) (body : List ℕ) (n : ℕ) → sum_good ed (entry_bytes ed t body n) ≡ true
unfolding entry_bytes
entry-sum ed t body n =
    let sum : List ℕ = sum_of ed (t ∷ body) in
    sum-good ed (t ∷ body) (padded ((t ∷ sum) ++ body) n)
    (omega (arith, byte_sum-padded ((t ∷ sum) ++ body) n, byte_sum-append (t ∷ sum) body, byte_sum-cons t sum, byte_sum-cons t body))

pub identifier-sum : (ed : Edition) (z : ℤ) (name : List ℕ) → sum_good ed (identifier_bytes ed z name) ≡ true
unfolding identifier_bytes
identifier-sum ed z name =
    let rest : List ℕ = stamp_bytes z ++ name in
    let sum : List ℕ = sum_of ed (type_identifier ∷ rest) in
    let front : List ℕ = type_identifier ∷ padded sum 3 in
    sum-good ed (type_identifier ∷ rest) (padded (front ++ rest) slot_bytes)
    (omega (
      arith,
      byte_sum-padded (front ++ rest) slot_bytes,
      byte_sum-append front rest,
      byte_sum-cons type_identifier (padded sum 3),
      byte_sum-padded sum 3,
      byte_sum-cons type_identifier rest,
    ))

-- ---- types that are never left over
-- where deleted entries are kept, none
pub keeps-fresh : (ed : Edition) (t : ℕ) → keeps_deleted ed ≡ true → stale_type ed t ≡ false
unfolding stale_type keeps_deleted takes_stray by_edition
keeps-fresh edition10 t e = refl
keeps-fresh edition110 t e = clash (sym e)

-- a live entry's
pub live-fresh : (ed : Edition) (t : ℕ) → live_type t ≡ true → stale_type ed t ≡ false
unfolding stale_type keeps_deleted takes_stray by_edition deleted_type live_type
live-fresh edition10 t e = refl
live-fresh edition110 t e = by (eqb t type_directory) refl e
  where
    by : (b : Bool) → eqb t type_directory ≡ b → (b || eqb t type_file) ≡ true → stale_type edition110 t ≡ false
    by true d f = ap (stale_type edition110) (eqb-true t type_directory d)
    by false d f = ap (stale_type edition110) (eqb-true t type_file f)
