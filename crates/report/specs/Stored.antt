-- A table as it is stored: six rows of three numbers of 64 bits. Counting keeps it so, and such a table with nothing added is itself.
use Rattle.std.specs.Prelude.{◌≡◌, ℕ, zero, suc, ◌+◌, ◌%◌, ◌^◌, ◌<◌, List, [], ◌∷◌, length, replicate, slice_index, slice_index_or, slice_set, refl}
use Rattle.std.proofs.Common.{ap, ap₂, ◌∙◌, add-zero, mod-lt, mod-eq_of_lt, arith, length-set}
use Rattle.std.specs.Int.{w64}
use mir.Val.{Val}
use denote.Laws.{Is}
use denote.Plain.{UInt}
use denote.Shadow.{shadow}
use denote.Array.{Array, each, in_array}
use borrow.Author.Rules.{elem_Fits}
use Rattle.rules.specs.Lists.{both, only, sum, All}
use Rattle.rules.specs.Report.{Table, sums_of, sums_of_kind, plus64, added}
use Rattle.laws.proofs.Lists.Every.{all-weaken}
use Rattle.laws.proofs.Report.Table.{counted_at}
use Rattle.laws.proofs.Report.Sums.{both_long, Wide, Shaped}

-- a row
pub record StoredRow (r : List ℕ) : Type 0 where
  pub long : length r ≡ 3
  pub fits : All (λ n. n < 2 ^ 64) r

pub record Stored (t : Table) : Type 0 where
  pub long : length t ≡ 6
  pub rows : All StoredRow t

-- ---- the same, place by place: what a report holds of its table
abbrev pub HeldTable : Table → Type 0
HeldTable t = (length t ≡ 6) × ((k : ℕ) → k < 6 → (length (slice_index_or t k []) ≡ 3) × ((i : ℕ) → slice_index (slice_index_or t k []) i < 2 ^ 64))

pub all-fits : (r : List ℕ) → ((i : ℕ) → slice_index r i < 2 ^ 64) → All (λ n. n < 2 ^ 64) r
all-fits [] h = tt
all-fits (n ∷ r) h = (h 0, all-fits r (λ i. h (suc i)))

pub at-fits : (r : List ℕ) → All (λ n. n < 2 ^ 64) r → (i : ℕ) → slice_index r i < 2 ^ 64
at-fits [] h i = omega arith
at-fits (n ∷ r) h zero = h.0
at-fits (n ∷ r) h (suc i) = at-fits r h.1 i

rows-all : (t : Table) → ((k : ℕ) → k < length t → StoredRow (slice_index_or t k [])) → All StoredRow t
rows-all [] h = tt
rows-all (r ∷ t) h = (h 0 (omega arith), rows-all t (λ k l. h (suc k) (omega arith)))

pub held-stored : (t : Table) → HeldTable t → Stored t
held-stored t h = record {
  long = h.0;
  rows = rows-all t (λ k l. let p = h.1 k (omega (arith, h.0)) in record { long = p.0; fits = all-fits (slice_index_or t k []) p.1 });
}

-- ---- of an array
pub row-held : (r : List ℕ) (vs : List Val) → Is (Array (UInt w64) 3) r vs → StoredRow r
row-held r vs p = record { long = p.1.0.1; fits = all-fits r (λ i. (elem_Fits w64 w64 r p.0 i p.1.1 tt).fits) }

rows-held : (t : Table) (us : List Val) → shadow (each (List ℕ) (in_array ℕ (UInt w64).own_val 3) t us) → All StoredRow t
rows-held [] [] p = tt
rows-held [] (u ∷ us) p = absurd p
rows-held (r ∷ t) [] p = absurd p
rows-held (r ∷ t) (u ∷ us) p = (row-held r (u ∷ []) p.0, rows-held t us p.1)

pub table-held : (t : Table) (vs : List Val) → Is (Array (Array (UInt w64) 3) 6) t vs → Stored t
table-held t vs p = record { long = p.1.0.1; rows = rows-held t p.0 p.1.1 }

-- ---- counting keeps it
plus-fits : (r q : List ℕ) → All (λ n. n < 2 ^ 64) (both plus64 r q)
unfolding both
plus-fits [] q = tt
plus-fits (a ∷ r) [] = tt
plus-fits (a ∷ r) (b ∷ q) = (mod-lt (a + b) (omega arith), plus-fits r q)

set-rows : (t : Table) (k : ℕ) (r : List ℕ) → All StoredRow t → StoredRow r → All StoredRow (slice_set t k r)
set-rows [] k r h p = tt
set-rows (q ∷ t) zero r h p = (p, h.1)
set-rows (q ∷ t) (suc k) r h p = (h.0, set-rows t k r h.1 p)

row_at : (t : Table) (k : ℕ) → All StoredRow t → k < length t → StoredRow (slice_index_or t k [])
row_at [] k h l = absurd (omega arith)
row_at (q ∷ t) zero h l = h.0
row_at (q ∷ t) (suc k) h l = row_at t k h.1 (omega arith)

pub stored_row : (t : Table) → Stored t → (k : ℕ) → k < 6 → StoredRow (slice_index_or t k [])
stored_row t p k l = row_at t k p.rows (omega (arith, p.long))

pub stored-held : (t : Table) → Stored t → HeldTable t
stored-held t p = (p.long, λ k l. let r = stored_row t p k l in (r.long, at-fits (slice_index_or t k []) r.fits))

pub stored-counted : (t : Table) → Stored t → (k : ℕ) → k < 6 → (row : List ℕ) → length row ≡ 3 → Stored (counted_at t k row)
stored-counted t p k l row h = record {
  long = length-set t k _ ∙ p.long;
  rows = set-rows t k _ p.rows (record { long = both_long plus64 3 (slice_index_or t k []) row (row_at t k p.rows (omega (arith, p.long))).long h; fits = plus-fits (slice_index_or t k []) row });
}

rows-added : (t u : Table) → All StoredRow t → All Wide u → All StoredRow (both (both plus64) t u)
unfolding both
rows-added [] u h k = tt
rows-added (r ∷ t) [] h k = tt
rows-added (r ∷ t) (q ∷ u) h k = (record { long = both_long plus64 3 r q h.0.long k.0; fits = plus-fits r q }, rows-added t u h.1 k.1)

pub stored-added : (t u : Table) → Stored t → Shaped u → Stored (added t u)
unfolding added
stored-added t u p q = record { long = both_long (both plus64) 6 t u p.long q.kinds; rows = rows-added t u p.rows q.sums }

-- ---- with nothing added
right-same : {A : Type 0} (f : A → A → A) (z : A) (n : ℕ) (t : List A) → length t ≡ n → All (λ x. f x z ≡ x) t → both f t (replicate n z) ≡ t
unfolding both
right-same f z zero [] h a = refl
right-same f z zero (x ∷ t) h a = absurd (omega arith)
right-same f z (suc n) [] h a = absurd (omega arith)
right-same f z (suc n) (x ∷ t) h a = ap₂ (λ y u. y ∷ u) a.0 (right-same f z n t (omega arith) a.1)

none-zeros : sums_of [] ≡ replicate 6 (replicate 3 0)
unfolding sums_of sums_of_kind only sum
none-zeros = refl

pub stored-none : (t : Table) → Stored t → added t (sums_of []) ≡ t
unfolding added
stored-none t p =
    rw none-zeros
    (right-same (both plus64) (replicate 3 0) 6 t p.long
    (all-weaken StoredRow (λ r. both plus64 r (replicate 3 0) ≡ r)
    (λ r w. right-same plus64 0 3 r w.long (all-weaken (λ n. n < 2 ^ 64) (λ n. plus64 n 0 ≡ n) (λ n l. ap (λ (k : ℕ). k % 2 ^ 64) (add-zero n) ∙ mod-eq_of_lt l) r w.fits)) t p.rows))

-- nothing counted
pub none-stored : Stored (sums_of [])
unfolding sums_of sums_of_kind only sum
none-stored =
    let z : 0 < 2 ^ 64 = omega arith in
    let r : StoredRow (0 ∷ 0 ∷ 0 ∷ []) = record { long = refl; fits = (z, (z, (z, tt))) } in
    record { long = refl; rows = (r, (r, (r, (r, (r, (r, tt)))))) }
