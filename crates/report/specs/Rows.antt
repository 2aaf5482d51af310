-- Rows, tables and counts by their elements.
use Rattle.std.specs.Prelude.{◌≡◌, ℕ, zero, suc, ◌<◌, List, [], ◌∷◌, length, ◌≢◌, slice_index, slice_index_or, slice_set, refl}
use Rattle.std.proofs.Common.{ap, arith}
use borrow.Author.Tests.{ne_eqb}
use Rattle.rules.specs.Lists.{both, pick}
use Rattle.rules.specs.Index.{type_file, type_deleted_file, type_directory, type_deleted_directory}
use Rattle.rules.specs.Index.Walk.{pick-both}
use Rattle.rules.specs.Report.{entry_kind, plus64, one_more, Table}

-- ---- three sums, six rows
pub three : (r : List ℕ) → length r ≡ 3 → r ≡ slice_index r 0 ∷ slice_index r 1 ∷ slice_index r 2 ∷ []
three (a ∷ b ∷ c ∷ []) h = refl
three [] h = absurd (omega arith)
three (a ∷ []) h = absurd (omega arith)
three (a ∷ b ∷ []) h = absurd (omega arith)
three (a ∷ b ∷ c ∷ d ∷ r) h = absurd (omega arith)

pub six : (t : Table) → length t ≡ 6 → t ≡ slice_index_or t 0 [] ∷ slice_index_or t 1 [] ∷ slice_index_or t 2 [] ∷ slice_index_or t 3 [] ∷ slice_index_or t 4 [] ∷ slice_index_or t 5 [] ∷ []
six (a ∷ b ∷ c ∷ d ∷ e ∷ f ∷ []) h = refl
six [] h = absurd (omega arith)
six (a ∷ []) h = absurd (omega arith)
six (a ∷ b ∷ []) h = absurd (omega arith)
six (a ∷ b ∷ c ∷ []) h = absurd (omega arith)
six (a ∷ b ∷ c ∷ d ∷ []) h = absurd (omega arith)
six (a ∷ b ∷ c ∷ d ∷ e ∷ []) h = absurd (omega arith)
six (a ∷ b ∷ c ∷ d ∷ e ∷ f ∷ g ∷ t) h = absurd (omega arith)

pub row-plus : (r : List ℕ) → length r ≡ 3 → (x y z a b c : ℕ) → a ≡ plus64 (slice_index r 0) x → b ≡ plus64 (slice_index r 1) y → c ≡ plus64 (slice_index r 2) z
    → a ∷ b ∷ c ∷ [] ≡ both plus64 r (x ∷ y ∷ z ∷ [])
unfolding both
row-plus r h x y z a b c e f g = rw (three r h, e, f, g)

-- ---- counts
pub one_more_lem : (cs : List ℕ) (n v : ℕ) → n < length cs → v ≡ plus64 (slice_index cs n) 1 → slice_set cs n v ≡ one_more n cs
unfolding one_more
one_more_lem [] n v h e = absurd (omega arith)
one_more_lem (c ∷ cs) zero v h e = ap (λ (x : ℕ). x ∷ cs) e
one_more_lem (c ∷ cs) (suc n) v h e = ap (λ (xs : List ℕ). c ∷ xs) (one_more_lem cs n v (omega arith) e)

pub length_more : (cs : List ℕ) (n : ℕ) → length (one_more n cs) ≡ length cs
unfolding one_more
length_more [] n = refl
length_more (c ∷ cs) zero = refl
length_more (c ∷ cs) (suc n) = ap suc (length_more cs n)

-- ---- kinds
pub kind-other : (t : ℕ) → (t ≢ type_file) → (t ≢ type_deleted_file) → (t ≢ type_directory) → (t ≢ type_deleted_directory) → 4 ≡ entry_kind t
unfolding entry_kind pick
kind-other t a b c d = rw (ne_eqb t type_file a, ne_eqb t type_deleted_file b, ne_eqb t type_directory c, ne_eqb t type_deleted_directory d)

pub kind-low : (t : ℕ) → entry_kind t < 6
unfolding entry_kind
kind-low t = pick-both (λ n. n < 6) _ _ _ (omega arith) (pick-both (λ n. n < 6) _ _ _ (omega arith) (pick-both (λ n. n < 6) _ _ _ (omega arith) (pick-both (λ n. n < 6) _ _ _ (omega arith) (omega arith))))
