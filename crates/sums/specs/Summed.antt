-- Sums of slots: what two of them tell of the slots between them.
use Prim.Native.Nat.{ℕ, ◌+◌, ◌*◌, ◌%◌, ◌≤◌, ◌<◌}
use Rattle.std.specs.Prelude.{◌≡◌, refl, Bool, true, false, List, length, set, take, drop, eqb}
use Rattle.std.proofs.Common.{sym, ◌∙◌, take-add, drop-drop, get_or-set_same, get_or-set_other, eq-eqb, ne_eqb, eqb-true}
use Rattle.std.proofs.Math.Path.{ap}
use native.Mathlib.Omega.{arith}
use Rattle.std.proofs.Math.ListN.{get_or}
use Rattle.std.proofs.Math.Decide.{dec_le}
use Rattle.std.proofs.lemmas.Bool.{eqb-false}
use Rattle.rules.specs.Lists.Laws.{clash}
use Rattle.rules.specs.Fields.{byte_sum, checks}
use Rattle.rules.specs.Fields.Laws.{byte_sum-append, byte_sum-nil}
use Rattle.rules.specs.Editions.{Edition, edition10, edition110, by_edition, sum_length, sum_good, keeps_deleted}

-- the sums before slot k and before the n-th slot behind it are alike
unfoldable pub alike : List ℕ → ℕ → ℕ → Bool
alike t k n = eqb (get_or t k 0) (get_or t (k + n) 0)

-- whether n slots from slot k on sum right, by these sums
unfoldable pub good_by : Edition → List ℕ → ℕ → ℕ → Bool
good_by ed t k n = by_edition ed true (alike t k n)

-- t has the sums of n slots from slot `first` on, which stands at `at` in s: it tells of any of them whether they sum right
pub record Summed (ed : Edition) (s t : List ℕ) (at first n : ℕ) : Type 0 where
  pub room : first + n < length t
  pub good : (j m : ℕ) → j + m ≤ n → good_by ed t (first + j) m ≡ sum_good ed (take (64 * m) (drop (at + 64 * j) s))

module _ (ed : Edition) (s t : List ℕ) (at first n : ℕ) (summed : Summed ed s t at first n) where
  -- of the first of them
  pub summed-here : (m : ℕ) → m ≤ n → good_by ed t first m ≡ sum_good ed (take (64 * m) (drop at s))
  summed-here m h =
      let k : first + 0 ≡ first = omega arith in
      let o : at + 64 * 0 ≡ at = omega arith in
      rw (k, o) at (summed.good 0 m (omega arith))

  -- of fewer, further on
  pub summed-on : (a f l m : ℕ) → a ≡ at + 64 * m → f ≡ first + m → m + l ≤ n → Summed ed s t a f l
  summed-on a f l m p q h = record {
    room = omega (arith, summed.room);
    good = λ j i b.
        let k : f + j ≡ first + (m + j) = omega arith in
        let o : a + 64 * j ≡ at + 64 * (m + j) = omega arith in
        rw (k, o) (summed.good (m + j) i (omega arith));
  }

  -- in another image with the same slots
  pub summed_same : (u : List ℕ) → drop at u ≡ drop at s → Summed ed u t at first n
  summed_same u e = record {
    room = summed.room;
    good = λ j m h.
        let same : drop (at + 64 * j) u ≡ drop (at + 64 * j) s =
        sym (drop-drop (64 * j) at u) ∙ ap (drop (64 * j)) e ∙ drop-drop (64 * j) at s in
        rw same (summed.good j m h);
  }

-- where something is left over, entries have sums
pub alike-good : (ed : Edition) (t : List ℕ) (k n : ℕ) → keeps_deleted ed ≡ false → good_by ed t k n ≡ alike t k n
unfolding good_by by_edition keeps_deleted
alike-good edition10 t k n e = clash e
alike-good edition110 t k n e = refl

-- ---- sums as they are taken: place first + j has that of j slots, modulo 256
pub record AddsUp (s t : List ℕ) (at first n : ℕ) : Type 0 where
  pub sums : (j : ℕ) → j ≤ n → get_or t (first + j) 0 ≡ byte_sum (take (64 * j) (drop at s)) % 256

-- the slots between two places
between : (s : List ℕ) (at j m : ℕ) → byte_sum (take (64 * (j + m)) (drop at s)) ≡ byte_sum (take (64 * j) (drop at s)) + byte_sum (take (64 * m) (drop (at + 64 * j) s))
between s at j m =
    let e : 64 * (j + m) ≡ 64 * j + 64 * m = omega arith in
    rw e (ap byte_sum (take-add (64 * j) (64 * m) (drop at s)) ∙ byte_sum-append (take (64 * j) (drop at s)) (take (64 * m) (drop (64 * j) (drop at s))) ∙ rw (drop-drop (64 * j) at s))

same_rest : (p x : ℕ) → eqb (p % 256) ((p + x) % 256) ≡ eqb (x % 256) 0
same_rest p x = by (eqb (x % 256) 0) refl
  where
    by : (b : Bool) → eqb (x % 256) 0 ≡ b → eqb (p % 256) ((p + x) % 256) ≡ b
    by true e = eq-eqb (p % 256) ((p + x) % 256) (omega (arith, eqb-true (x % 256) 0 e))
    by false e = ne_eqb (p % 256) ((p + x) % 256) (λ h. eqb-false (x % 256) 0 e (omega (arith, h)))

module _ (s t : List ℕ) (at first n : ℕ) where
  -- two of them tell
  pub adds-summed : first + n < length t → AddsUp s t at first n → Summed edition110 s t at first n
  unfolding good_by alike by_edition sum_good checks
  adds-summed room a = record {
    room = room;
    good = λ j m h.
        let p : ℕ = byte_sum (take (64 * j) (drop at s)) in
        let x : ℕ = byte_sum (take (64 * m) (drop (at + 64 * j) s)) in
        let k : first + j + m ≡ first + (j + m) = omega arith in
        let here : get_or t (first + j) 0 ≡ p % 256 = a.sums j (omega arith) in
        let there : get_or t (first + j + m) 0 ≡ (p + x) % 256 = rw k (a.sums (j + m) h ∙ ap (λ (y : ℕ). y % 256) (between s at j m)) in
        rw (here, there) (same_rest p x);
  }

  pub adds-first : first < length t → AddsUp s (set t first 0) at first 0
  adds-first room = record {
    sums = λ j h.
        let z : j ≡ 0 = omega arith in
        let k : first + 0 ≡ first = omega arith in
        rw (z, k) (get_or-set_same t first 0 0 room ∙ ap (λ (x : ℕ). x % 256) (sym byte_sum-nil));
  }

  -- one slot more
  pub adds-more : (i k v x : ℕ) → k ≡ first + (i + 1) → k < length t → AddsUp s t at first i
      → x ≡ byte_sum (take 64 (drop (at + 64 * i) s)) % 256 → v ≡ (get_or t (first + i) 0 + x) % 256
      → AddsUp s (set t k v) at first (i + 1)
  adds-more i k v x here room a sum value = record {
    sums = λ j h. by j h (dec_le j i);
  }
    where
      by : (j : ℕ) → j ≤ i + 1 → Dec (j ≤ i) → get_or (set t k v) (first + j) 0 ≡ byte_sum (take (64 * j) (drop at s)) % 256
      by j h (yes l) = get_or-set_other t k (first + j) v 0 (λ e. absurd (omega arith)) ∙ a.sums j l
      by j h (no l) =
          let z : j ≡ i + 1 = omega arith in
          let f : byte_sum (take (64 * (i + 1)) (drop at s)) ≡ byte_sum (take (64 * i) (drop at s)) + byte_sum (take 64 (drop (at + 64 * i) s)) = between s at i 1 in
          rw (z, ← here) (get_or-set_same t k v 0 room ∙ omega (arith, f, sum, value, a.sums i (omega arith)))

-- in an edition without sums nothing is told
pub unsummed : (ed : Edition) (s t : List ℕ) (at first n : ℕ) → sum_length ed ≡ 0 → first + n < length t → Summed ed s t at first n
unfolding sum_length good_by by_edition sum_good
unsummed edition10 s t at first n e room = record { room = room; good = λ j m h. refl }
unsummed edition110 s t at first n e room = absurd (omega (arith, e))

pub summed_second : (ed : Edition) → (sum_length ed ≡ 0 → ⊥) → ed ≡ edition110
unfolding sum_length by_edition
summed_second edition10 e = absurd (e refl)
summed_second edition110 e = refl

pub good-first : (ed : Edition) (t : List ℕ) (k n : ℕ) → sum_length ed ≡ 0 → true ≡ good_by ed t k n
unfolding sum_length good_by by_edition
good-first edition10 t k n e = refl
good-first edition110 t k n e = absurd (omega (arith, e))

pub good-second : (ed : Edition) (t : List ℕ) (k n : ℕ) → (sum_length ed ≡ 0 → ⊥) → alike t k n ≡ good_by ed t k n
unfolding keeps_deleted by_edition
good-second ed t k n e = sym (alike-good ed t k n (rw (summed_second ed e)))
