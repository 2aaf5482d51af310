-- The directory of a path, as the code looks for it: what stands before the last slash.
use Rattle.std.specs.Prelude.{ℕ, suc, zero, ◌+◌, ◌-◌, ◌≤◌, ◌<◌, ◌≡◌, true, List, [], ◌∷◌, ◌++◌, length, get_or, take}
use Rattle.std.proofs.Common.{sym, ap, ◌∙◌, arith}
use Rattle.std.proofs.Math.Seq.{take-length}
use Rattle.rules.specs.Names.{slash, leading}
use Rattle.rules.specs.Names.Laws.{leading-slash, leading-other, leading-nil}
use Rattle.rules.specs.Index.{Entry}
use Rattle.rules.specs.Paths.{directory_live}
use Rattle.rules.specs.Writing.{nearest_live}
use Rattle.laws.proofs.Entries.Paths.{nearest-last}

-- ---- no slash stands at place i or behind it
module _ (s : List ℕ) (i : ℕ) (fits : i ≤ length s) (other : (k : ℕ) → i ≤ k → k < length s → get_or s k 0 ≡ slash → ⊥) where
  -- the first i bytes have the directories of any more
  up_to : (n : ℕ) → i + n ≤ length s → leading (take (i + n) s) ≡ leading (take i s)
  up_to zero h = ap (λ (m : ℕ). leading (take m s)) (omega arith)
  up_to (suc n) h =
      let e : i + suc n - 1 ≡ i + n = omega arith in
      leading-other s (i + suc n) (omega arith) h (other (i + suc n - 1) (omega arith) (omega arith)) ∙ ap (λ (m : ℕ). leading (take m s)) e ∙ up_to n (omega arith)

  -- and of the whole
  no-more : leading s ≡ leading (take i s)
  no-more =
      let e : length s ≡ i + (length s - i) = omega arith in
      ap leading (sym (take-length s)) ∙ ap (λ (m : ℕ). leading (take m s)) e ∙ up_to (length s - i) (omega arith)

module _ (es : List Entry) (s : List ℕ) where
  -- the directory is what stands before the last slash
  pub last-slash : (i : ℕ) → i < length s → get_or s i 0 ≡ slash → ((k : ℕ) → i + 1 ≤ k → k < length s → get_or s k 0 ≡ slash → ⊥) → nearest_live es (leading s) ≡ directory_live es (take i s)
  last-slash i more here other =
      let e : i + 1 - 1 ≡ i = omega arith in
      let last : leading (take (i + 1) s) ≡ leading (take i s) ++ (take i s ∷ []) = rw e at (leading-slash s (i + 1) (omega arith) (omega arith) (rw e here)) in
      ap (nearest_live es) (no-more s (i + 1) (omega arith) other ∙ last) ∙ nearest-last es (leading (take i s)) (take i s)

  pub slashless : ((k : ℕ) → 0 ≤ k → k < length s → get_or s k 0 ≡ slash → ⊥) → true ≡ nearest_live es (leading s)
  unfolding nearest_live
  slashless other = rw (no-more s 0 (omega arith) other, leading-nil)
