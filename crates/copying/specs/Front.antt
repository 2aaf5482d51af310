-- A list whose front became other values, as a splice: what `copy_into` promises, where the values are bytes.
use Rattle.std.specs.Prelude.{ℕ, zero, suc, ◌+◌, ◌≤◌, ◌<◌, ◌≡◌, List, [], ◌∷◌, ◌++◌, length, get_or, take, drop, set}
use Rattle.std.proofs.Common.{ap, ◌∙◌, zero-add, arith}
use Rattle.rules.specs.Fields.{splice}

pub copied : (d s t : List ℕ) → t ≡ s ++ drop (length s) d → t ≡ splice d 0 s
unfolding splice
copied d s t e = e ∙ rw (zero-add (length s))

-- one value more of the front
pub front-next : {A : Type 0} → (d s : List A) (i : ℕ) (x : A) → i < length s → length s ≤ length d → x ≡ get_or s i x
    → set (take i s ++ drop i d) i x ≡ take (i + 1) s ++ drop (i + 1) d
front-next d s i x h l e = by d s i x h l e ∙ ap (λ n. take n s ++ drop n d) {x = suc i} {y = i + 1} (omega arith)
  where
    by : {A : Type 0} → (d s : List A) (i : ℕ) (x : A) → i < length s → length s ≤ length d → x ≡ get_or s i x
        → set (take i s ++ drop i d) i x ≡ take (suc i) s ++ drop (suc i) d
    by d [] i x h l e = absurd (omega arith)
    by [] (b ∷ s) i x h l e = absurd (omega arith)
    by (a ∷ d) (b ∷ s) zero x h l e = ap (λ y. y ∷ d) e
    by (a ∷ d) (b ∷ s) (suc i) x h l e = ap (λ t. b ∷ t) (by d s i x (omega arith) (omega arith) e)
