-- What a writer leaves: bytes from a place on, and the place behind them. Writings in a row are one.
use Rattle.std.specs.Prelude.{ℕ, ◌+◌, ◌≤◌, ◌≡◌, List, [], ◌++◌, length, take}
use Rattle.std.proofs.Common.{sym, ap, ◌∙◌, arith, length-append, length-take}
use Rattle.rules.specs.Fields.{splice}
use Rattle.rules.specs.Fields.Laws.{splice-nil, splice-splice, length-splice}

-- s became t, with bs from `at` on; `end` is behind them
abbrev pub Wrote : List ℕ → ℕ → List ℕ → List ℕ → ℕ → Type 0
Wrote s at bs t end = (t ≡ splice s at bs) × (end ≡ at + length bs)

-- xs, and then ys behind them, where the end is inside
pub wrote-both : (s t u : List ℕ) (at mid end : ℕ) (xs ys : List ℕ) → end ≤ length s
    → Wrote s at xs t mid → Wrote t mid ys u end → Wrote s at (xs ++ ys) u end
wrote-both s t u at mid end xs ys h (e, f) (k, l) =
    (k ∙ rw (e, f) (splice-splice s at xs ys (omega arith)), omega (arith, length-append xs ys))

-- ---- the same bytes by another name
pub wrote_as : (s : List ℕ) (at : ℕ) (xs ys t : List ℕ) (end : ℕ) → xs ≡ ys → Wrote s at xs t end → Wrote s at ys t end
wrote_as s at xs ys t end e w = rw e at w

-- ---- writing goes on: ys are still to be written into t from `at` on, and then s has xs from o on
abbrev pub ToWrite : List ℕ → ℕ → List ℕ → List ℕ → ℕ → List ℕ → Type 0
ToWrite s o xs t at ys = (length t ≡ length s) × (at + length ys ≡ o + length xs) × (splice t at ys ≡ splice s o xs)

-- nothing is left
pub left-none : (s : List ℕ) (o : ℕ) (xs t : List ℕ) (at : ℕ) (ys : List ℕ) → ys ≡ [] → ToWrite s o xs t at ys → Wrote s o xs t at
left-none s o xs t at ys e (l, n, w) = (sym (splice-nil t at) ∙ (rw e at w), omega (arith, ap length e))

-- the first of what is left was written
pub left-next : (s : List ℕ) (o : ℕ) (xs t : List ℕ) (at : ℕ) (ys u : List ℕ) (end : ℕ) (zs ws : List ℕ) → ys ≡ zs ++ ws → at + length ys ≤ length t → length u ≡ length t
    → ToWrite s o xs t at ys → Wrote t at zs u end → ToWrite s o xs u end ws
left-next s o xs t at ys u end zs ws e f k (l, n, w) (v, m) =
    let lengths : length ys ≡ length zs + length ws = ap length e ∙ length-append zs ws in
    (omega arith, omega arith, rw (v, m) (splice-splice t at zs ws (omega arith) ∙ (rw e at w)))

-- ---- what was written from the start on can be lent
pub wrote-counts : (s xs t : List ℕ) (end : ℕ) → length xs ≤ length s → Wrote s 0 xs t end → (end ≤ length t) × (end ≡ length (take end t))
wrote-counts s xs t end h (e, f) =
    let l : length t ≡ length s = ap length e ∙ length-splice s 0 xs (omega arith) in
    (omega arith, omega (arith, length-take end t))
