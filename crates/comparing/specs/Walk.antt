-- The walk through a name and a path, taken a place further.
use Rattle.std.specs.Prelude.{ℕ, zero, suc, ◌+◌, ◌≤◌, ◌<◌, ◌≡◌, Bool, true, ◌&&◌, List, [], ◌∷◌, length, get_or, take, drop, not, cond, nat_lt, Option, None, Some, zip, position}
use Rattle.std.proofs.Math.Path.{refl}
use Rattle.std.proofs.Common.{sym, ap, subst, ◌∙◌, zero-add, add-zero, arith}
use Rattle.std.proofs.Math.Bool.{false}
use Rattle.std.proofs.Math.Numerals.{add-one}
use Rattle.std.proofs.Math.ListN.{drop_of_length-le}
use Rattle.std.proofs.Math.Seq.{drop-cons}
use Rattle.std.proofs.Math.Dec.{eqb}
use Rattle.std.specs.List.{position_or_len}
use Rattle.std.proofs.lemmas.List.{get_or-drop}
use Rattle.std.proofs.lemmas.List.Quantifiers.{position-Some}
use Rattle.std.proofs.lemmas.List.Sums.{fails_before_first}
use Rattle.std.proofs.lemmas.Slice.Zip.{length-zip, get_or-zip}
use borrow.Author.Tests.{not-true, not-false, ltb-false}
use Rattle.rules.specs.Lists.{pick}
use Rattle.rules.specs.Lists.Laws.{and_left}
use Rattle.rules.specs.Comparing.{goes_on, walked}

-- the name is the path, and then the byte `end`
unfoldable pub is_then : ℕ → List ℕ → List ℕ → Bool
is_then end [] path = false
is_then end (b ∷ bs) [] = eqb b end
is_then end (b ∷ bs) (p ∷ ps) = goes_on b p && is_then end bs ps

-- an answer that is said to be another
pub thus : (t u v : Bool) (k m n : ℕ) → (t ≡ u) × (k ≡ m) → (u ≡ v) × (m ≡ n) → (t ≡ v) × (k ≡ n)
thus t u v k m n e f = (e.0 ∙ f.0, e.1 ∙ f.1)

module _ (end : ℕ) (name path : List ℕ) where
  -- the answer and the count from place i on
  abbrev then_from : ℕ → Bool
  then_from i = is_then end (drop i name) (drop i path)

  abbrev walked_from : ℕ → ℕ
  walked_from i = walked (drop i name) (drop i path)

  -- what is left answers as the whole, and is all but i bytes of what is looked at
  pub record WalkedTo (i : ℕ) : Type 0 where
    pub answer : then_from i ≡ is_then end name path
    pub count : i + walked_from i ≡ walked name path

  pub walked-to-first : WalkedTo 0
  walked-to-first = record { answer = refl; count = zero-add _ }

  module _ (i : ℕ) (so_far : WalkedTo i) where
    -- both have a byte there
    module _ (h : i < length name) (k : i < length path) where
      pub walked-to-stop : goes_on (get_or name i 0) (get_or path i 0) ≡ false → (false ≡ is_then end name path) × (i + 1 ≡ walked name path)
      unfolding is_then walked pick
      walked-to-stop t =
          let a : then_from i ≡ false = rw (drop-cons name i 0 h, drop-cons path i 0 k) (and_left _ _ t) in
          let w : walked_from i ≡ 1 = rw (drop-cons name i 0 h, drop-cons path i 0 k, t) refl in
          (sym a ∙ so_far.answer, omega (arith, so_far.count))

      pub walked-to-next : goes_on (get_or name i 0) (get_or path i 0) ≡ true → WalkedTo (i + 1)
      unfolding is_then walked pick
      walked-to-next t =
          let a : then_from (i + 1) ≡ then_from i = rw (drop-cons name i 0 h, drop-cons path i 0 k, add-one, t) refl in
          let w : walked_from i ≡ 1 + walked_from (i + 1) = rw (drop-cons name i 0 h, drop-cons path i 0 k, add-one, t) refl in
          record { answer = a ∙ so_far.answer; count = omega (arith, so_far.count) }

    -- the path ends there, and the name goes on
    pub walked-to-behind : i < length name → length path ≤ i → (eqb (get_or name i 0) end ≡ is_then end name path) × (i + 1 ≡ walked name path)
    unfolding is_then walked
    walked-to-behind h k =
        let a : then_from i ≡ eqb (get_or name i 0) end = rw (drop-cons name i 0 h, drop_of_length-le path {i = i} k) refl in
        let w : walked_from i ≡ 1 = rw (drop-cons name i 0 h, drop_of_length-le path {i = i} k) refl in
        (sym a ∙ so_far.answer, omega (arith, so_far.count))

    -- the name has no more bytes
    pub walked-to-out : length name ≤ i → (false ≡ is_then end name path) × (i ≡ walked name path)
    unfolding is_then walked
    walked-to-out h =
        let a : then_from i ≡ false = rw (drop_of_length-le name {i = i} h) refl in
        let w : walked_from i ≡ 0 = rw (drop_of_length-le name {i = i} h) refl in
        (sym a ∙ so_far.answer, omega (arith, so_far.count))

-- ---- the first place where the name and the path, side by side, do not go on
abbrev pub is_stop : ℕ × ℕ → Bool
is_stop x = not (goes_on x.0 x.1)

abbrev pub first_stop : List ℕ → List ℕ → Option ℕ
first_stop name path = position is_stop (zip name path)

-- the name's bytes behind the path's length are not looked at
zip-front : (name path : List ℕ) → zip (take (length path) name) path ≡ zip name path
zip-front [] [] = refl
zip-front [] (p ∷ ps) = refl
zip-front (b ∷ bs) [] = refl
zip-front (b ∷ bs) (p ∷ ps) = ap (λ xs. (b, p) ∷ xs) (zip-front bs ps)

pub stop-front : (name path front : List ℕ) → front ≡ take (length path) name → first_stop front path ≡ first_stop name path
stop-front name path front e = ap (λ xs. position is_stop xs) (ap (λ xs. zip xs path) e ∙ zip-front name path)

-- and the first of those
pub rest-first : (name path rest : List ℕ) → rest ≡ drop (length path) name → get_or rest 0 0 ≡ get_or name (length path) 0
rest-first name path rest e = ap (λ xs. get_or xs 0 0) e ∙ get_or-drop (length path) name 0 0 ∙ ap (λ i. get_or name i 0) (add-zero (length path))

module _ (end : ℕ) (name path : List ℕ) where
  -- they go on at all places before i
  walked-to-at : (i : ℕ) → i ≤ length name → i ≤ length path → ((k : ℕ) → k < i → goes_on (get_or name k 0) (get_or path k 0) ≡ true) → WalkedTo end name path i
  walked-to-at zero h k all = walked-to-first end name path
  walked-to-at (suc i) h k all =
      let before = walked-to-at i (omega arith) (omega arith) (λ j l. all j (omega arith)) in
      subst (WalkedTo end name path) (add-one i) (walked-to-next end name path i before (omega arith) (omega arith) (all i (omega arith)))

  off : (t : Bool) (n : ℕ) → cond t (Some n) None ≡ None → t ≡ false
  off true n e = cc
  off false n e = refl

  module _ (fits : length path ≤ length name) where
    side : (k : ℕ) → k < length path → get_or (zip name path) k (0, 0) ≡ (get_or name k 0, get_or path k 0)
    side k h = get_or-zip name path k (0, 0) (omega arith) h

    goes : (k : ℕ) → k < length path → is_stop (get_or (zip name path) k (0, 0)) ≡ false → goes_on (get_or name k 0) (get_or path k 0) ≡ true
    goes k h f = not-false _ (ap is_stop (sym (side k h)) ∙ f)

    pub first-stop-at : (i : ℕ) → first_stop name path ≡ Some i → (i < length path) × (goes_on (get_or name i 0) (get_or path i 0) ≡ false) × WalkedTo end name path i
    first-stop-at i e =
        let p = position-Some is_stop (zip name path) i (0, 0) e in
        let h : i < length path = omega (arith, p.0, length-zip name path) in
        (h, not-true _ (ap is_stop (sym (side i h)) ∙ p.1), walked-to-at i (omega arith) (omega arith) (λ k l. goes k (omega arith) (p.2 k l)))

    pub first-stop-none : first_stop name path ≡ None → WalkedTo end name path (length path)
    first-stop-none e =
        let n = position_or_len is_stop (zip name path) in
        let f : nat_lt n (length (zip name path)) ≡ false = off _ n e in
        walked-to-at (length path) fits (omega arith) (λ k l. goes k l (fails_before_first is_stop (zip name path) k (0, 0) (omega (arith, ltb-false n (length (zip name path)) f, length-zip name path))))
