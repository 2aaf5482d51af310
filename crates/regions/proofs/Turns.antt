-- Items in turn, each with a start and an end: what the comparison of each with the next says of all.
use Rattle.std.specs.Prelude.{ℕ, zero, suc, ◌<◌, ◌≡◌, Bool, ◌&&◌, leb, slice_index_or}
use Rattle.std.proofs.Math.Path.{refl, sym, ap}
use Rattle.std.proofs.Common.{◌∙◌, arith, add-one, le-leb}
use Rattle.std.proofs.Math.Bool.{true, false}
use Rattle.std.specs.List.{IsAllAdjacentAnswer}
use Rattle.std.proofs.Math.ListN.{length}
use mathlib.Core.List.{List, [], ◌∷◌}
use Rattle.rules.specs.Lists.Laws.{and_both, and_left, and_right}
use Rattle.ordering.specs.Regions.{in_turn, key_start, key_end}

module _ {X : Type 0} (start end : X → ℕ) where
  -- each item starts at or past the end of the one before it, the first at or past b
  unfoldable pub turns : ℕ → List X → Bool
  turns b [] = true
  turns b (x ∷ xs) = leb b (start x) && turns (end x) xs

  all-turn : (x : X) (xs : List X) → ((k : ℕ) (d : X) → suc k < suc (length xs) → true ≡ leb (end (slice_index_or (x ∷ xs) k d)) (start (slice_index_or xs k d))) → turns (end x) xs ≡ true
  unfolding turns
  all-turn x [] h = refl
  all-turn x (y ∷ xs) h = and_both (leb (end x) (start y)) (turns (end y) xs) (sym (h 0 x (omega arith))) (all-turn y xs (λ k d l. h (suc k) d (omega arith)))

  one-stops : (x : X) (xs : List X) (k : ℕ) → k < length xs → ((d : X) → false ≡ leb (end (slice_index_or (x ∷ xs) k d)) (start (slice_index_or xs k d))) → turns (end x) xs ≡ false
  unfolding turns
  one-stops x [] k l h = absurd (omega arith)
  one-stops x (y ∷ xs) zero l h = and_left (leb (end x) (start y)) (turns (end y) xs) (sym (h x))
  one-stops x (y ∷ xs) (suc k) l h = and_right (leb (end x) (start y)) (turns (end y) xs) (one-stops y xs k (omega arith) h)

  pub turns-compared : (xs : List X) (r : Bool) → IsAllAdjacentAnswer (λ x y t. t ≡ leb (end x) (start y)) xs r → r ≡ turns 0 xs
  unfolding turns
  turns-compared [] true h = refl
  turns-compared [] false h = absurd (omega (arith, h.1))
  turns-compared (x ∷ xs) true h = sym (and_both (leb 0 (start x)) (turns (end x) xs) (le-leb 0 (start x) (omega arith)) (all-turn x xs (λ k d l. rw add-one at (h k d (omega arith)))))
  turns-compared (x ∷ xs) false h = sym (and_right (leb 0 (start x)) (turns (end x) xs) (one-stops x xs h.0 (omega (arith, h.1)) (λ d. rw add-one at (h.2 d))))

-- of keys
keys-turn : (b : ℕ) (ks : List ℕ) → turns key_start key_end b ks ≡ in_turn b ks
unfolding in_turn turns
keys-turn b [] = refl
keys-turn b (k ∷ ks) = ap (λ (t : Bool). leb b (key_start k) && t) (keys-turn (key_end k) ks)

pub in-turn-compared : (ks : List ℕ) (r : Bool) → IsAllAdjacentAnswer (λ x y t. t ≡ leb (key_end x) (key_start y)) ks r → r ≡ in_turn 0 ks
in-turn-compared ks r h = turns-compared key_start key_end ks r h ∙ keys-turn 0 ks
