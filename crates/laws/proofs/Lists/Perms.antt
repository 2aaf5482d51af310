-- What another order of the elements keeps. Assumes nothing.
use Prim.Native.Nat.{ℕ, suc, ◌+◌}
use mathlib.Core.Path.{◌≡◌, refl, ap, ◌∙◌}
use mathlib.Core.Bool.{Bool, true, false, ◌&&◌, ◌||◌}
use mathlib.Core.List.{List, [], ◌∷◌, ◌++◌, map}
use native.Mathlib.Omega.{arith}
use lib.ListN.{length}
use Rattle.rules.specs.Lists.{all, any, every_two, keep_if, only, sum, All, Pairs, Perm, same, keep, swap, thus}
use Rattle.laws.proofs.Lists.Every.{same_test, two-says, two-holds}

and-turn : (a b c : Bool) → (a && (b && c)) ≡ (b && (a && c))
and-turn true b c = refl
and-turn false true c = refl
and-turn false false c = refl

or_turn : (a b c : Bool) → (a || (b || c)) ≡ (b || (a || c))
or_turn true true c = refl
or_turn true false c = refl
or_turn false b c = refl

module _ {A : Type 0} where
  pub perm-back : {xs ys : List A} → Perm xs ys → Perm ys xs
  perm-back same = same
  perm-back (keep p) = keep (perm-back p)
  perm-back swap = swap
  perm-back (thus p q) = thus (perm-back q) (perm-back p)

  pub perm-of : (xs ys : List A) → xs ≡ ys → Perm xs ys
  perm-of xs ys e = rw e same

  pub perm-all : (P : A → Type 0) {xs ys : List A} → Perm xs ys → All P xs → All P ys
  perm-all P same h = h
  perm-all P (keep p) h = (h.0, perm-all P p h.1)
  perm-all P swap h = (h.1.0, (h.0, h.1.1))
  perm-all P (thus p q) h = perm-all P q (perm-all P p h)

  -- of a relation that goes both ways
  pub perm-pairs : (R : A → A → Type 0) → ((x y : A) → R x y → R y x) → {xs ys : List A} → Perm xs ys → Pairs R xs → Pairs R ys
  perm-pairs R s same h = h
  perm-pairs R s (keep {x = x} p) h = (perm-all (R x) p h.0, perm-pairs R s p h.1)
  perm-pairs R s (swap {x = x} {y = y}) h = ((s x y h.0.0, h.1.0), (h.0.1, h.1.1))
  perm-pairs R s (thus p q) h = perm-pairs R s q (perm-pairs R s p h)

  pub perm-length : {xs ys : List A} → Perm xs ys → length xs ≡ length ys
  perm-length same = refl
  perm-length (keep p) = ap suc (perm-length p)
  perm-length swap = refl
  perm-length (thus p q) = perm-length p ∙ perm-length q

  pub perm-sum : (f : A → ℕ) {xs ys : List A} → Perm xs ys → sum f xs ≡ sum f ys
  unfolding sum
  perm-sum f same = refl
  perm-sum f (keep {x = x} p) = ap (λ n. f x + n) (perm-sum f p)
  perm-sum f swap = omega arith
  perm-sum f (thus p q) = perm-sum f p ∙ perm-sum f q

  -- ---- tests
  pub perm-every : (p : A → Bool) {xs ys : List A} → Perm xs ys → all p xs ≡ all p ys
  unfolding all
  perm-every p same = refl
  perm-every p (keep {x = x} q) = ap (λ t. p x && t) (perm-every p q)
  perm-every p (swap {x = x} {y = y} {xs = xs}) = and-turn (p x) (p y) (all p xs)
  perm-every p (thus q r) = perm-every p q ∙ perm-every p r

  pub perm-any : (p : A → Bool) {xs ys : List A} → Perm xs ys → any p xs ≡ any p ys
  unfolding any
  perm-any p same = refl
  perm-any p (keep {x = x} q) = ap (λ t. p x || t) (perm-any p q)
  perm-any p (swap {x = x} {y = y} {xs = xs}) = or_turn (p x) (p y) (any p xs)
  perm-any p (thus q r) = perm-any p q ∙ perm-any p r

  pub perm-two : (r : A → A → Bool) → ((x y : A) → r x y ≡ true → r y x ≡ true) → {xs ys : List A} → Perm xs ys → every_two r xs ≡ every_two r ys
  perm-two r s {xs} {ys} p = same_test (every_two r xs) (every_two r ys) (go p) (go (perm-back p))
    where
      go : {us vs : List A} → Perm us vs → every_two r us ≡ true → every_two r vs ≡ true
      go {us} {vs} q e = two-holds r vs (perm-pairs (λ x y. r x y ≡ true) s q (two-says r us e))

  -- ---- choosing
  perm-keep : (b : Bool) (x : A) {xs ys : List A} → Perm xs ys → Perm (keep_if b x xs) (keep_if b x ys)
  unfolding keep_if
  perm-keep true x p = keep p
  perm-keep false x p = p

  keep-swap : (b c : Bool) (x y : A) (xs : List A) → Perm (keep_if b x (keep_if c y xs)) (keep_if c y (keep_if b x xs))
  unfolding keep_if
  keep-swap true true x y xs = swap
  keep-swap true false x y xs = same
  keep-swap false true x y xs = same
  keep-swap false false x y xs = same

  pub perm-only : (p : A → Bool) {xs ys : List A} → Perm xs ys → Perm (only p xs) (only p ys)
  unfolding only
  perm-only p same = same
  perm-only p (keep {x = x} q) = perm-keep (p x) x (perm-only p q)
  perm-only p (swap {x = x} {y = y} {xs = xs}) = keep-swap (p x) (p y) x y (only p xs)
  perm-only p (thus q r) = thus (perm-only p q) (perm-only p r)

  -- an element put in the middle
  pub perm-insert : (x : A) (xs ys : List A) → Perm (x ∷ (xs ++ ys)) (xs ++ (x ∷ ys))
  perm-insert x [] ys = same
  perm-insert x (y ∷ xs) ys = thus swap (keep (perm-insert x xs ys))

pub perm-map : {A B : Type 0} (f : A → B) {xs ys : List A} → Perm xs ys → Perm (map f xs) (map f ys)
perm-map f same = same
perm-map f (keep p) = keep (perm-map f p)
perm-map f swap = swap
perm-map f (thus p q) = thus (perm-map f p) (perm-map f q)
