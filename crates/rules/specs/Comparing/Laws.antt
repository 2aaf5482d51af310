-- Laws of the comparison: how many bytes it looks at, and what a search that meets an entry adds.
use Rattle.std.specs.Prelude.{ℕ, ◌+◌, ◌≤◌, ◌≡◌, refl, Bool, true, false, List, [], ◌∷◌, drop}
use Rattle.std.proofs.Math.Path.{ap}
use Rattle.std.proofs.Common.{◌∙◌, arith, length-take}
use Rattle.std.proofs.Math.Nat.{add-zero}
use Rattle.std.proofs.Math.ListN.{length}
use Rattle.rules.specs.Lists.{pick, sum, part}
use Rattle.rules.specs.Lists.Laws.{pick_true, pick-false}
use Rattle.rules.specs.SuperBlock.{Geometry}
use Rattle.rules.specs.Index.{Entry}
use Rattle.rules.specs.Comparing.{at_last, last_alike, goes_on, walked, looked, LookedOnce, LookedFew, met, entry_looked, search_looked}

-- ---- how many bytes
at_most_one : (path xs : List ℕ) → length (at_last path xs) ≤ 1
unfolding at_last part
at_most_one [] xs = omega arith
at_most_one (p ∷ ps) xs = omega (arith, length-take 1 (drop (length ps) xs))

-- a step of the walk, whether it goes on or not
step-few : (t : Bool) (n m : ℕ) → n ≤ m → 1 + pick t n 0 ≤ m + 1
unfolding pick
step-few true n m h = omega arith
step-few false n m h = omega arith

walked-few : (name path : List ℕ) → walked name path ≤ length path + 1
unfolding walked
walked-few [] path = omega arith
walked-few (b ∷ bs) [] = omega arith
walked-few (b ∷ bs) (p ∷ ps) = omega (arith, step-few (goes_on b p) (walked bs ps) (length ps + 1) (walked-few bs ps))

walked-most : (name path : List ℕ) → walked name path ≤ length name
unfolding walked
walked-most [] path = omega arith
walked-most (b ∷ bs) [] = omega arith
walked-most (b ∷ bs) (p ∷ ps) = omega (arith, step-few (goes_on b p) (walked bs ps) (length bs) (walked-most bs ps))

module _ (name path : List ℕ) where
  pub looked-tested : last_alike name path ≡ false → looked name path ≡ length (at_last path name)
  unfolding looked
  looked-tested t = ap (λ n. length (at_last path name) + n) (pick-false _ _ t) ∙ add-zero _

  pub looked-walked : last_alike name path ≡ true → looked name path ≡ length (at_last path name) + walked name path
  unfolding looked
  looked-walked t = ap (λ n. length (at_last path name) + n) (pick_true _ _ t)

  -- no more than there are, and the one that is tested
  pub looked-most : looked name path ≤ length name + 1
  looked-most = by (last_alike name path) refl
    where
      by : (t : Bool) → last_alike name path ≡ t → looked name path ≤ length name + 1
      by true e = omega (arith, looked-walked e, at_most_one path name, walked-most name path)
      by false e = omega (arith, looked-tested e, at_most_one path name)

pub looked-once : LookedOnce
looked-once name path t = omega (arith, looked-tested name path t, at_most_one path name)

pub looked-few : LookedFew
looked-few name path t = omega (arith, looked-walked name path t, at_most_one path name, walked-few name path)

-- ---- a search that has es before it: none is left, or e is next and rest behind it
module _ (s : List ℕ) (g : Geometry) (sought passes : Entry → Bool) (path : List ℕ) (es : List Entry) where
  pub looked-end : es ≡ [] → search_looked s g sought passes path es ≡ 0
  unfolding search_looked met sum
  looked-end z = rw z

  module _ (e : Entry) (rest : List Entry) (next : es ≡ e ∷ rest) where
    pub looked-stop : passes e ≡ true → search_looked s g sought passes path es ≡ entry_looked s g sought path e
    unfolding search_looked met sum pick
    looked-stop t = rw (next, t) (add-zero _)

    pub looked-next : passes e ≡ false → search_looked s g sought passes path es ≡ entry_looked s g sought path e + search_looked s g sought passes path rest
    unfolding search_looked met sum pick
    looked-next t = rw (next, t)
