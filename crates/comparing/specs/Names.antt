-- What the walk's answer says of a stored name: it is the path, or it lies below it.
use Rattle.std.specs.Prelude.{ℕ, ◌≡◌, Bool, ◌&&◌, not, List, [], ◌∷◌, eqb}
use Rattle.std.proofs.Math.Path.{refl}
use Rattle.std.proofs.Common.{sym, ◌∙◌, eqb-true}
use Rattle.std.proofs.Math.Bool.{true, false}
use Rattle.rules.specs.Lists.Laws.{clash, and_left, and_right, and_last, or-other, eqb_swap}
use Rattle.rules.specs.Lists.{pick, eq_list}
use Rattle.rules.specs.Fields.{up_to_zero, has_zero}
use Rattle.rules.specs.Names.{slash, is_below}
use Rattle.rules.specs.Comparing.{goes_on}
use Rattle.comparing.specs.Walk.{is_then}

-- a step, by whether the name's byte is its zero: t is that test, and u whether the byte is the path's
step-off : (t u w x : Bool) → (t ≡ false → w ≡ x) → ((u && not t) && w) ≡ pick t false (u && x)
unfolding pick
step-off true u w x r = and_left _ _ (and_right u false refl)
step-off false u w x r = rw (and_last u, r refl)

module _ (b p : ℕ) (bs ps : List ℕ) where
  path-step : (t : Bool) → eq_list (pick t [] (b ∷ bs)) (p ∷ ps) ≡ pick t false (eqb b p && eq_list bs ps)
  unfolding eq_list pick
  path-step true = refl
  path-step false = refl

  below_step : (t : Bool) → is_below (p ∷ ps) (pick t [] (b ∷ bs)) ≡ pick t false (eqb p b && is_below ps bs)
  unfolding is_below pick
  below_step true = refl
  below_step false = refl

path-end : (b : ℕ) (bs : List ℕ) (t : Bool) → t ≡ eq_list (pick t [] (b ∷ bs)) []
unfolding eq_list pick
path-end b bs true = refl
path-end b bs false = refl

pub then-path : (name path : List ℕ) → has_zero name ≡ true → is_then 0 name path ≡ eq_list (up_to_zero name) path
unfolding is_then goes_on up_to_zero has_zero
then-path [] path z = clash (sym z)
then-path (b ∷ bs) [] z = path-end b (up_to_zero bs) (eqb b 0)
then-path (b ∷ bs) (p ∷ ps) z =
    step-off (eqb b 0) (eqb b p) _ _ (λ f. then-path bs ps (or-other (eqb b 0) (has_zero bs) z f)) ∙ sym (path-step b p (up_to_zero bs) ps (eqb b 0))

below_end : (b : ℕ) (bs : List ℕ) (t : Bool) → eqb b 0 ≡ t → eqb b slash ≡ is_below [] (pick t [] (b ∷ bs))
unfolding is_below pick
below_end b bs true e = rw (eqb-true b 0 e) refl
below_end b bs false e = refl

pub then-below : (name path : List ℕ) → is_then slash name path ≡ is_below path (up_to_zero name)
unfolding is_then goes_on up_to_zero is_below
then-below [] [] = refl
then-below [] (p ∷ ps) = refl
then-below (b ∷ bs) [] = below_end b (up_to_zero bs) (eqb b 0) refl
then-below (b ∷ bs) (p ∷ ps) =
    step-off (eqb b 0) (eqb b p) _ _ (λ f. then-below bs ps)
    ∙ rw (eqb_swap b p) (sym (below_step b p (up_to_zero bs) ps (eqb b 0)))
