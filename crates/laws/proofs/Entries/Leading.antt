-- The paths above a path: its directory and that one's own, and what lies below a directory. Assumes nothing.
use Prim.Native.Nat.{ℕ}
use mathlib.Core.Path.{◌≡◌, refl, sym, ap, ◌∙◌}
use mathlib.Core.Bool.{Bool, true, false, ◌&&◌}
use mathlib.Core.List.{List, [], ◌∷◌, ◌++◌, map}
use lib.Dec.{eqb}
use Rattle.rules.specs.Lists.{any, eq_list}
use Rattle.rules.specs.Names.{slash, lead_if, leading, is_below}
use Rattle.laws.proofs.Lists.Parts.{map-append, any-map}
use Rattle.laws.proofs.Lists.Every.{any_none, all_of}

-- ---- the directory of a path
-- a path with no slash, or one whose longest leading path is d: the others are d's own
pub data Above (p : List ℕ) : Type 0 where
  top : leading p ≡ [] → Above p
  under : (d : List ℕ) → leading p ≡ leading d ++ (d ∷ []) → Above p

lead-append : (t : Bool) (ps qs : List (List ℕ)) → lead_if t (ps ++ qs) ≡ lead_if t ps ++ qs
unfolding lead_if
lead-append true ps qs = refl
lead-append false ps qs = refl

above-turn : (b : ℕ) (bs : List ℕ) (t : Bool) → eqb b slash ≡ t → Above bs → Above (b ∷ bs)
unfolding leading lead_if
above-turn b bs true e (top h) = under [] (rw (e, h))
above-turn b bs false e (top h) = top (rw (e, h))
above-turn b bs t e (under d h) = under (b ∷ d) (rw (h, e, map-append (λ p. b ∷ p) (leading d) (d ∷ [])) (lead-append t (map (λ p. b ∷ p) (leading d)) ((b ∷ d) ∷ [])))

pub above : (p : List ℕ) → Above p
unfolding leading
above [] = top refl
above (b ∷ bs) = above-turn b bs (eqb b slash) refl (above bs)

-- ---- below a path
-- what begins with d and a slash: d is one of the leading paths
no_lead : (t : Bool) (f : List ℕ → Bool) (ps : List (List ℕ)) → f [] ≡ false → any f (lead_if t ps) ≡ any f ps
unfolding any lead_if
no_lead true f ps e = rw e
no_lead false f ps e = refl

any-and : (t : Bool) (f : List ℕ → Bool) (ps : List (List ℕ)) → any (λ p. t && f p) ps ≡ (t && any f ps)
any-and true f ps = refl
any-and false f ps = any_none (λ p. false) ps (all_of (λ p. false ≡ false) (λ p. refl) ps)

pub below-leading : (d p : List ℕ) → is_below d p ≡ any (eq_list d) (leading p)
unfolding is_below leading any eq_list lead_if
below-leading d [] = refl
below-leading [] (b ∷ bs) = by (eqb b slash)
  where
    by : (t : Bool) → t ≡ any (eq_list []) (lead_if t (map (λ p. b ∷ p) (leading bs)))
    by true = refl
    by false = sym (any-map (eq_list []) (λ p. b ∷ p) (leading bs) ∙ any-and false (λ p. false) (leading bs))
below-leading (a ∷ as') (b ∷ bs) =
    ap (λ t. eqb a b && t) (below-leading as' bs)
    ∙ sym (no_lead (eqb b slash) (eq_list (a ∷ as')) (map (λ p. b ∷ p) (leading bs)) refl
    ∙ any-map (eq_list (a ∷ as')) (λ p. b ∷ p) (leading bs)
    ∙ any-and (eqb a b) (eq_list as') (leading bs))
