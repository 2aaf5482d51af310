-- A path's slashes; a path without lies below nothing.
use Rattle.std.specs.Prelude.{ℕ, ◌≡◌, ◌||◌, List, [], ◌∷◌, eqb}
use Rattle.std.specs.List.{list_any}
use Rattle.std.proofs.Math.Path.{refl}
use Rattle.std.proofs.Common.{◌∙◌, ap₂}
use Rattle.std.proofs.Math.Bool.{false}
use Rattle.rules.specs.Lists.{any}
use Rattle.rules.specs.Lists.Laws.{or-false, and_right, eqb_swap}
use Rattle.rules.specs.Names.{slash, is_below}

pub below-nothing : (p path : List ℕ) → any (eqb slash) path ≡ false → is_below p path ≡ false
unfolding is_below any
below-nothing p [] n = refl
below-nothing [] (b ∷ bs) n = eqb_swap b slash ∙ (or-false (eqb slash b) (any (eqb slash) bs) n).0
below-nothing (a ∷ p) (b ∷ bs) n = and_right (eqb a b) (is_below p bs) (below-nothing p bs (or-false (eqb slash b) (any (eqb slash) bs) n).1)

-- a slash is sought byte by byte, and compared to it the other way round
pub any-slash : (path : List ℕ) → list_any (λ b. eqb b slash) path ≡ any (eqb slash) path
unfolding any
any-slash [] = refl
any-slash (b ∷ path) = ap₂ (λ x y. x || y) (eqb_swap b slash) (any-slash path)
