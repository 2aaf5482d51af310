-- Neighbours among regions in order decide whether all are apart.
use Rattle.std.specs.Prelude.{ℕ, ◌≡◌, refl, Bool, ◌&&◌, List, [], ◌∷◌, map, leb}
use Rattle.std.proofs.Math.Path.{sym, ap₂}
use Rattle.std.proofs.Common.{ap, ◌∙◌, subst}
use Rattle.rules.specs.Lists.{every_two, All, Perm}
use Rattle.rules.specs.Index.{Entry}
use Rattle.rules.specs.Regions.{Extent, apart}
use Rattle.rules.specs.RegionTable.{regions_of, in_order}
use Rattle.rules.proofs.RegionTable.Laws.{in-order-same, in-order-ascends}
use Rattle.laws.proofs.Lists.Perms.{perm-all, perm-map}
use Rattle.ordering.specs.Regions.{extent_key, extents_in_turn, in_turn, Small}
use Rattle.ordering.specs.Tables.{SmallExtent, start_back, end_back, ascending-keys, regions-small, keys-of-regions}
use Rattle.ordering.proofs.Regions.{in-turn-decides}

-- ---- neighbours
turn-extents : (b : ℕ) (xs : List Extent) → All SmallExtent xs → in_turn b (map extent_key xs) ≡ extents_in_turn b xs
unfolding in_turn extents_in_turn
turn-extents b [] small = refl
turn-extents b (x ∷ xs) small =
    ap₂ (λ (t u : Bool). t && u) (ap (leb b) (start_back x small.0)) (ap (λ (e : ℕ). in_turn e (map extent_key xs)) (end_back x small.0) ∙ turn-extents x.end xs small.1)

-- ---- the regions of entries
module _ (es : List Entry) (small : All Small es) where
  -- NEIGHBOURS DECIDE: no two share a block exactly where each, in order, starts at or past the end of the one before it
  pub neighbours-decide : every_two apart es ≡ extents_in_turn 0 (in_order (regions_of es))
  neighbours-decide =
      let xs = in_order (regions_of es) in
      let low = perm-all SmallExtent (in-order-same (regions_of es)) (regions-small es small) in
      in-turn-decides es (map extent_key xs) small (subst (λ (ks : List ℕ). Perm ks (map extent_key xs)) (sym (keys-of-regions es small)) (perm-map extent_key (in-order-same (regions_of es))))
      (ascending-keys xs low (in-order-ascends (regions_of es)))
      ∙ turn-extents 0 xs low
