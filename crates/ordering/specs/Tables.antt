-- Regions as a table holds them, and as keys: taken apart, put in order, and laid back they are the regions in order, and neighbours decide whether all are apart.
use Rattle.std.specs.Prelude.{ℕ, ◌/◌, ◌%◌, ◌≤◌, ◌<◌, ◌≡◌, true, List, [], ◌∷◌, map}
use Rattle.std.proofs.Math.Path.{sym, ap₂}
use Rattle.std.proofs.Common.{ap, ◌∙◌, subst, arith}
use Rattle.std.proofs.Math.Decide.{dec_lt}
use borrow.Author.Tests.{ltb-true}
use Rattle.rules.specs.Lists.{only, All, Pairs, Perm}
use Rattle.rules.specs.Index.{Entry}
use Rattle.rules.specs.Regions.{Extent, extent_of}
use Rattle.rules.specs.RegionTable.{regions_of, extent_le, in_order}
use Rattle.rules.proofs.RegionTable.Laws.{Comes, lower, level, le-says, le-holds, in-order-only}
use Rattle.laws.proofs.Lists.Every.{all-weaken, all-and, all-only, all-chosen, all_map, pairs-map, map_same}
use Rattle.laws.proofs.Lists.Parts.{map-map}
use Rattle.laws.proofs.Lists.Perms.{perm-map}
use Rattle.ordering.specs.Regions.{extent_key, region_key, has_region, key_start, key_end, Small, start_of, end_of}

-- the region of a key
unfoldable pub key_extent : ℕ → Extent
key_extent k = record { start = key_start k; end = key_end k }

-- a region of one block or more, below 65,536 blocks
pub record SmallExtent (x : Extent) : Type 0 where
  pub some : x.start < x.end
  pub below : x.end ≤ 65_536

-- ---- the key of a region says the region
module _ (x : Extent) (small : SmallExtent x) where
  pub start_back : key_start (extent_key x) ≡ x.start
  unfolding key_start extent_key
  start_back = start_of x.start x.end small.below

  pub end_back : key_end (extent_key x) ≡ x.end
  unfolding key_end extent_key
  end_back = end_of x.start x.end small.below

  key_back : key_extent (extent_key x) ≡ x
  unfolding key_extent
  key_back = ap₂ (λ (a b : ℕ). record { start = a; end = b }) start_back end_back

extents-back : (xs : List Extent) → All SmallExtent xs → map key_extent (map extent_key xs) ≡ xs
extents-back xs small = map-map key_extent extent_key xs ∙ map_same (λ x. key_extent (extent_key x)) xs (all-weaken SmallExtent _ key_back xs small)

-- ---- in order
-- keys in order are regions by start, then end
parts-le : (a b : ℕ) → a ≤ b → Dec (a / 131_072 < b / 131_072) → Comes (record { start = a / 131_072; end = a % 131_072 }) (record { start = b / 131_072; end = b % 131_072 })
parts-le a b h (yes l) = lower l
parts-le a b h (no l) = let e : a / 131_072 ≡ b / 131_072 = omega arith in level e (omega arith)

key-le : (a b : ℕ) → a / 65_536 ≤ b / 65_536 → extent_le (key_extent a) (key_extent b) ≡ true
unfolding key_extent key_start key_end
key-le a b h = le-holds _ _ (parts-le (a / 65_536) (b / 65_536) h (dec_lt (a / 65_536 / 131_072) (b / 65_536 / 131_072)))

-- and back
le-key : (x y : Extent) → SmallExtent x → Comes x y → extent_key x / 65_536 ≤ extent_key y / 65_536
unfolding extent_key
le-key x y small (lower l) = omega (arith, small.below)
le-key x y small (level e l) = omega arith

pub ascending-keys : (xs : List Extent) → All SmallExtent xs → Pairs (λ x y. extent_le x y ≡ true) xs → Pairs (λ a b. a / 65_536 ≤ b / 65_536) (map extent_key xs)
ascending-keys [] small p = tt
ascending-keys (x ∷ xs) small p =
    (all_map (λ k. extent_key x / 65_536 ≤ k / 65_536) extent_key xs (all-weaken _ _ (λ y h. le-key x y small.0 (le-says x y h)) xs p.0), ascending-keys xs small.1 p.1)

-- THE ORDER: regions taken apart, their keys put in order, are the regions in order
pub sorted-extents : (xs : List Extent) (ks : List ℕ) → All SmallExtent xs → Perm (map extent_key xs) ks → Pairs (λ a b. a / 65_536 ≤ b / 65_536) ks → map key_extent ks ≡ in_order xs
sorted-extents xs ks small p ascends =
    sym (in-order-only xs (map key_extent ks) (subst (λ (ys : List Extent). Perm ys (map key_extent ks)) (extents-back xs small) (perm-map key_extent p))
    (pairs-map _ (λ x y. extent_le x y ≡ true) key_extent key-le ks ascends))

-- ---- the regions of entries
module _ (es : List Entry) (small : All Small es) where
  pub regions-small : All SmallExtent (regions_of es)
  unfolding regions_of extent_of has_region
  regions-small =
      all_map SmallExtent extent_of (only has_region es)
      (all-weaken (λ e. Small e × (has_region e ≡ true)) _ (λ e h. let l = ltb-true e.start e.end h.1 in record { some = l; below = h.0.below l }) (only has_region es)
      (all-and Small _ (only has_region es) (all-only Small has_region es small) (all-chosen has_region es)))

  -- their keys
  pub keys-of-regions : map region_key (only has_region es) ≡ map extent_key (regions_of es)
  unfolding region_key regions_of has_region
  keys-of-regions = sym (map-map extent_key extent_of (only has_region es))

  -- and what the keys say
  pub regions-of-keys : (ks : List ℕ) → Perm (map region_key (only has_region es)) ks → Perm (regions_of es) (map key_extent ks)
  regions-of-keys ks p =
      subst (λ (xs : List Extent). Perm xs (map key_extent ks)) (ap (map key_extent) keys-of-regions ∙ extents-back (regions_of es) regions-small) (perm-map key_extent p)
