-- Regions as keys: in order, they are apart where each starts at or past the end of the one before it, and a search for free blocks passes over
-- them once.
use Rattle.std.specs.Prelude.{ℕ, ◌+◌, ◌*◌, ◌/◌, ◌%◌, ◌≤◌, ◌<◌, max, ◌≡◌, Bool, true, false, ◌&&◌, ltb, leb}
use Rattle.std.proofs.Common.{arith, ltb-true}
use mathlib.Core.List.{List, [], ◌∷◌, map}
use Rattle.rules.specs.Lists.{pick, only, All, Perm}
use Rattle.rules.specs.Index.{Entry}
use Rattle.rules.specs.Regions.{Extent, extent_of}
use Rattle.laws.proofs.Lists.Every.{all-weaken, all-and, all-only, all-chosen, all_map}
use Rattle.laws.proofs.Lists.Perms.{perm-all}

-- a region's key: its start and its end in one number, above a place that is not used
unfoldable pub extent_key : Extent → ℕ
extent_key x = (x.start * 131_072 + x.end) * 65_536

unfoldable pub region_key : Entry → ℕ
region_key e = extent_key (extent_of e)

unfoldable pub has_region : Entry → Bool
has_region e = ltb e.start e.end

unfoldable pub key_start : ℕ → ℕ
key_start k = k / 65_536 / 131_072

unfoldable pub key_end : ℕ → ℕ
key_end k = k / 65_536 % 131_072

-- each region starts at or past the end of the one before it, the first at or past b: of regions, and of keys
unfoldable pub extents_in_turn : ℕ → List Extent → Bool
extents_in_turn b [] = true
extents_in_turn b (x ∷ xs) = leb b x.start && extents_in_turn x.end xs

unfoldable pub in_turn : ℕ → List ℕ → Bool
in_turn b [] = true
in_turn b (k ∷ ks) = leb b (key_start k) && in_turn (key_end k) ks

-- where a search for n free blocks from b on stops, among regions in order
unfoldable pub free_from : ℕ → ℕ → List ℕ → ℕ
free_from n b [] = b
free_from n b (k ∷ ks) = pick (leb (b + n) (key_start k)) b (free_from n (max b (key_end k)) ks)

-- a region is empty at 0, or lies below 65,536 blocks
pub record Small (e : Entry) : Type 0 where
  pub below : e.start < e.end → e.end ≤ 65_536
  pub none : has_region e ≡ false → (e.start ≡ 0) × (e.end ≡ 0)

-- ---- the key of a region
-- it says where the region starts and ends, and that it has a block
pub record Keyed (e : Entry) : Type 0 where
  pub start : key_start (region_key e) ≡ e.start
  pub end : key_end (region_key e) ≡ e.end
  pub some : e.start < e.end

pub start_of : (s e : ℕ) → e ≤ 65_536 → (s * 131_072 + e) * 65_536 / 65_536 / 131_072 ≡ s
start_of s e h = omega arith

pub end_of : (s e : ℕ) → e ≤ 65_536 → (s * 131_072 + e) * 65_536 / 65_536 % 131_072 ≡ e
end_of s e h = omega arith

small-keyed : (e : Entry) → Small e → has_region e ≡ true → Keyed e
unfolding key_start key_end extent_key region_key extent_of has_region
small-keyed e s h =
    let l = ltb-true e.start e.end h in
    record { start = start_of e.start e.end (s.below l); end = end_of e.start e.end (s.below l); some = l }

pub all-keyed : (es : List Entry) → All Small es → All Keyed (only has_region es)
all-keyed es s =
    all-weaken (λ e. Small e × (has_region e ≡ true)) Keyed (λ e h. small-keyed e h.0 h.1) (only has_region es)
    (all-and Small _ (only has_region es) (all-only Small has_region es s) (all-chosen has_region es))

-- a key's region has a block
abbrev pub Filled : ℕ → Type 0
Filled k = key_start k < key_end k

pub all-filled : (es : List Entry) (ks : List ℕ) → All Small es → Perm (map region_key (only has_region es)) ks → All Filled ks
all-filled es ks s p =
    perm-all Filled p (all_map Filled region_key (only has_region es)
    (all-weaken Keyed (λ e. Filled (region_key e)) (λ e k. omega (arith, k.start, k.end, k.some)) (only has_region es) (all-keyed es s)))

-- keys in order start in order
pub start-le : (a b : ℕ) → a / 65_536 ≤ b / 65_536 → key_start a ≤ key_start b
unfolding key_start
start-le a b h = omega arith
