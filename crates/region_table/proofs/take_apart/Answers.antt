use Rattle.std.proofs.Common.{ℕ, zero, suc, ◌+◌, ◌-◌, ◌<◌, ◌≤◌, ◌≡◌, List, [], ◌∷◌, map, length, get_or, take, sym, ap, ◌∙◌, arith, get_or-take, length-take-le}
use Rattle.std.proofs.Math.ListN.{set, get_or-map}
use Rattle.std.proofs.Math.Seq.{paste}
use Rattle.std.proofs.lemmas.List.{length-map}
use Rattle.std.proofs.lemmas.List.Edits.{paste_more}
use Rattle.rules.specs.Lists.{All}
use Rattle.ordering.specs.Regions.{extent_key}
use Rattle.ordering.specs.Tables.{SmallExtent}
use Rattle.region_table.specs.declared.Region.{Region}
use Rattle.region_table.specs.View.{extent_view}
use Rattle.region_table.proofs.Front.{none, front, length_front, front_at}
use Rattle.region_table.proofs.take_apart.Goals as goal

-- what holds of each holds of the one at i
all_at : {A : Type 0} (P : A → Type 0) (xs : List A) (i : ℕ) (d : A) → All P xs → i < length xs → P (get_or xs i d)
all_at P [] i d h l = absurd (omega arith)
all_at P (x ∷ xs) zero d h l = h.0
all_at P (x ∷ xs) (suc i) d h l = all_at P xs i d h.1 (omega arith)

module _ (n i : ℕ) (ts : List Region) (h : i < length (take n ts)) (fits : n ≤ length ts) where
  here : i < n
  here = omega (arith, length-take-le n ts fits)

  -- the region of this turn, as the rules see it
  region_at : extent_view (get_or (take n ts) i none) ≡ get_or (front n ts) i (extent_view none)
  region_at = ap extent_view (get_or-take n ts i none here) ∙ sym (front_at n ts i here)

  small_at : All SmallExtent (front n ts) → SmallExtent (extent_view (get_or (take n ts) i none))
  small_at s = rw region_at (all_at SmallExtent (front n ts) i (extent_view none) s (omega (arith, length_front n ts fits, here)))

  -- One more region's key.
  key_more : (ks₀ ks : List ℕ) (k : ℕ) → n ≤ length ks₀ → ks ≡ paste ks₀ (length ks₀ - n) (map extent_key (front n ts)) i → k ≡ extent_key (extent_view (get_or (take n ts) i none))
      → set ks (length ks₀ - n + i) k ≡ paste ks₀ (length ks₀ - n) (map extent_key (front n ts)) (i + 1)
  key_more ks₀ ks k l e f =
      let next = get_or-map extent_key (front n ts) i (extent_view none) in
      let this = ap extent_key region_at in
      let more = paste_more ks₀ (length ks₀ - n) (map extent_key (front n ts)) i (extent_key (extent_view none)) (omega (arith, here)) (omega (arith, here, length-map (front n ts) extent_key, length_front n ts fits)) in
      cc

pub key_of_region-requires : goal.key_of_region-requires
key_of_region-requires c = small_at c.args.n c.loop-i.i _ c.loop-i-test.true c.requires.0 c.requires.2

pub loop-i-preserved : goal.loop-i-preserved
loop-i-preserved c = key_more c.args.n c.loop-i.i _ c.loop-i-test.true c.requires.0 _ _ _ c.requires.1 c.loop-i.invariant c.key_of_region.ensures
