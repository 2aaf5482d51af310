-- A WRITE INSIDE ONE REGION, of any bytes to any of its blocks: the image opens as the same volume, and every region apart from it has its bytes.
-- Create stands on it for a file's blocks; so does any call that fills, wipes, extends or moves a file's bytes. Assumes nothing.
use Prim.Native.Nat.{ℕ, ◌+◌, ◌-◌, ◌*◌, ◌≤◌}
use mathlib.Core.Path.{◌≡◌, refl, sym, ap, subst, ◌∙◌}
use mathlib.Core.Bool.{true}
use mathlib.Core.List.{List, ◌++◌, append_assoc}
use mathlib.Core.Logic.{◌⊎◌, inl, inr}
use native.Mathlib.Omega.{arith}
use native.Mathlib.Nat.{zero-mul, mul-le-mul_right}
use lib.ListN.{length, take, drop, replicate}
use lib.Seq.{take-append_seam}
use Rattle.rules.specs.Lists.{part, padded}
use Rattle.rules.specs.Lists.Laws.{length-padded}
use Rattle.rules.specs.Fields.{splice}
use Rattle.rules.specs.Editions.{super_block_at}
use Rattle.rules.specs.Editions.Laws.{super-bounds}
use Rattle.rules.specs.SuperBlock.{Geometry, block_length}
use Rattle.rules.specs.Index.{Entry, slot_at}
use Rattle.rules.specs.Regions.{region_good, apart, blocks_of}
use Rattle.rules.specs.Refusals.{accepted, Volume, judge}
use Rattle.rules.specs.Refusals.Laws.{judge-opens}
use Rattle.rules.specs.Reading.{file_bytes}
use Rattle.laws.proofs.Lists.Spans.{SameBut, but-part, but-wider, but-splice, drop-splice}
use Rattle.laws.proofs.Entries.Regions.{Within, Regionless, apart-says, region-bytes}
use Rattle.laws.proofs.Entries.Walked.{Bare}
use Rattle.laws.proofs.Images.Kept.{index_kept, reopens}
use Rattle.laws.proofs.Images.Areas.{RegionIn, within_in, bytes-by}

-- what t keeps of s, which opens as v, where only bytes of e's region were written
pub record RegionKept (s t : List ℕ) (v : Volume) (e : Entry) : Type 0 where
  pub long : length t ≡ length s
  pub super : part t (super_block_at v.geometry.edition) 42 ≡ part s (super_block_at v.geometry.edition) 42
  pub index : drop (slot_at s v.geometry 0) t ≡ drop (slot_at s v.geometry 0) s
  pub opens : judge t ≡ accepted v
  pub others : (f : Entry) → apart e f ≡ true → (p n : ℕ) → f.start * block_length v.geometry ≤ p → p + n ≤ f.end * block_length v.geometry
      → part t p n ≡ part s p n

module _ (s : List ℕ) (v : Volume) (opens : judge s ≡ accepted v) (e : Entry) (w : Within v.geometry e) where
  abbrev b : ℕ
  b = block_length v.geometry

  inside : RegionIn (length s) v.geometry e
  inside = within_in (length s) v.geometry e (judge-opens s v opens).geometry-good w

  pub region-kept : (t : List ℕ) → SameBut (e.start * b) (e.end * b) s t → RegionKept s t v e
  region-kept t k =
      let super = but-part k (super_block_at v.geometry.edition) 42 (inl (omega (arith, inside.low, super-bounds v.geometry.edition))) in
      let index = index_kept k v.geometry inside.high in
      record {
        long = k.long;
        super = super;
        index = index;
        opens = reopens s t v opens k.long super index;
        others = λ f a p n low high. but-part k p n (beside f p n low high (apart-says e f a));
      }
    where
      beside : (f : Entry) (p n : ℕ) → f.start * b ≤ p → p + n ≤ f.end * b → (e.end ≤ f.start) ⊎ (f.end ≤ e.start) → (p + n ≤ e.start * b) ⊎ (e.end * b ≤ p)
      beside f p n low high (inl l) = inr (omega (arith, mul-le-mul_right b l))
      beside f p n low high (inr l) = inl (omega (arith, mul-le-mul_right b l))

  -- as it is written
  pub region-written : (at : ℕ) (bs : List ℕ) → e.start * b ≤ at → at + length bs ≤ e.end * b → RegionKept s (splice s at bs) v e
  region-written at bs low high =
      region-kept (splice s at bs) (but-wider (but-splice s at bs (omega (arith, inside.high))) (e.start * b) (e.end * b) low high)

-- ---- all blocks of an entry's region, where it has one
module _ (s : List ℕ) (v : Volume) (opens : judge s ≡ accepted v) (e : Entry) where
  nothing_written : RegionKept s s v e
  nothing_written = record { long = refl; super = refl; index = refl; opens = opens; others = λ f a p n low high. refl }

  pub blocks-written : Regionless e ⊎ Within v.geometry e → (bs : List ℕ) → length bs ≡ blocks_of e * block_length v.geometry
      → RegionKept s (splice s (e.start * block_length v.geometry) bs) v e
  blocks-written (inr w) bs full =
      region-written s v opens e w (e.start * block_length v.geometry) bs (omega arith) (omega (arith, region-bytes e (block_length v.geometry) (omega (arith, w.some))))
  blocks-written (inl r) bs full =
      let b : ℕ = block_length v.geometry in
      let start : e.start * b ≡ 0 = ap (λ (n : ℕ). n * b) r.start ∙ zero-mul b in
      let end : e.end * b ≡ 0 = ap (λ (n : ℕ). n * b) r.end ∙ zero-mul b in
      let none : e.start * b + length bs ≡ 0 = omega (arith, region-bytes e b (omega (arith, r.start))) in
      subst (λ (t : List ℕ). RegionKept s t v e) (sym (rw none at (but-splice s (e.start * b) bs (omega arith)).back)) nothing_written

-- the bytes of another file, by any geometry of the same blocks
pub others-bytes : (s t : List ℕ) (v : Volume) (e f : Entry) → RegionKept s t v e → apart e f ≡ true → (h : Geometry) → block_length h ≡ block_length v.geometry → Bare f → region_good v.geometry f ≡ true
    → file_bytes t h f ≡ file_bytes s v.geometry f
others-bytes s t v e f k a h block bare good =
    bytes-by s t v.geometry h f block bare good
    (λ w p n low high. k.others f a p n low (omega (arith, region-bytes f (block_length v.geometry) (omega (arith, w.some)))))

-- bytes that were written with zeros behind them are read back
pub padded-back : (s : List ℕ) (at : ℕ) (bs : List ℕ) (m : ℕ) → length bs ≤ m → at + m ≤ length s → part (splice s at (padded bs m)) at (length bs) ≡ bs
unfolding part padded
padded-back s at bs m short room =
    let l : length (padded bs m) ≡ m = length-padded bs m short in
    ap (take (length bs)) (drop-splice s at (padded bs m) (omega arith) ∙ append_assoc bs (replicate (m - length bs) 0) (drop (at + length (padded bs m)) s))
    ∙ take-append_seam bs (replicate (m - length bs) 0 ++ drop (at + length (padded bs m)) s)
