-- THE LISTING FITS: of any image, what the listing program writes has at most 131,072 bytes. Assumes nothing.
use Prim.Native.Nat.{ℕ, ◌+◌, ◌*◌, ◌^◌, ◌≤◌, ◌<◌}
use mathlib.Core.List.{List, [], ◌∷◌}
use mathlib.Core.Path.{◌≡◌, refl, ap, ◌∙◌}
use native.Mathlib.Omega.{arith}
use lib.ListN.{length, length-append, drop}
use Rattle.rules.specs.Lists.{only, sum}
use Rattle.rules.specs.Fields.{Bytes}
use Rattle.rules.specs.Text.Laws.{decimal-length}
use Rattle.rules.specs.Index.{Entry, inner_slots, item_at, items_of, slot_at, file_type, walk_all}
use Rattle.rules.specs.Regions.{blocks_of, held_blocks}
use Rattle.rules.specs.Paths.{is_live}
use Rattle.rules.specs.Refusals.{Verdict, refused, accepted, Volume, entries, judge_read}
use Rattle.rules.specs.Refusals.Laws.{Opens, judge-opens, read-opens}
use Rattle.rules.specs.Listing.{line_of, lines_of, count_line, refused_line, volume_text, listing_of}
use Rattle.laws.proofs.Lists.Every.{sum-only}
use Rattle.laws.proofs.Images.Accepted.{Low, read_low}
use Rattle.laws.proofs.Index.Slots.{inner-slots}
use Rattle.laws.proofs.Index.Ends.{name-fits}
use Rattle.laws.proofs.Listing.Weights.{bytes_drop, Weighs, sum-walk}
use Rattle.laws.proofs.Listing.Lines.{per_slot, line-weighs, one-weighs, blocks-weigh}

-- ---- lengths as sums
lines-sum : (es : List Entry) → length (lines_of es) ≡ sum (λ e. length (line_of e)) es
unfolding lines_of sum
lines-sum [] = refl
lines-sum (e ∷ es) = length-append (line_of e) (lines_of es) ∙ ap (λ (n : ℕ). length (line_of e) + n) (lines-sum es)

count-sum : (es : List Entry) → length es ≡ sum (λ e. 1) es
unfolding sum
count-sum [] = refl
count-sum (e ∷ es) = omega (arith, count-sum es)

-- ---- refusals
refused-fits : (s : List ℕ) (n : ℕ) → n < 10 → length (volume_text s (refused n)) ≤ 10
unfolding volume_text refused_line
refused-fits s n h = simp length-append (omega (arith, decimal-length 1 n (omega arith) h))

-- ---- an image that opens
inner-few : (s : List ℕ) (v : Volume) → Opens s v → length s ≤ 65_536 → inner_slots v.geometry ≤ 1022
inner-few s v o h = omega (arith, inner-slots v.geometry, o.geometry-good.index-fits)

module _ (s : List ℕ) (v : Volume) (bytes : Bytes s) (o : Opens s v) (small : length s ≤ 65_536) where
  -- a sum over the entries that stand in the index
  sum-entries : (f : Entry → ℕ) (m : ℕ) → ((left k : ℕ) (a : List ℕ) → 0 < left → Bytes a → Weighs f m left (item_at v.geometry.edition left k a))
      → sum f (entries v) ≤ m * inner_slots v.geometry
  unfolding items_of walk_all
  sum-entries f m each =
      rw o.items-are
      (sum-walk v.geometry.edition f m each (inner_slots v.geometry) (inner_slots v.geometry) 1 (drop (slot_at s v.geometry 1) s) (bytes_drop (slot_at s v.geometry 1) s bytes))

  few : inner_slots v.geometry ≤ 1022
  few = inner-few s v o small

  lines_fit : length (lines_of (only is_live (entries v))) ≤ per_slot * 1022
  lines_fit =
      omega (arith, lines-sum (only is_live (entries v)), sum-only (λ e. length (line_of e)) is_live (entries v), sum-entries (λ e. length (line_of e)) per_slot (line-weighs v.geometry.edition), few)

  live-few : length (only is_live (entries v)) ≤ 1022
  live-few = omega (arith, count-sum (only is_live (entries v)), sum-only (λ e. 1) is_live (entries v), sum-entries (λ e. 1) 1 (one-weighs v.geometry.edition), few)

  held-few : held_blocks (entries v) ≤ 2 ^ 64 * 1022
  unfolding held_blocks
  held-few = omega (arith, sum-only blocks_of (λ e. file_type e.kind) (entries v), sum-entries blocks_of (2 ^ 64) (blocks-weigh v.geometry.edition), few)

  count_fits : length (count_line (entries v)) ≤ 39
  unfolding count_line
  count_fits =
      simp length-append
      (omega (arith, decimal-length 4 (length (only is_live (entries v))) (omega arith) (omega (arith, live-few)), decimal-length 23 (held_blocks (entries v)) (omega arith) (omega (arith, held-few))))

  volume-fits : length (volume_text s (accepted v)) ≤ 131_000
  unfolding volume_text
  volume-fits = simp length-append (omega (arith, name-fits s, lines_fit, count_fits))

-- one of more than 65,536 bytes is refused
pub listing-fits : (s : List ℕ) → Bytes s → length (listing_of s) ≤ 131_000
unfolding listing_of
listing-fits s bytes = by (judge_read s) refl (read_low s)
  where
    by : (r : Verdict Volume) → judge_read s ≡ r → Low r → length (volume_text s r) ≤ 131_000
    by (refused n) e l = omega (arith, refused-fits s n (omega (arith, l.1)))
    by (accepted v) e l =
        let h = read-opens s v e in
        volume-fits s v bytes (judge-opens s v h.1) h.0
