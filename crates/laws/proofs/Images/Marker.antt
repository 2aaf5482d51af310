-- The start marker written: it lies in slot 0 of the new geometry, and with it the ends are good.
use Prim.Native.Nat.{ℕ, ◌+◌, ◌≤◌}
use mathlib.Core.Path.{◌≡◌, refl, sym, ap, ◌∙◌}
use mathlib.Core.Bool.{Bool, true, false}
use mathlib.Core.List.{List}
use native.Mathlib.Omega.{arith}
use lib.ListN.{length}
use lib.Dec.{eqb}
use borrow.Author.Tests.{eqb-true}
use Rattle.rules.specs.Lists.{pick, part}
use Rattle.rules.specs.Fields.{splice}
use Rattle.rules.specs.Fields.Laws.{part-splice-in}
use Rattle.rules.specs.SuperBlock.{Geometry}
use Rattle.rules.specs.Editions.{Edition}
use Rattle.rules.specs.Index.{slot_at, slot_bytes, marker_bytes, identifier_at, identifier_good}
use Rattle.rules.specs.Index.Walk.{pick-both}
use Rattle.rules.specs.Refusals.Laws.{length-marker}
use Rattle.rules.specs.Writing.{put_marker}
use Rattle.laws.proofs.Lists.Spans.{SameBut, but-none, but-splice, but-wider, but-drop}
use Rattle.laws.proofs.Index.Slots.{slot-at, identifier-at}
use Rattle.laws.proofs.Index.Ends.{ends_good, ends_same, identifier-same, ends-identifier, with-marker}

module _ (s : List ℕ) (old new : Geometry) (low : 128 ≤ new.index_bytes) (fits : new.index_bytes ≤ length s) where
  room : slot_at s new 0 + length (marker_bytes new.edition) ≤ length s
  room = omega (arith, slot-at s new 0, length-marker new.edition)

  spliced : SameBut (slot_at s new 0) (slot_at s new 1) s (splice s (slot_at s new 0) (marker_bytes new.edition))
  spliced = but-wider (but-splice s (slot_at s new 0) (marker_bytes new.edition) room) (slot_at s new 0) (slot_at s new 1) (omega arith) (omega (arith, slot-at s new 0, slot-at s new 1, length-marker new.edition))

  pub marker-written : SameBut (slot_at s new 0) (slot_at s new 1) s (put_marker s old new)
  unfolding put_marker
  marker-written = pick-both (SameBut (slot_at s new 0) (slot_at s new 1) s) _ s _ (but-none _ _ s) spliced

  in-marker : part (splice s (slot_at s new 0) (marker_bytes new.edition)) (slot_at s new 0) slot_bytes ≡ marker_bytes new.edition
  in-marker = rw length-marker at (part-splice-in s (slot_at s new 0) (marker_bytes new.edition) room)

  -- the index keeps its size, and with it its marker; else it has one of its own
  pub marker-good : new.edition ≡ old.edition → ends_good s old ≡ true → ends_good (put_marker s old new) new ≡ true
  unfolding put_marker pick
  marker-good edition e = by (eqb old.index_bytes new.index_bytes) refl
    where
      t : List ℕ
      t = splice s (slot_at s new 0) (marker_bytes new.edition)

      by : (b : Bool) → eqb old.index_bytes new.index_bytes ≡ b → ends_good (pick b s (splice s (slot_at s new 0) (marker_bytes new.edition))) new ≡ true
      by true q = ends_same s s old new refl edition (sym (eqb-true old.index_bytes new.index_bytes q)) refl refl ∙ e
      by false q =
          let here : slot_at t new 0 ≡ slot_at s new 0 = omega (arith, slot-at t new 0, slot-at s new 0, spliced.long) in
          with-marker t new
          (ap (λ (n : ℕ). part t n slot_bytes) here ∙ in-marker)
          (ap (λ (ed : Edition). identifier_good ed t) edition
          ∙ identifier-same old.edition s t spliced.long (but-drop spliced (identifier_at s) (omega (arith, slot-at s new 1, identifier-at s))) ∙ ends-identifier s old e)
