-- What is left over made unused one item after the other, while the walk goes on behind it.
use Rattle.std.specs.Prelude.{ℕ, ◌+◌, ◌-◌, ◌*◌, ◌≤◌, ◌<◌, ◌≡◌, Bool}
use Rattle.std.proofs.Math.Path.{refl, ap}
use Rattle.std.proofs.Common.{sym, ◌∙◌, arith}
use Rattle.std.proofs.Math.Bool.{true, false}
use mathlib.Core.List.{List, [], ◌∷◌, append-nil}
use Rattle.std.proofs.Math.ListN.{length, drop}
use Rattle.rules.specs.Lists.{pick}
use Rattle.rules.specs.Lists.Laws.{pick_true, pick-false}
use Rattle.rules.specs.Fields.{byte_at, splice}
use Rattle.rules.specs.Fields.Laws.{length-splice}
use Rattle.rules.specs.Editions.{Edition, keeps_deleted}
use Rattle.rules.specs.SuperBlock.{Geometry}
use Rattle.rules.specs.Index.{Entry, Item, unused, stale, entry, fault, item_at, items_of, index_sound, slot_at, stale_type, stale_slots, unused_bytes}
use Rattle.rules.specs.Index.Laws.{length-unused_bytes}
use Rattle.rules.specs.Index.Walk.{pick-both, walk_none}
use Rattle.rules.specs.Index.Items.{entry_type, step_slots, item-stale, type-drop, sound-entry, sound-gap, gap_at}
use Rattle.rules.specs.Writing.{tidied}
use Rattle.laws.proofs.Lists.Spans.{drop-splice-after}
use Rattle.laws.proofs.Index.Slots.{slot-at, items-walk}
use Rattle.laws.proofs.Index.Ends.{ends-good}
use Rattle.laws.proofs.Index.Walks.{keeps-tidy}
use Rattle.laws.proofs.Images.Tidying.{tidied-tidy}
use Rattle.editions.specs.View.{edition_view}
use Rattle.slots.specs.declared.Spot.{Spot}
use Rattle.index.specs.declared.Cursor.{Cursor}
use Rattle.index.specs.View.{items_from, SumsFrom, sums_kept}
use Rattle.index.specs.Steps.{Walks, Onward, step_left, over-items, items_kept, walks-kept, sums-onward}

-- ---- one spot: n slots from it on
unfoldable pub spot_tidied : List ℕ → Spot → ℕ → List ℕ
spot_tidied s p n = pick (stale_type (edition_view p.edition) p.kind) (splice s p.at.0 (unused_bytes (edition_view p.edition) n)) s

module _ (s : List ℕ) (p : Spot) (n : ℕ) (room : p.at.0 + 64 * n ≤ length s) where
  spot-long : length (spot_tidied s p n) ≡ length s
  unfolding spot_tidied
  spot-long =
      let ed : Edition = edition_view p.edition in
      pick-both (λ (u : List ℕ). length u ≡ length s) (stale_type ed p.kind) _ s
      (length-splice s p.at.0 (unused_bytes ed n) (omega (arith, room, length-unused_bytes ed n))) refl

  spot-behind : (k : ℕ) → k ≡ p.at.0 + 64 * n → drop k (spot_tidied s p n) ≡ drop k s
  unfolding spot_tidied
  spot-behind k e =
      let ed : Edition = edition_view p.edition in
      pick-both (λ (u : List ℕ). drop k u ≡ drop k s) (stale_type ed p.kind) _ s
      (drop-splice-after s p.at.0 (unused_bytes ed n) (omega (arith, room)) k (omega (arith, length-unused_bytes ed n))) refl

-- ---- what is left from d in t comes to all from c in s
pub record Tidies (s : List ℕ) (c : Cursor) (t : List ℕ) (d : Cursor) : Type 0 where
  pub edition : d.edition ≡ c.edition
  pub place : (g : Geometry) → c.at.0 ≡ slot_at s g c.slot.0 → d.at.0 ≡ slot_at t g d.slot.0
  pub rest : (g : Geometry) → edition_view c.edition ≡ g.edition → c.at.0 ≡ slot_at s g c.slot.0 → tidied t g (items_from t d) ≡ tidied s g (items_from s c)

pub tidies-none : (s : List ℕ) (c : Cursor) → Tidies s c s c
tidies-none s c = record { edition = refl; place = λ g p. p; rest = λ g e p. refl }

tidies-both : (s t u : List ℕ) (b c d : Cursor) → Tidies s b t c → Tidies t c u d → Tidies s b u d
tidies-both s t u b c d x y = record {
  edition = y.edition ∙ x.edition;
  place = λ g p. y.place g (x.place g p);
  rest = λ g e p. y.rest g (ap edition_view x.edition ∙ e) (x.place g p) ∙ x.rest g e p;
}

pub tidies-all : (s t : List ℕ) (c d : Cursor) → Tidies s c t d → d.left ≡ 0
    → (g : Geometry) → edition_view c.edition ≡ g.edition → c.at.0 ≡ slot_at s g c.slot.0 → t ≡ tidied s g (items_from s c)
unfolding tidied
tidies-all s t c d x z g e p = rw (z, walk_none (edition_view d.edition) d.slot.0 (drop d.at.0 t)) at (x.rest g e p)

-- ---- an item that is not left over stays
stays : (s : List ℕ) (g : Geometry) (i : Item) (is : List Item) → ((k n : ℕ) → i ≡ stale k n → ⊥) → tidied s g (i ∷ is) ≡ tidied s g is
unfolding tidied
stays s g (unused k) is f = refl
stays s g (stale k n) is f = absurd (f k n refl)
stays s g (entry e) is f = refl
stays s g (fault k) is f = refl

no-entry : {e : Entry} {k n : ℕ} → entry e ≡ stale k n → ⊥
no-entry h = let z : ◌≡◌ {A = ℕ} 0 1 = cc in absurd (omega arith)

no-unused : {j k n : ℕ} → unused j ≡ stale k n → ⊥
no-unused h = let z : ◌≡◌ {A = ℕ} 0 1 = cc in absurd (omega arith)

-- ---- a step
module _ (s : List ℕ) (c : Cursor) (walks : Walks s c) (more : 0 < c.left) (p : Spot) (d : Cursor) (on : Onward s c p d) (t : List ℕ)
    (is : t ≡ spot_tidied s p (d.slot.0 - p.slot.0)) where
  abbrev ed : Edition
  ed = edition_view c.edition

  abbrev a : List ℕ
  a = drop c.at.0 s

  counted : d.slot.0 - p.slot.0 ≡ step_slots ed c.left a
  counted = omega (arith, on.past.slot, on.here.1)

  pub step_room : (p.slot.0 ≤ d.slot.0) × (p.at.0 + 64 * (d.slot.0 - p.slot.0) ≤ length s)
  step_room = (omega (arith, on.here.1, on.ahead), omega (arith, on.here, on.past.slot, on.past.left, walks.inside.fits, step_left s c walks more))

  long : length t ≡ length s
  long = ap length is ∙ spot-long s p (d.slot.0 - p.slot.0) step_room.1

  same : drop d.at.0 t ≡ drop d.at.0 s
  same = ap (drop d.at.0) is ∙ spot-behind s p (d.slot.0 - p.slot.0) step_room.1 d.at.0 (omega (arith, on.past.at, on.past.slot, on.here))

  pub step-walks : Walks t d
  step-walks = walks-kept s t d long same on.walks

  -- the sums are of slots that were not written
  pub step-sums : (sums : List ℕ) → SumsFrom s sums c → SumsFrom t sums d
  step-sums sums h = sums_kept s sums d (sums-onward s sums c h d p on) t same

  next_place : (g : Geometry) → c.at.0 ≡ slot_at s g c.slot.0 → d.at.0 ≡ slot_at t g d.slot.0
  next_place g q = omega (arith, slot-at s g c.slot.0, slot-at t g d.slot.0, on.past.at, on.past.slot, long)

  -- what was there, and what was made of it
  type : ℕ
  type = byte_at a 0

  kind-is : stale_type (edition_view p.edition) p.kind ≡ stale_type ed type
  unfolding type
  kind-is = rw (on.of, on.here.2, type-drop s c.at.0)

  step-stale : stale_type ed type ≡ true → step_slots ed c.left a ≡ stale_slots ed c.left a
  unfolding step_slots type
  step-stale e = pick_true _ _ e

  never-stale : stale_type ed type ≡ false → (k n : ℕ) → item_at ed c.left c.slot.0 a ≡ stale k n → ⊥
  unfolding type gap_at
  never-stale e k n h = by (entry_type ed (byte_at a 0)) refl
    where
      by : (b : Bool) → entry_type ed (byte_at a 0) ≡ b → ⊥
      by true f = no-entry (sym (sound-entry ed c.left c.slot.0 a more walks.sound f).item ∙ h)
      by false f = no-unused (sym (sound-gap ed c.left c.slot.0 a more walks.sound f ∙ pick-false _ _ e) ∙ h)

  front : (g : Geometry) → ed ≡ g.edition → c.at.0 ≡ slot_at s g c.slot.0 → (rest : List Item)
      → tidied s g (item_at ed c.left c.slot.0 a ∷ rest) ≡ tidied t g rest
  unfolding tidied spot_tidied type
  front g of q rest = by (stale_type ed type) refl
    where
      by : (b : Bool) → stale_type ed type ≡ b → tidied s g (item_at ed c.left c.slot.0 a ∷ rest) ≡ tidied t g rest
      by true e =
          let n : d.slot.0 - p.slot.0 ≡ stale_slots ed c.left a = counted ∙ step-stale e in
          let at : p.at.0 ≡ slot_at s g c.slot.0 = on.here.0 ∙ q in
          let own : edition_view p.edition ≡ g.edition = ap edition_view on.of ∙ of in
          let made : t ≡ splice s (slot_at s g c.slot.0) (unused_bytes g.edition (stale_slots ed c.left a)) = is ∙ pick_true _ _ (kind-is ∙ e) ∙ rw (n, at, own) in
          rw (item-stale ed c.left c.slot.0 a e, made)
      by false e =
          let kept : t ≡ s = is ∙ pick-false _ _ (kind-is ∙ e) in
          stays s g (item_at ed c.left c.slot.0 a) rest (never-stale e) ∙ ap (λ (u : List ℕ). tidied u g rest) (sym kept)

  step-tidies : Tidies s c t d
  step-tidies = record {
    edition = on.edition;
    place = next_place;
    rest = λ g of q. ap (tidied t g) (items_kept s t d long same)
        ∙ sym (front g of q (items_from s d))
        ∙ sym (ap (tidied s g) (over-items s c walks more _ refl d on.past));
  }

  pub tidies-more : (r : List ℕ) (b : Cursor) → Tidies r b s c → Tidies r b t d
  tidies-more r b x = tidies-both r s t b c d x step-tidies

-- ---- where deleted entries are kept, a sound index has nothing left over
pub nothing_left : (s : List ℕ) (g : Geometry) → keeps_deleted g.edition ≡ true → index_sound s g (items_of s g) ≡ true → s ≡ tidied s g (items_of s g)
nothing_left s g keeps sound =
    let fine = (ends-good s g (items_of s g) sound).1 in
    sym (tidied-tidy s (record { geometry = g; items = items_of s g }) (keeps-tidy g.edition keeps _ _ _ (items_of s g) [] (sym (items-walk s g) ∙ sym (append-nil (items_of s g))) fine))
