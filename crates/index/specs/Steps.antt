-- From entry to entry: what a step of the walk says.
use Rattle.std.specs.Prelude.{ℕ, ◌+◌, ◌-◌, ◌*◌, ◌≤◌, ◌<◌, ◌≡◌, refl, Bool, true, false, List, [], ◌∷◌, length, get_or, drop, Option, None, Some}
use Rattle.std.proofs.Common.{sym, ap, ◌∙◌, arith}
use Rattle.rules.specs.Fields.{byte_at}
use Rattle.rules.specs.Editions.{Edition}
use Rattle.rules.specs.Index.{Entry, entry, item_at, entries_of, slot_bytes}
use Rattle.rules.specs.Index.Walk.{walk_all, slots_of, walk_none, walk-entry}
use Rattle.rules.specs.Index.Items.{faultless, head_of, entry_type, step_slots, step-entry, step-gap, Stands, sound-entry, sound-gap, gap_at, gap_slots, gap-slots, gap-fits, entries-gap, walk-gap, rest-sound, entries-entry, type-drop}
use Rattle.editions.specs.View.{edition_view}
use Rattle.slots.specs.declared.Head.{Head}
use Rattle.slots.specs.declared.Spot.{Spot}
use Rattle.slots.specs.View.{spot_view, slots-is, slot_is, entry_in, spot-view, spot_in, head-spot}
pub use Rattle.slots.specs.View.{HeadIn, SpotIn}
use Rattle.index.specs.declared.Cursor.{Cursor}
use Rattle.index.specs.declared.Ahead.{Ahead}
use Rattle.index.specs.View.{Inside, SumsFrom, Behind, sums-behind, items_from, head_view, Past, past-items, past-inside}

-- the entries that a cursor has before it
abbrev pub entries_from : List ℕ → Cursor → List Entry
entries_from s c = entries_of (items_from s c)

-- a cursor in a sound index
pub record Walks (s : List ℕ) (c : Cursor) : Type 0 where
  pub inside : Inside s c
  pub sound : faultless (items_from s c) ≡ true

-- a step to the entry at a spot
pub record Arrives (s : List ℕ) (c : Cursor) (p : Spot) (d : Cursor) : Type 0 where
  pub edition : d.edition ≡ c.edition
  pub of : p.edition ≡ c.edition
  pub entries : entries_from s c ≡ spot_view s p ∷ entries_from s d
  pub walks : Walks s d
  pub less : d.left < c.left
  pub spot : SpotIn s p
  pub view : spot_view s p ≡ head_of (edition_view p.edition) p.slot.0 (drop p.at.0 s)
  pub place : p.at.0 + 64 * c.slot.0 ≡ c.at.0 + 64 * p.slot.0  -- as far apart in bytes as in slots
  pub after : d.at.0 ≡ p.at.0 + 64 * (spot_view s p).slots
  pub number : d.slot.0 ≡ p.slot.0 + (spot_view s p).slots
  pub ahead : c.slot.0 ≤ p.slot.0
  pub ends : d.slot.0 + d.left ≡ c.slot.0 + c.left  -- both walks end at one slot

-- a step over what stands at a spot: an entry, or an unused slot
pub record Onward (s : List ℕ) (c : Cursor) (p : Spot) (d : Cursor) : Type 0 where
  pub edition : d.edition ≡ c.edition
  pub of : p.edition ≡ c.edition
  pub here : (p.at.0 ≡ c.at.0) × (p.slot.0 ≡ c.slot.0) × (p.kind ≡ get_or s c.at.0 0)
  pub past : Past c (step_slots (edition_view c.edition) c.left (drop c.at.0 s)) d
  pub walks : Walks s d
  pub less : d.left < c.left
  pub place : d.at.0 + 64 * c.slot.0 ≡ c.at.0 + 64 * d.slot.0
  pub ahead : c.slot.0 ≤ d.slot.0
  pub ends : d.slot.0 + d.left ≡ c.slot.0 + c.left
  pub entry : entry_type (edition_view p.edition) p.kind ≡ true → Arrives s c p d
  pub unused : entry_type (edition_view p.edition) p.kind ≡ false → entries_from s d ≡ entries_from s c

unfoldable pub Stops : List ℕ → Cursor → Option Ahead → Type 0
Stops s c None = entries_from s c ≡ []
Stops s c (Some a) = Arrives s c a.here a.rest

-- a step to an entry whose numbers are read
pub record Step (s : List ℕ) (c : Cursor) (h : Head) (d : Cursor) : Type 0 where
  pub edition : d.edition ≡ c.edition
  pub of : h.edition ≡ c.edition
  pub entries : entries_from s c ≡ head_view s h ∷ entries_from s d
  pub walks : Walks s d
  pub less : d.left < c.left
  pub head : HeadIn s h
  pub place : h.at.0 + 64 * c.slot.0 ≡ c.at.0 + 64 * h.slot.0
  pub after : d.at.0 ≡ h.at.0 + 64 * h.slots
  pub number : d.slot.0 ≡ h.slot.0 + h.slots
  pub ahead : c.slot.0 ≤ h.slot.0
  pub ends : d.slot.0 + d.left ≡ c.slot.0 + c.left

unfoldable pub Told : List ℕ → Cursor → Option (Head × Cursor) → Type 0
Told s c None = entries_from s c ≡ []
Told s c (Some (h, d)) = Step s c h d

-- ---- a step that finds an entry
slots-entry : (e : Entry) → e.slots ≡ slots_of (entry e)
unfolding slots_of
slots-entry e = refl

module _ (s : List ℕ) (c : Cursor) (walks : Walks s c) (more : 0 < c.left) where
  abbrev ed : Edition
  ed = edition_view c.edition

  abbrev here : Entry
  here = head_of ed c.slot.0 (drop c.at.0 s)

  -- it goes on by n slots
  module _ (n : ℕ) (count : n ≡ step_slots ed c.left (drop c.at.0 s)) (d : Cursor) (past : Past c n d) where
    module _ (type : entry_type ed (get_or s c.at.0 0) ≡ true) where
      type-here : entry_type ed (byte_at (drop c.at.0 s) 0) ≡ true
      type-here = ap (entry_type ed) (type-drop s c.at.0) ∙ type

      stands : Stands ed c.left c.slot.0 (drop c.at.0 s)
      stands = sound-entry ed c.left c.slot.0 (drop c.at.0 s) more walks.sound type-here

      whole : n ≡ here.slots
      whole = count ∙ step-entry ed c.left (drop c.at.0 s) c.slot.0 type-here

      slots-left : n ≤ c.left
      slots-left = omega (arith, whole, stands.fits)

      behind : items_from s d ≡ walk_all ed (c.left - here.slots) (c.slot.0 + here.slots) (drop (slot_bytes * here.slots) (drop c.at.0 s))
      behind = rw whole at (past-items s c n d past)

      behind-walks : Walks s d
      behind-walks = record {
        inside = past-inside s c n d past walks.inside slots-left;
        sound = rw behind (rest-sound ed c.left c.slot.0 (drop c.at.0 s) more walks.sound (entry here) stands.item here.slots (slots-entry here));
      }

      behind-less : d.left < c.left
      behind-less = omega (arith, past.left, whole, stands.low)

      reached : (p : Spot) → p.edition ≡ c.edition → p.at.0 ≡ c.at.0 → p.slot.0 ≡ c.slot.0 → p.kind ≡ get_or s c.at.0 0 → n ≤ 256 → Arrives s c p d
      reached p of place number kind few =
          let own : edition_view p.edition ≡ ed = ap edition_view of in
          let view : spot_view s p ≡ here = spot-view ed s c.at.0 c.slot.0 p own place number kind type in
          let slots : n ≡ (spot_view s p).slots = whole ∙ ap (λ (e : Entry). e.slots) (sym view) in
          record {
            edition = past.edition;
            of = of;
            entries = entries-entry ed c.left c.slot.0 (drop c.at.0 s) more here stands.item ∙ rw (view, behind);
            walks = behind-walks;
            less = behind-less;
            spot = spot_in ed s c.at.0 c.slot.0 p own place number kind type (entry_in ed s c.at.0 c.slot.0 c.left stands walks.inside.fits walks.inside.short (omega (arith, whole, few)));
            view = view ∙ rw (own, number, place);
            place = omega (arith, place, number);
            after = omega (arith, past.at, place, slots);
            number = omega (arith, past.slot, number, slots);
            ahead = omega (arith, number);
            ends = omega (arith, past.slot, past.left, slots-left);
          }

    -- over a slot that starts no entry, or several that are left over
    module _ (type : entry_type ed (get_or s c.at.0 0) ≡ false) where
      gap_here : entry_type ed (byte_at (drop c.at.0 s) 0) ≡ false
      gap_here = ap (entry_type ed) (type-drop s c.at.0) ∙ type

      pub gap_is : item_at ed c.left c.slot.0 (drop c.at.0 s) ≡ gap_at ed c.left c.slot.0 (drop c.at.0 s)
      gap_is = sound-gap ed c.left c.slot.0 (drop c.at.0 s) more walks.sound gap_here

      pub gap-count : n ≡ gap_slots ed c.left (drop c.at.0 s)
      gap-count = count ∙ step-gap ed c.left (drop c.at.0 s) gap_here

      gap-bounds : (1 ≤ n) × (n ≤ c.left)
      gap-bounds = rw gap-count (gap-fits ed c.left c.slot.0 (drop c.at.0 s) more)

      pub gap-behind : items_from s d ≡ walk_all ed (c.left - gap_slots ed c.left (drop c.at.0 s)) (c.slot.0 + gap_slots ed c.left (drop c.at.0 s)) (drop (slot_bytes * gap_slots ed c.left (drop c.at.0 s)) (drop c.at.0 s))
      gap-behind = rw gap-count at (past-items s c n d past)

      skip-entries : entries_from s d ≡ entries_from s c
      skip-entries = ap entries_of gap-behind ∙ sym (entries-gap ed c.left c.slot.0 (drop c.at.0 s) more gap_is)

      pub skip_walks : Walks s d
      skip_walks = record {
        inside = past-inside s c n d past walks.inside gap-bounds.1;
        sound =
            rw (past-items s c n d past)
            (rest-sound ed c.left c.slot.0 (drop c.at.0 s) more walks.sound (gap_at ed c.left c.slot.0 (drop c.at.0 s)) gap_is n (gap-count ∙ sym (gap-slots ed c.left c.slot.0 (drop c.at.0 s))));
      }

    -- over either
    by-type : {A : Type 0} → (entry_type ed (get_or s c.at.0 0) ≡ true → A) → (entry_type ed (get_or s c.at.0 0) ≡ false → A) → A
    by-type {A} f g = by (entry_type ed (get_or s c.at.0 0)) refl
      where
        by : (t : Bool) → entry_type ed (get_or s c.at.0 0) ≡ t → A
        by true e = f e
        by false e = g e

    pub onward-walks : Walks s d
    onward-walks = by-type (λ t. behind-walks t) (λ f. skip_walks f)

    pub onward-less : d.left < c.left
    onward-less = by-type (λ t. behind-less t) (λ f. omega (arith, past.left, gap-bounds f))

    pub onward : n ≤ 256 → (p : Spot) → p.edition ≡ c.edition → p.at.0 ≡ c.at.0 → p.slot.0 ≡ c.slot.0 → p.kind ≡ get_or s c.at.0 0 → Onward s c p d
    onward few p of place number kind =
        let own : entry_type ed (get_or s c.at.0 0) ≡ entry_type (edition_view p.edition) p.kind = rw (of, kind) in
        record {
          edition = past.edition;
          of = of;
          here = (place, number, kind);
          past = rw count at past;
          walks = onward-walks;
          less = onward-less;
          place = omega (arith, past.at, past.slot);
          ahead = omega (arith, past.slot);
          ends = by-type (λ t. omega (arith, past.slot, past.left, slots-left t)) (λ f. omega (arith, past.slot, past.left, gap-bounds f));
          entry = λ t. reached (own ∙ t) p of place number kind few;
          unused = λ f. skip-entries (own ∙ f);
        }

    -- what stands there, then the rest
    pub over-items : items_from s c ≡ item_at ed c.left c.slot.0 (drop c.at.0 s) ∷ items_from s d
    over-items =
        let a : List ℕ = drop c.at.0 s in
        by-type
        (λ t. walk-entry ed c.left c.slot.0 a more here (stands t).item ∙ rw ((stands t).item, behind t))
        (λ f. walk-gap ed c.left c.slot.0 a more (gap_is f) ∙ rw (gap_is f, gap-behind f))

-- ---- the walk depends on the image from the cursor on
module _ (s t : List ℕ) (c : Cursor) (long : length t ≡ length s) (same : drop c.at.0 t ≡ drop c.at.0 s) where
  pub items_kept : items_from t c ≡ items_from s c
  items_kept = ap (walk_all (edition_view c.edition) c.left c.slot.0) same

  pub walks-kept : Walks s c → Walks t c
  walks-kept w = record {
    inside = record { fits = omega (arith, long, w.inside.fits); short = omega (arith, long, w.inside.short); numbers = w.inside.numbers };
    sound = rw items_kept w.sound;
  }

-- what a walk goes on by is left
pub step_left : (s : List ℕ) (c : Cursor) → Walks s c → 0 < c.left → step_slots (edition_view c.edition) c.left (drop c.at.0 s) ≤ c.left
step_left s c walks more = by (entry_type ed (byte_at a 0)) refl
  where
    ed : Edition
    ed = edition_view c.edition

    a : List ℕ
    a = drop c.at.0 s

    by : (t : Bool) → entry_type ed (byte_at a 0) ≡ t → step_slots ed c.left a ≤ c.left
    by true e = omega (arith, step-entry ed c.left a c.slot.0 e, (sound-entry ed c.left c.slot.0 a more walks.sound e).fits)
    by false e = omega (arith, step-gap ed c.left a e, gap-fits ed c.left c.slot.0 a more)

-- the numbers of the entry at a spot
pub step-read : (s : List ℕ) (c : Cursor) (p : Spot) (d : Cursor) → Arrives s c p d → (h : Head) → h.edition ≡ p.edition
    → head_view s h ≡ head_of (edition_view p.edition) p.slot.0 (drop p.at.0 s) → h.at.0 ≡ p.at.0
    → Step s c h d
step-read s c p d r h of view place =
    let ed : Edition = edition_view p.edition in
    let n : h.slots ≡ (spot_view s p).slots = slots-is ed s p.at.0 p.slot.0 h view ∙ ap (λ (e : Entry). e.slots) (sym r.view) in
    let k : h.slot.0 ≡ p.slot.0 = slot_is ed s p.at.0 p.slot.0 h view in
    record {
      edition = r.edition;
      of = of ∙ r.of;
      entries = r.entries ∙ ap (λ (e : Entry). e ∷ entries_from s d) (r.view ∙ sym view);
      walks = r.walks;
      less = r.less;
      head = head-spot s p h (r.view ∙ sym view) of place r.spot;
      place = omega (arith, place, k, r.place);
      after = omega (arith, place, n, r.after);
      number = omega (arith, k, n, r.number);
      ahead = omega (arith, k, r.ahead);
      ends = r.ends;
    }

pub no-more : (s : List ℕ) (c : Cursor) → c.left ≡ 0 → entries_from s c ≡ []
unfolding entries_of
no-more s c z = rw (z, walk_none (edition_view c.edition) c.slot.0 (drop c.at.0 s))

-- an entry that is reached from further on is reached from the start
pub reached-before : (s : List ℕ) (b c : Cursor) (p : Spot) (d : Cursor) → c.edition ≡ b.edition → entries_from s c ≡ entries_from s b → b.slot.0 ≤ c.slot.0 → c.slot.0 + c.left ≡ b.slot.0 + b.left
    → c.at.0 + 64 * b.slot.0 ≡ b.at.0 + 64 * c.slot.0 → Arrives s c p d → Arrives s b p d
reached-before s b c p d of e l n q r = record {
  edition = r.edition ∙ of;
  of = r.of ∙ of;
  entries = sym e ∙ r.entries;
  walks = r.walks;
  less = omega (arith, r.less);
  spot = r.spot;
  view = r.view;
  place = omega (arith, r.place);
  after = r.after;
  number = r.number;
  ahead = omega (arith, r.ahead);
  ends = r.ends ∙ n;
}

-- ---- the cursor behind a step stands in the same walk
module _ (s : List ℕ) (c d : Cursor) where
  pub behind-onward : (p : Spot) → Onward s c p d → Behind c d
  behind-onward p r = record { edition = r.edition; ahead = r.ahead; place = r.place; ends = r.ends }

  pub behind-arrives : (p : Spot) → Arrives s c p d → Behind c d
  behind-arrives p r = record {
    edition = r.edition;
    ahead = omega (arith, r.number, r.ahead);
    place = omega (arith, r.after, r.number, r.place);
    ends = r.ends;
  }

  -- an entry starts before the slot that the walk goes on at
  pub arrives-before : (p : Spot) → Arrives s c p d → (spot_view s p).slot < d.slot.0
  unfolding spot_view
  arrives-before p r = omega (arith, r.number, r.spot.low)

  pub behind-step : (h : Head) → Step s c h d → Behind c d
  behind-step h r = record {
    edition = r.edition;
    ahead = omega (arith, r.number, r.ahead);
    place = omega (arith, r.after, r.number, r.place);
    ends = r.ends;
  }

-- and the sums of the walk serve it
module _ (s t : List ℕ) (c : Cursor) (sums : SumsFrom s t c) (d : Cursor) where
  pub sums-onward : (p : Spot) → Onward s c p d → SumsFrom s t d
  sums-onward p r = sums-behind s t c sums d (behind-onward s c d p r)

  pub sums-arrives : (p : Spot) → Arrives s c p d → SumsFrom s t d
  sums-arrives p r = sums-behind s t c sums d (behind-arrives s c d p r)

  pub sums-step : (h : Head) → Step s c h d → SumsFrom s t d
  sums-step h r = sums-behind s t c sums d (behind-step s c d h r)
