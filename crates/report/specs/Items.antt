-- A table one step of the walk further.
use Rattle.std.specs.Prelude.{◌≡◌, ℕ, ◌+◌, ◌-◌, ◌<◌, ◌≤◌, Bool, true, false, List, [], ◌∷◌, length, drop, slice_index, refl}
use Rattle.std.proofs.Common.{sym, ap, ◌∙◌, arith}
use Rattle.rules.specs.Lists.{pick, All}
use Rattle.rules.specs.Fields.{byte_at}
use Rattle.rules.specs.Editions.{Edition}
use Rattle.rules.specs.Index.{Entry, Item, unused, stale, entry, item_at, stale_type, stale_slots}
use Rattle.rules.specs.Index.Walk.{walk_none}
use Rattle.rules.specs.Index.Items.{head_of, entry_type, step_slots, step-entry, Stands, sound-entry, gap_at, gap_slots, entries-entry, type-drop}
use Rattle.rules.specs.Regions.{blocks_of}
use Rattle.rules.specs.Report.{Table, entry_kind, item_kind, slots_in, blocks_in, bytes_in, sums_of, added}
use Rattle.laws.proofs.Report.Table.{item_row, counted_at, table-turn}
use Rattle.ordering.specs.Regions.{Small}
use Rattle.editions.specs.View.{edition_view}
use Rattle.slots.specs.declared.Spot.{Spot}
use Rattle.index.specs.declared.Cursor.{Cursor}
use Rattle.index.specs.View.{items_from, Past}
use Rattle.index.specs.Steps.{Walks, Onward, entries_from, over-items, gap_is, gap-count}

-- a cursor, and the one behind what stands at it
pub record Onto (s : List ℕ) (c d : Cursor) : Type 0 where
  pub walks : Walks s c
  pub more : 0 < c.left
  pub past : Past c (step_slots (edition_view c.edition) c.left (drop c.at.0 s)) d
  pub small : All Small (entries_from s c)

pub onto-ahead : (s : List ℕ) (c d : Cursor) → Onto s c d → c.slot.0 ≤ d.slot.0
onto-ahead s c d on = omega (arith, on.past.slot)

pub onto-room : (s : List ℕ) (c d : Cursor) → Onto s c d → c.at.0 + 64 ≤ length s
onto-room s c d on = omega (arith, on.walks.inside.fits, on.more)

-- and from there on
pub onto-small : (s : List ℕ) (c : Cursor) (p : Spot) (d : Cursor) → Onward s c p d → All Small (entries_from s c) → All Small (entries_from s d)
onto-small s c p d o h = by (entry_type (edition_view p.edition) p.kind) refl
  where
    by : (t : Bool) → entry_type (edition_view p.edition) p.kind ≡ t → All Small (entries_from s d)
    by true t = (rw (o.entry t).entries at h).1
    by false t = rw (o.unused t) h

pub items-end : (s : List ℕ) (c : Cursor) → c.left ≡ 0 → items_from s c ≡ []
items-end s c z = rw (z, walk_none (edition_view c.edition) c.slot.0 (drop c.at.0 s))

-- ---- a slot with no entry, or several that are left over
gap_row : (ed : Edition) (left k : ℕ) (a : List ℕ) → (item_kind (gap_at ed left k a) ≡ 5) × (item_row (gap_at ed left k a) ≡ gap_slots ed left a ∷ 0 ∷ 0 ∷ [])
unfolding gap_at gap_slots pick item_kind slots_in blocks_in bytes_in
gap_row ed left k a = by (stale_type ed (byte_at a 0))
  where
    by : (b : Bool) → (item_kind (pick b (stale k (stale_slots ed left a)) (unused k)) ≡ 5) × (item_row (pick b (stale k (stale_slots ed left a)) (unused k)) ≡ pick b (stale_slots ed left a) 1 ∷ 0 ∷ 0 ∷ [])
    by true = (refl, refl)
    by false = (refl, refl)

-- ---- an entry
entry_row : (e : Entry) → (item_kind (entry e) ≡ entry_kind e.kind) × (item_row (entry e) ≡ e.slots ∷ blocks_of e ∷ e.length ∷ [])
unfolding item_kind slots_in blocks_in bytes_in
entry_row e = (refl, refl)

module _ (s : List ℕ) (c d : Cursor) (on : Onto s c d) where
  abbrev ed : Edition
  ed = edition_view c.edition

  abbrev a : List ℕ
  a = drop c.at.0 s

  abbrev k : ℕ
  k = c.slot.0

  items : items_from s c ≡ item_at ed c.left k a ∷ items_from s d
  items = over-items s c on.walks on.more (step_slots ed c.left a) refl d on.past

  -- an item of this kind and row stands there
  turn : (i : Item) → item_at ed c.left k a ≡ i → (kind : ℕ) (row : List ℕ) → item_kind i ≡ kind → item_row i ≡ row → (t : Table) → kind < length t
      → added (counted_at t kind row) (sums_of (items_from s d)) ≡ added t (sums_of (items_from s c))
  turn i e kind row f r t h = rw (items, e, ← r) (table-turn i (items_from s d) t kind f h)

  module _ (n : ℕ) (count : n ≡ d.slot.0 - c.slot.0) (t : Table) (long : length t ≡ 6) where
    pub gap-turn : entry_type ed (slice_index s c.at.0) ≡ false → added (counted_at t 5 (n ∷ 0 ∷ 0 ∷ [])) (sums_of (items_from s d)) ≡ added t (sums_of (items_from s c))
    gap-turn f =
        let g = gap_row ed c.left k a in
        let m : gap_slots ed c.left a ≡ n =
        omega (arith, count, on.past.slot, gap-count s c on.walks on.more (step_slots ed c.left a) refl d on.past f) in
        turn (gap_at ed c.left k a) (gap_is s c on.walks on.more (step_slots ed c.left a) refl d on.past f) 5 (n ∷ 0 ∷ 0 ∷ []) g.0
        (g.1 ∙ ap (λ (x : ℕ). x ∷ 0 ∷ 0 ∷ []) m) t (omega arith)

    module _ (type : entry_type ed (slice_index s c.at.0) ≡ true) where
      type-here : entry_type ed (byte_at a 0) ≡ true
      type-here = ap (entry_type ed) (type-drop s c.at.0) ∙ type

      stands : Stands ed c.left k a
      stands = sound-entry ed c.left k a on.more on.walks.sound type-here

      pub entry-turn : (e : Entry) → e ≡ head_of ed k a → entry_kind e.kind < 6
          → added (counted_at t (entry_kind e.kind) (n ∷ blocks_of e ∷ e.length ∷ [])) (sums_of (items_from s d)) ≡ added t (sums_of (items_from s c))
      entry-turn e f low =
          let m : e.slots ≡ n = omega (arith, count, on.past.slot, step-entry ed c.left a k type-here, ap (λ (x : Entry). x.slots) f) in
          let g = entry_row e in
          turn (entry e) (stands.item ∙ ap entry (sym f)) (entry_kind e.kind) (n ∷ blocks_of e ∷ e.length ∷ []) g.0
          (g.1 ∙ ap (λ (x : ℕ). x ∷ blocks_of e ∷ e.length ∷ []) m) t (omega arith)

      -- no end of its region passes 64 bits
      pub entry-small : (e : Entry) → e ≡ head_of ed k a → Small e
      entry-small e f =
          rw f (rw (entries-entry ed c.left k a on.more (head_of ed k a) stands.item) at on.small).0
