-- ROOM FOR ALL: in an output of 491,520 bytes the records of any image that opens fit, so that one call lists all.
use Prim.Native.Nat.{ℕ, ◌+◌, ◌-◌, ◌*◌, ◌≤◌, ◌<◌}
use mathlib.Core.Path.{◌≡◌, refl, ap}
use mathlib.Core.List.{List, [], ◌∷◌}
use native.Mathlib.Omega.{arith}
use lib.ListN.{length, drop}
use borrow.Author.Tests.{le-leb}
use Rattle.rules.specs.Lists.{pick, only, sum}
use Rattle.rules.specs.Lists.Laws.{sum-parts}
use Rattle.rules.specs.Fields.{Bytes}
use Rattle.rules.specs.Editions.{Edition}
use Rattle.rules.specs.Index.{Entry, inner_slots, item_at, items_of, slot_at, walk_all}
use Rattle.rules.specs.Paths.{live_from}
use Rattle.rules.specs.Refusals.{accepted, Volume, entries, judge}
use Rattle.rules.specs.Refusals.Laws.{judge-opens}
use Rattle.rules.specs.Outcome.{done}
use Rattle.rules.specs.Records.{stop_at, with_record, list_all_of}
use Rattle.laws.proofs.Index.Slots.{inner-slots}
use Rattle.rules.specs.Index.Items.{stale-fits}
use Rattle.laws.proofs.Index.Entries.{item-cases, run-slots, run-within, run-path-length, unusable-slots, unusable-bare}
use Rattle.laws.proofs.Listing.Weights.{bytes_drop, Weighs, sum-walk}
use Rattle.laws.proofs.Records.Packed.{record_length, packed, list-all-opened, records-left}

-- a record has at most 120 bytes for each slot of its entry
record-weighs : (ed : Edition) (left k : ℕ) (a : List ℕ) → 0 < left → Bytes a → Weighs record_length 120 left (item_at ed left k a)
record-weighs ed left k a more bytes =
    item-cases ed left k a (Weighs record_length 120 left)
    (λ e r. (run-within ed left k a e r, omega (arith, run-path-length ed left k a e r, run-slots ed left k a e r)))
    (λ e u. (omega (arith, unusable-slots ed k a e u), omega (arith, unusable-slots ed k a e u, ap length (unusable-bare ed k a e u).1)))
    tt (stale-fits ed left a more) tt

-- what fits is put, and no entry is left
packed_all : (ed : Edition) (room k : ℕ) (es : List Entry) → sum record_length es ≤ room → ((packed ed room k es).ended ≡ 0) × ((packed ed room k es).next ≡ 0)
unfolding packed stop_at with_record sum pick
packed_all ed room k [] h = (refl, refl)
packed_all ed room k (e ∷ es) h =
    rw (le-leb (record_length e) room (omega arith)) (packed_all ed (room - record_length e) (e.slot + 1) es (omega arith))

-- the records of all live entries from a slot on have no more bytes
live-fit : (s : List ℕ) (v : Volume) → judge s ≡ accepted v → Bytes s → (slot : ℕ) → sum record_length (only (live_from slot) (entries v)) ≤ 491_520
unfolding items_of walk_all
live-fit s v opens bytes slot =
    let o = judge-opens s v opens in
    let g = v.geometry in
    let n = inner_slots g in
    let all : sum record_length (entries v) ≤ 120 * n =
    rw o.items-are (sum-walk g.edition record_length 120 (record-weighs g.edition) n n 1 (drop (slot_at s g 1) s) (bytes_drop (slot_at s g 1) s bytes)) in
    omega (arith, all, sum-parts record_length (live_from slot) (entries v), inner-slots g, o.geometry-good.index-high)

pub records-fit : (s : List ℕ) (v : Volume) → judge s ≡ accepted v → Bytes s → (slot : ℕ) (out : List ℕ) → 491_520 ≤ length out
    → ((list_all_of s slot out).refusal ≡ 0) × ((list_all_of s slot out).answer.next ≡ 0)
unfolding done
records-fit s v opens bytes slot out h =
    let live = only (live_from slot) (entries v) in
    let p = packed_all v.geometry.edition (length out) slot live (omega (arith, live-fit s v opens bytes slot)) in
    rw (list-all-opened s slot out v opens, records-left s out (packed v.geometry.edition (length out) slot live) p.0) (refl, p.1)
