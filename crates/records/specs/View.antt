-- A record as its writers cut it, and what was put into an output.
use Prim.Native.Nat.{ℕ, ◌+◌, ◌-◌, ◌≤◌, ◌<◌}
use Rattle.std.specs.Prelude.{◌≡◌, refl, true, false, leb, Option, Some, None, is_some}
use Rattle.std.proofs.Math.Path.{sym, ap}
use Rattle.std.proofs.Common.{◌∙◌, arith, zero-add, length-append, leb-true}
use mathlib.Core.List.{List, [], ◌∷◌, ◌++◌, append_assoc}
use Rattle.std.proofs.Math.Nat.{sub-zero}
use Rattle.std.proofs.Math.ListN.{length}
use Rattle.rules.specs.Lists.{pick, only}
use Rattle.rules.specs.Lists.Laws.{pick_true, pick-false}
use Rattle.rules.specs.Fields.{le_bytes, stamp_bytes, signed_of, splice}
use Rattle.rules.specs.Fields.Laws.{length-le_bytes, splice-nil}
use Rattle.rules.specs.Index.{Entry}
use Rattle.rules.specs.Paths.{live_from}
use Rattle.rules.specs.Outcome.{done, numbers_of}
use Rattle.rules.specs.Outcome.Laws.{denied}
use Rattle.rules.specs.Records.{numbers_bytes, record_bytes, Recorded, stop_at, with_record, no_records, records_outcome}
use Rattle.contracts.specs.declared.Records.{Records}
use Rattle.contracts.specs.Promises.{records_view}
use Rattle.contracts.specs.Promises.Laws.{records-outcome}
use Rattle.editions.specs.View.{edition_view}
use Rattle.slots.specs.declared.Head.{Head}
use Rattle.slots.specs.View.{head_view}
use Rattle.index.specs.declared.Cursor.{Cursor}
use Rattle.index.specs.Steps.{entries_from}
use Rattle.text.specs.Wrote.{Wrote, ToWrite, left-none, left-next}
use Rattle.reading.specs.Found.{end-given}
use Rattle.records.specs.declared.Put.{Put}
use Rattle.units.specs.declared.Slot.{Slot}
use Rattle.laws.proofs.Records.Packed.{record_length, record-length, stamp-length, packed, packed_none, packed-full, packed-next, packed-fits, packed-bare, records_done, records-none, records-left, records-some}

-- ---- a record's parts
-- slot, kind and start
abbrev pub place_bytes : Head → List ℕ
place_bytes h = le_bytes 8 h.slot.0 ++ (le_bytes 8 h.kind ++ le_bytes 8 h.start.0)

-- end, length and stamp
abbrev pub extent_bytes : Head → List ℕ
extent_bytes h = le_bytes 8 h.end.0 ++ (le_bytes 8 h.length ++ stamp_bytes (signed_of h.stamp))

abbrev pub path_bytes : List ℕ → List ℕ
path_bytes path = le_bytes 8 (length path) ++ path

pub place-length : (h : Head) → length (place_bytes h) ≡ 24
place-length h = simp (length-append, length-le_bytes)

pub extent-length : (h : Head) → length (extent_bytes h) ≡ 24
extent-length h = simp (length-append, length-le_bytes, stamp-length)

pub path-length : (p : List ℕ) → length (path_bytes p) ≡ 8 + length p
path-length p = simp (length-append, length-le_bytes)

pub record-parts : (s : List ℕ) (h : Head)
    → place_bytes h ++ (extent_bytes h ++ path_bytes (head_view s h).path) ≡ record_bytes (numbers_of (edition_view h.edition) (head_view s h)) (head_view s h).path
unfolding record_bytes numbers_bytes numbers_of head_view
record-parts s h =
    sym (append_assoc (place_bytes h) (extent_bytes h) (path_bytes (head_view s h).path))
    ∙ ap (λ (n : ℕ). (place_bytes h ++ (le_bytes 8 n ++ (le_bytes 8 h.length ++ stamp_bytes (signed_of h.stamp)))) ++ path_bytes (head_view s h).path) (sym (end-given s h))

-- ---- all of them
-- what the definitions record
abbrev pub wanted : List ℕ → Cursor → ℕ → List ℕ → Recorded
wanted s c slot out = packed (edition_view c.edition) (length out) slot (only (live_from slot) (entries_from s c))

-- the slot to go on from, 0 where no entry is left
abbrev pub next_slot : Option Slot → ℕ
next_slot None = 0
next_slot (Some k) = k.0

-- these were put
pub record PutOf (g : Recorded) (out : List ℕ) (r : Put) (after : List ℕ) : Type 0 where
  pub count : r.count ≡ g.count
  pub wrote : Wrote out 0 g.bytes after r.end
  pub next : next_slot r.next ≡ g.next
  pub ended : g.ended ≡ pick (is_some r.next) 18 0
  pub bare : g.count ≡ 0 → g.bytes ≡ []

abbrev pub PutAll : List ℕ → Cursor → ℕ → List ℕ → Put → List ℕ → Type 0
PutAll s c slot out r after = PutOf (wanted s c slot out) out r after

-- on the way: n records are in t up to `end`, those of the entries from d on are to come
module _ (s : List ℕ) (c : Cursor) (slot : ℕ) (out : List ℕ) where
  abbrev to_come : Cursor → ℕ → ℕ → Recorded
  to_come d end next = packed (edition_view c.edition) (length out - end) next (only (live_from slot) (entries_from s d))

  pub record Putting (t : List ℕ) (d : Cursor) (n end next : ℕ) : Type 0 where
    pub writes : ToWrite out 0 (wanted s c slot out).bytes t end (to_come d end next).bytes
    pub counts : n + (to_come d end next).count ≡ (wanted s c slot out).count
    pub goes : (to_come d end next).next ≡ (wanted s c slot out).next
    pub ends : (to_come d end next).ended ≡ (wanted s c slot out).ended
    pub inside : end ≤ length out
    pub few : n ≤ end

  pub putting-first : Putting out c 0 0 slot
  putting-first =
      let same : to_come c 0 slot ≡ wanted s c slot out = ap (λ (room : ℕ). packed (edition_view c.edition) room slot (only (live_from slot) (entries_from s c))) (sub-zero (length out)) in
      record {
        writes = (refl, ap (λ (g : Recorded). 0 + length g.bytes) same, ap (λ (g : Recorded). splice out 0 g.bytes) same);
        counts = zero-add _ ∙ ap (λ (g : Recorded). g.count) same;
        goes = ap (λ (g : Recorded). g.next) same;
        ends = ap (λ (g : Recorded). g.ended) same;
        inside = omega arith;
        few = omega arith;
      }

  module _ (t : List ℕ) (d : Cursor) (n end next : ℕ) (p : Putting t d n end next) where
    -- where it stops
    stops : (r : Put) (m k : ℕ) → to_come d end next ≡ stop_at m k → r.count ≡ n → r.end ≡ end → next_slot r.next ≡ k → pick (is_some r.next) 18 0 ≡ m → PutAll s c slot out r t
    unfolding stop_at
    stops r m k same i j l f = record {
      count = omega (arith, i, p.counts, ap (λ (g : Recorded). g.count) same);
      wrote = rw j (left-none _ _ _ _ _ _ (ap (λ (g : Recorded). g.bytes) same) p.writes);
      next = l ∙ sym (ap (λ (g : Recorded). g.next) same) ∙ p.goes;
      ended = sym p.ends ∙ ap (λ (g : Recorded). g.ended) same ∙ sym f;
      bare = packed-bare (edition_view c.edition) (length out) slot (only (live_from slot) (entries_from s c));
    }

    pub putting-none : (r : Put) → r.count ≡ n → r.end ≡ end → r.next ≡ None → only (live_from slot) (entries_from s d) ≡ [] → PutAll s c slot out r t
    putting-none r i j l e = stops r 0 0 (packed_none _ _ _ _ e) i j (ap next_slot l) (pick-false 18 0 (ap is_some l))

    module _ (x : Entry) (xs : List Entry) (here : only (live_from slot) (entries_from s d) ≡ x ∷ xs) where
      pub putting-full : (r : Put) → r.count ≡ n → r.end ≡ end → (k : Slot) → k.0 ≡ next → r.next ≡ Some k → leb (record_length x) (length out - end) ≡ false → PutAll s c slot out r t
      putting-full r i j k is l e = stops r 18 next (packed-full _ _ _ _ x xs here e) i j (ap next_slot l ∙ is) (pick_true 18 0 (ap is_some l))

    -- a record further
    module _ (x : Entry) (d' : Cursor) (here : only (live_from slot) (entries_from s d) ≡ x ∷ only (live_from slot) (entries_from s d')) (fits : leb (record_length x) (length out - end) ≡ true) where
      pub putting-room : end + record_length x ≤ length t
      putting-room = omega (arith, leb-true (record_length x) (length out - end) fits, p.inside, p.writes)

      pub putting-ahead : (u : List ℕ) (end' : ℕ) → Wrote t end (record_bytes (numbers_of (edition_view c.edition) x) x.path) u end' → end < end'
      putting-ahead u end' w = omega (arith, record-length (edition_view c.edition) x, w.1)

      pub putting-next : (u : List ℕ) (end' : ℕ) → length u ≡ length t → Wrote t end (record_bytes (numbers_of (edition_view c.edition) x) x.path) u end'
          → Putting u d' (n + 1) end' (x.slot + 1)
      unfolding with_record
      putting-next u end' long w =
          let bs : List ℕ = record_bytes (numbers_of (edition_view c.edition) x) x.path in
          let l : length bs ≡ record_length x = record-length (edition_view c.edition) x in
          let room = putting-room in
          let rest : length out - end - record_length x ≡ length out - end' = omega (arith, l, w.1) in
          let same : to_come d end next ≡ with_record bs (to_come d' end' (x.slot + 1)) =
          packed-next _ _ _ _ x _ here fits ∙ ap (λ (m : ℕ). with_record bs (packed (edition_view c.edition) m (x.slot + 1) (only (live_from slot) (entries_from s d')))) rest in
          record {
            writes = left-next _ _ _ _ _ _ _ _ bs _ (ap (λ (g : Recorded). g.bytes) same) (omega (arith, packed-fits (edition_view c.edition) (length out - end) next (only (live_from slot) (entries_from s d)), p.writes, p.inside)) long p.writes w;
            counts = omega (arith, p.counts, ap (λ (g : Recorded). g.count) same);
            goes = sym (ap (λ (g : Recorded). g.next) same) ∙ p.goes;
            ends = sym (ap (λ (g : Recorded). g.ended) same) ∙ p.ends;
            inside = omega (arith, l, w.1, room, p.writes);
            few = omega (arith, l, w.1, p.few);
          }

-- ---- what is answered
module _ (s : List ℕ) (g : Recorded) (out : List ℕ) (put : Put) (after : List ℕ) (p : PutOf g out put after) (r : Records) where
  done-is : r.refusal ≡ 0 → r.count ≡ put.count → r.length ≡ put.end → r.next ≡ next_slot put.next → records_view s after r ≡ records_done s out g
  done-is z i j k =
      records-outcome s after r _ z (rw (i, j, k, p.count, p.next, p.wrote.1 ∙ zero-add _))
      ∙ ap (λ (t : List ℕ). done (record { count = g.count; length = length g.bytes; next = g.next }) s t) p.wrote.0

  pub told-left : is_some put.next ≡ false → r.refusal ≡ 0 → r.count ≡ put.count → r.length ≡ put.end → r.next ≡ next_slot put.next → records_view s after r ≡ records_outcome s out g
  told-left f z i j k = done-is z i j k ∙ sym (records-left s out g (p.ended ∙ pick-false 18 0 f))

  pub told-some : (put.count ≡ 0 → ⊥) → r.refusal ≡ 0 → r.count ≡ put.count → r.length ≡ put.end → r.next ≡ next_slot put.next → records_view s after r ≡ records_outcome s out g
  told-some n z i j k = done-is z i j k ∙ sym (records-some s out g (let d : g.count ≡ 0 → ⊥ = λ e. n (p.count ∙ e) in omega (arith, d)))

-- not even the first record fits
module _ (s : List ℕ) (g : Recorded) (out : List ℕ) (put : Put) (after : List ℕ) (p : PutOf g out put after) where
  pub told_none : is_some put.next ≡ true → put.count ≡ 0 → denied no_records s after 18 ≡ records_outcome s out g
  told_none f z =
      let none : g.count ≡ 0 = sym p.count ∙ z in
      let same : after ≡ out = p.wrote.0 ∙ ap (splice out 0) (p.bare none) ∙ splice-nil out 0 in
      ap (λ (t : List ℕ). denied no_records s t 18) same ∙ sym (records-none s out g (p.ended ∙ pick_true 18 0 f) none)
