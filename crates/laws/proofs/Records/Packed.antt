-- A whole listing by the live entries: a record for each in slot order, as many as fit.
use Prim.Native.Nat.{ℕ, zero, suc, ◌+◌, ◌-◌, ◌≤◌, ◌<◌}
use mathlib.Core.Path.{◌≡◌, refl, sym, ap, ap₂, ◌∙◌}
use mathlib.Core.Bool.{Bool, true, false, ◌||◌, not}
use mathlib.Core.Option.{none, some}
use mathlib.Core.List.{List, [], ◌∷◌}
use native.Mathlib.Omega.{arith}
use native.Mathlib.Decide.{dec_le}
use lib.ListN.{length, take, drop, length-append, length-drop}
use lib.Seq.{take_at}
use lib.IntN.{ℤ}
use lib.Dec.{eqb, leb}
use borrow.Author.Tests.{le-leb, lt-leb, leb-true, eqb-true, ne_eqb}
use Rattle.rules.specs.Lists.{pick, all, only, eq_list, All}
use Rattle.rules.specs.Lists.Laws.{clash, and-true, pick_true, pick-false, first-chosen, first-unchosen}
use Rattle.rules.specs.Fields.{splice, stamp_bytes}
use Rattle.rules.specs.Fields.Laws.{length-le_bytes, splice-nil}
use Rattle.rules.specs.Editions.{Edition}
use Rattle.rules.specs.Names.{text_good, parts, part_good, path_good}
use Rattle.rules.specs.Index.{Entry, live_type, run_type}
use Rattle.rules.specs.Paths.{is_live, live_from, next_live}
use Rattle.rules.specs.Paths.Laws.{live-cases, from-live, from-run}
use Rattle.rules.specs.Refusals.{Verdict, need, refused, accepted, Volume, entries, judge}
use Rattle.rules.specs.Refusals.Laws.{judge-opens}
use Rattle.rules.specs.Outcome.{Outcome, done, conclude, EntryNumbers, ListedNumbers, no_entry, none_listed, numbers_of}
use Rattle.rules.specs.Outcome.Laws.{denied}
use Rattle.rules.specs.Reading.Laws.{list-refused, list-none, list-found, path-short, path-done}
use Rattle.rules.specs.Records.{number_bytes, numbers_bytes, record_bytes, record_of, Recorded, stop_at, with_record, record_step, records_from, RecordSteps, RecordsNumbers, no_records, records_outcome, list_all_of}
use Rattle.laws.proofs.Lists.Every.{all-only, all-chosen}
use Rattle.laws.proofs.Index.Entries.{every-entry, run-path, unusable-kind}
use Rattle.laws.proofs.Index.Rising.{Rising, entries-rise}
use Rattle.laws.proofs.Records.Rising.{live-next}

-- ---- a record's length
abbrev pub record_length : Entry → ℕ
record_length e = number_bytes + length e.path

pub stamp-length : (z : ℤ) → length (stamp_bytes z) ≡ 8
unfolding stamp_bytes
stamp-length z = length-le_bytes 8 _

numbers-length : (e : EntryNumbers) → length (numbers_bytes e) ≡ 48
unfolding numbers_bytes stamp_bytes
numbers-length e = simp (length-append, length-le_bytes)

pub record-length : (ed : Edition) (e : Entry) → length (record_bytes (numbers_of ed e) e.path) ≡ record_length e
unfolding record_bytes
record-length ed e = simp (length-append, length-le_bytes, numbers-length) (omega arith)

-- whether it fits, as it is asked
pub fits-no : (n room : ℕ) → room < number_bytes → false ≡ leb (number_bytes + n) room
fits-no n room h = sym (lt-leb (number_bytes + n) room (omega arith))

pub fits-behind : (n room : ℕ) → number_bytes ≤ room → leb n (room - number_bytes) ≡ leb (number_bytes + n) room
fits-behind n room h = by (dec_le n (room - number_bytes))
  where
    by : Dec (n ≤ room - number_bytes) → leb n (room - number_bytes) ≡ leb (number_bytes + n) room
    by (yes l) = le-leb n (room - number_bytes) l ∙ sym (le-leb (number_bytes + n) room (omega arith))
    by (no l) = lt-leb n (room - number_bytes) (omega arith) ∙ sym (lt-leb (number_bytes + n) room (omega arith))

-- ---- the records of entries in `room` bytes; where one does not fit, the slot to go on from is k, behind the entry before it
unfoldable pub packed : Edition → ℕ → ℕ → List Entry → Recorded
packed ed room k [] = stop_at 0 0
packed ed room k (e ∷ es) =
    pick (leb (record_length e) room)
    (with_record (record_bytes (numbers_of ed e) e.path) (packed ed (room - record_length e) (e.slot + 1) es))
    (stop_at 18 k)

-- the first that is listed passed the test
chosen-from : (k : ℕ) (es : List Entry) (x : Entry) (xs : List Entry) → only (live_from k) es ≡ x ∷ xs → live_from k x ≡ true
chosen-from k es x xs e = (rw e at (all-chosen (live_from k) es)).0

pub chosen-run : (k : ℕ) (es : List Entry) (x : Entry) (xs : List Entry) → only (live_from k) es ≡ x ∷ xs → run_type x.kind ≡ true
chosen-run k es x xs e = from-run k x (chosen-from k es x xs e)

-- list's path is at the start of what it was lent
front : (out path : List ℕ) → take (length path) (splice out 0 path) ≡ path
unfolding splice
front out path = take_at path _ (length path) refl

module _ (s : List ℕ) (v : Volume) (opens : judge s ≡ accepted v) (named : All (λ e. is_live e ≡ true → 1 ≤ length e.path) (entries v)) (rising : Rising 1 (entries v)) where
  abbrev ed : Edition
  ed = v.geometry.edition

  -- what list answers at a slot, by the live entries from it on
  none-next : (k : ℕ) → only (live_from k) (entries v) ≡ [] → next_live k (entries v) ≡ none
  unfolding next_live
  none-next k e = first-unchosen (live_from k) (entries v) e

  some_next : (k : ℕ) (x : Entry) (xs : List Entry) → only (live_from k) (entries v) ≡ x ∷ xs → next_live k (entries v) ≡ some x
  unfolding next_live
  some_next k x xs e = first-chosen (live_from k) (entries v) x xs e

  -- an entry that is listed has a path, and its record is list's answer
  module _ (k : ℕ) (x : Entry) (xs : List Entry) (e : only (live_from k) (entries v) ≡ x ∷ xs) where
    live_here : is_live x ≡ true
    live_here = from-live k x (chosen-from k (entries v) x xs e)

    kind-here : eqb x.kind 0 ≡ false
    unfolding is_live
    kind-here = live-cases (λ t. eqb t 0 ≡ false) refl refl x.kind live_here

    path-here : 1 ≤ length x.path
    path-here = (rw e at (all-only (λ y. is_live y ≡ true → 1 ≤ length y.path) (live_from k) (entries v) named)).0 live_here

    answer : List ℕ → Outcome ListedNumbers
    answer out = done (record { found = numbers_of ed x; path_length = length x.path }) s (splice out 0 x.path)

    record-here : (out : List ℕ) → record_of (answer out) ≡ record_bytes (numbers_of ed x) x.path
    unfolding record_of done answer
    record-here out = ap (record_bytes (numbers_of ed x)) (front out x.path)

    module _ (n : ℕ) (more : (rest : List ℕ) → length rest < n → records_from n s (x.slot + 1) rest ≡ packed ed (length rest) (x.slot + 1) xs)
        (out : List ℕ) (h : length out < suc n) where
      abbrev lent : List ℕ
      lent = drop number_bytes out

      fits-here : length x.path ≤ length lent → records_from (suc n) s k out ≡ packed ed (length out) k (x ∷ xs)
      unfolding records_from packed record_step done pick numbers_of answer
      fits-here p =
          let room : record_length x ≤ length out = omega (arith, p, path-here, length-drop number_bytes out) in
          let left : length (drop (record_length x) out) ≡ length out - record_length x = length-drop (record_length x) out in
          rw (list-found s v opens k x lent (some_next k x xs e) ed refl ∙ path-done ed s x lent p, kind-here, le-leb (record_length x) (length out) room)
          (ap₂ with_record (record-here lent)
          (ap (λ (m : ℕ). records_from n s (x.slot + 1) (drop m out)) (ap length (record-here lent) ∙ record-length ed x)
          ∙ more (drop (record_length x) out) (omega (arith, left, room)) ∙ ap (λ (m : ℕ). packed ed m (x.slot + 1) xs) left))

      short-here : length lent < length x.path → records_from (suc n) s k out ≡ packed ed (length out) k (x ∷ xs)
      unfolding records_from packed record_step pick
      short-here p =
          rw (list-found s v opens k x lent (some_next k x xs e) ed refl ∙ path-short ed s x lent p, lt-leb (record_length x) (length out) (omega (arith, p, path-here, length-drop number_bytes out)))

  pub records-packed : (steps k : ℕ) (out : List ℕ) → length out < steps → (live : List Entry) → only (live_from k) (entries v) ≡ live
      → records_from steps s k out ≡ packed ed (length out) k live
  unfolding records_from packed record_step done none_listed no_entry pick
  records-packed zero k out h live e = absurd (omega arith)
  records-packed (suc n) k out h [] e =
      rw (list-none s v opens k (drop number_bytes out) (none-next k e))
  records-packed (suc n) k out h (x ∷ xs) e =
      by (λ rest l. records-packed n (x.slot + 1) rest l xs (live-next 1 k (entries v) x xs rising e).0) (dec_le (length x.path) (length (drop number_bytes out)))
    where
      by : ((rest : List ℕ) → length rest < n → records_from n s (x.slot + 1) rest ≡ packed ed (length rest) (x.slot + 1) xs)
          → Dec (length x.path ≤ length (drop number_bytes out)) → records_from (suc n) s k out ≡ packed ed (length out) k (x ∷ xs)
      by more (yes p) = fits-here k x xs e n more out h p
      by more (no p) = short-here k x xs e n more out h (omega arith)

-- ---- of every image
good-path : (p : List ℕ) → path_good p ≡ true → 1 ≤ length p
unfolding path_good parts part_good all eq_list
good-path [] h = clash (sym (and-true (text_good []) (all part_good (parts [])) h).1)
good-path (b ∷ bs) h = omega arith

-- a live path has a byte at least
live-named : (s : List ℕ) (v : Volume) → judge s ≡ accepted v → All (λ e. is_live e ≡ true → 1 ≤ length e.path) (entries v)
unfolding is_live live_type
live-named s v opens =
    rw (judge-opens s v opens).items-are
    (every-entry (λ e. is_live e ≡ true → 1 ≤ length e.path) s v.geometry (λ left k a e r h. good-path e.path (run-path v.geometry.edition left k a e r))
    (λ k a e u h. clash (sym h ∙ ap live_type (unusable-kind v.geometry.edition k a e u))))

live-rising : (s : List ℕ) (v : Volume) → judge s ≡ accepted v → Rising 1 (entries v)
live-rising s v opens = rw (judge-opens s v opens).items-are (entries-rise s v.geometry)

module _ (s : List ℕ) (k : ℕ) (out : List ℕ) where
  pub list-all-opened : (v : Volume) → judge s ≡ accepted v
      → list_all_of s k out ≡ records_outcome s out (packed v.geometry.edition (length out) k (only (live_from k) (entries v)))
  unfolding list_all_of
  list-all-opened v opens =
      ap (records_outcome s out) (records-packed s v opens (live-named s v opens) (live-rising s v opens) (suc (length out)) k out (omega arith) (only (live_from k) (entries v)) refl)

  refused-by : (n steps : ℕ) → judge s ≡ refused n → (t : Bool) → eqb n 0 ≡ t → records_from (suc steps) s k out ≡ pick t (stop_at 0 0) (stop_at n k)
  unfolding records_from record_step none_listed no_entry pick
  refused-by n steps bad true e = rw (list-refused s n bad k (drop number_bytes out), e)
  refused-by n steps bad false e = rw (list-refused s n bad k (drop number_bytes out), e)

  pub list-all-refused : (n : ℕ) → judge s ≡ refused n → list_all_of s k out ≡ denied no_records s out n
  unfolding list_all_of records_outcome need conclude done stop_at pick no_records
  list-all-refused n bad = by (eqb n 0) refl
    where
      by : (t : Bool) → eqb n 0 ≡ t → records_outcome s out (records_from (suc (length out)) s k out) ≡ denied no_records s out n
      by true e = rw (refused-by n (length out) bad true e, eqb-true n 0 e, splice-nil)
      by false e = rw (refused-by n (length out) bad false e, e)

-- more steps change nothing
steps-by : (s : List ℕ) (k : ℕ) (out : List ℕ) (m : ℕ) (o : Verdict Volume) → judge s ≡ o → records_from (suc (length out + m)) s k out ≡ records_from (suc (length out)) s k out
steps-by s k out m (refused n) bad = refused-by s k out n (length out + m) bad (eqb n 0) refl ∙ sym (refused-by s k out n (length out) bad (eqb n 0) refl)
steps-by s k out m (accepted v) opens =
    let live = only (live_from k) (entries v) in
    records-packed s v opens (live-named s v opens) (live-rising s v opens) (suc (length out + m)) k out (omega arith) live refl
    ∙ sym (records-packed s v opens (live-named s v opens) (live-rising s v opens) (suc (length out)) k out (omega arith) live refl)

pub record-steps : RecordSteps
record-steps s slot out steps h =
    let e : steps ≡ suc (length out + (steps - suc (length out))) = omega arith in
    ap (λ (n : ℕ). records_from n s slot out) e ∙ steps-by s slot out (steps - suc (length out)) (judge s) refl

-- ---- one entry at a time
module _ (ed : Edition) (room k : ℕ) (es : List Entry) where
  pub packed_none : es ≡ [] → packed ed room k es ≡ stop_at 0 0
  unfolding packed
  packed_none h = rw h

  module _ (x : Entry) (xs : List Entry) (here : es ≡ x ∷ xs) where
    pub packed-full : leb (record_length x) room ≡ false → packed ed room k es ≡ stop_at 18 k
    unfolding packed
    packed-full t = rw here (pick-false _ _ t)

    pub packed-next : leb (record_length x) room ≡ true
        → packed ed room k es ≡ with_record (record_bytes (numbers_of ed x) x.path) (packed ed (room - record_length x) (x.slot + 1) xs)
    unfolding packed
    packed-next t = rw here (pick_true _ _ t)

-- they fit
pub packed-fits : (ed : Edition) (room k : ℕ) (es : List Entry) → length (packed ed room k es).bytes ≤ room
unfolding packed stop_at with_record pick
packed-fits ed room k [] = omega arith
packed-fits ed room k (e ∷ es) = by (leb (record_length e) room) refl (packed-fits ed (room - record_length e) (e.slot + 1) es)
  where
    bs : List ℕ
    bs = record_bytes (numbers_of ed e) e.path

    more : Recorded
    more = packed ed (room - record_length e) (e.slot + 1) es

    by : (t : Bool) → leb (record_length e) room ≡ t → length more.bytes ≤ room - record_length e → length (pick t (with_record bs more) (stop_at 18 k)).bytes ≤ room
    by true f h = omega (arith, leb-true (record_length e) room f, record-length ed e, length-append bs more.bytes)
    by false f h = omega arith

-- no record, no bytes
pub packed-bare : (ed : Edition) (room k : ℕ) (es : List Entry) → (packed ed room k es).count ≡ 0 → (packed ed room k es).bytes ≡ []
unfolding packed stop_at with_record pick
packed-bare ed room k [] h = refl
packed-bare ed room k (e ∷ es) h = by (leb (record_length e) room) h
  where
    more : Recorded
    more = with_record (record_bytes (numbers_of ed e) e.path) (packed ed (room - record_length e) (e.slot + 1) es)

    by : (t : Bool) → (pick t more (stop_at 18 k)).count ≡ 0 → (pick t more (stop_at 18 k)).bytes ≡ []
    by true z = absurd (omega arith)
    by false z = refl

-- ---- what comes of the records
module _ (s out : List ℕ) (g : Recorded) where
  pub records-none : g.ended ≡ 18 → g.count ≡ 0 → records_outcome s out g ≡ denied no_records s out 18
  unfolding records_outcome need conclude
  records-none e z = rw (e, z)

  abbrev pub records_done : Outcome RecordsNumbers
  records_done = done (record { count = g.count; length = length g.bytes; next = g.next }) s (splice out 0 g.bytes)

  pub records-left : g.ended ≡ 0 → records_outcome s out g ≡ records_done
  unfolding records_outcome need conclude
  records-left e = rw e

  pub records-some : 0 < g.count → records_outcome s out g ≡ records_done
  unfolding records_outcome need conclude
  records-some h = by (eqb g.ended 0)
    where
      some : eqb g.count 0 ≡ false
      some = ne_eqb g.count 0 (λ e. omega arith)

      by : (t : Bool) → conclude no_records s out (need (t || not (eqb g.count 0)) g.ended (accepted records_done)) ≡ records_done
      by true = refl
      by false = rw some
