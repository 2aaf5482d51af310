-- Another type and stamp written to a run's first slot: the rest of its entry is as it was, and the old ones written again give the old image.
use Prim.Native.Nat.{ℕ, ◌+◌, ◌-◌, ◌*◌, ◌≤◌, ◌<◌}
use mathlib.Core.Path.{◌≡◌, sym, ap, ◌∙◌}
use mathlib.Core.Logic.{◌⊎◌, inl, inr}
use mathlib.Core.Bool.{true}
use mathlib.Core.List.{List, [], ◌∷◌}
use native.Mathlib.Omega.{arith}
use native.Mathlib.Decide.{dec_lt, ℕ_discrete}
use lib.ListN.{length, get_or, take, drop}
use lib.Seq.{ext_get_or}
use lib.IntN.{ℤ}
use Rattle.rules.specs.Lists.{pick}
use Rattle.rules.specs.Lists.Laws.{drop-take}
use Rattle.rules.specs.Fields.{Bytes, byte_at, le, le_bytes, splice, signed_of, stamp_in, stamp_bytes}
use Rattle.rules.specs.Fields.Laws.{length-splice, get_or-splice-before, get_or-splice-in, get_or-splice-after, le-splice-in, le-splice-after, le-lt, le_bytes-le}
use Rattle.rules.specs.Fields.Signed.{bits-signed}
use Rattle.rules.specs.Editions.{Edition, keeps_deleted}
use Rattle.rules.specs.Editions.Laws.{sum-short, keeps-sum}
use Rattle.rules.specs.SuperBlock.Laws.{stored_stamp}
use Rattle.rules.specs.Index.{Entry, entry, item_at, entry_at, run_slots, run_field, name_field, name_at, file_field, run_type, file_type, slot_bytes, count_at, stamp_at, start_at, end_at, length_at, retyped}
use Rattle.rules.specs.Index.Laws.{name-at-bounds, name-at-behind, keeps-fresh}
use Rattle.rules.specs.Index.Items.{item-run, fits_whole}
use Rattle.laws.proofs.Lists.Spans.{SameBut, but-splice, but-wider, but-then, but-drop, drop-splice-part}
use Rattle.laws.proofs.Index.Entries.{retyped_entry, entry-run, run-kind}
use Rattle.laws.proofs.Index.Runs.{length-stamp}

-- ---- the write: it ends with the stamp
module _ (ed : Edition) (s : List ℕ) (at kind : ℕ) (stamp : ℤ) (room : at + stamp_at ed + 8 ≤ length s) where
  typed-length : length (splice s at (kind ∷ [])) ≡ length s
  typed-length = length-splice s at (kind ∷ []) (omega arith)

  pub retyped-written : SameBut at (at + stamp_at ed + 8) s (retyped ed s at kind stamp)
  unfolding retyped
  retyped-written =
      but-then (but-wider (but-splice s at (kind ∷ []) (omega arith)) at (at + stamp_at ed + 8) (omega arith) (omega arith))
      (but-wider (but-splice (splice s at (kind ∷ [])) (at + stamp_at ed) (stamp_bytes stamp) (omega (arith, typed-length, length-stamp stamp))) at (at + stamp_at ed + 8) (omega arith) (omega (arith, length-stamp stamp)))

-- in a part it is that in the whole, further on
pub retyped-part : (ed : Edition) (n : ℕ) (s : List ℕ) (at kind : ℕ) (stamp : ℤ) → n + at + stamp_at ed + 8 ≤ length s → drop n (retyped ed s (n + at) kind stamp) ≡ retyped ed (drop n s) at kind stamp
unfolding retyped
retyped-part ed n s at kind stamp h =
    let t : List ℕ = splice s (n + at) (kind ∷ []) in
    let p : n + at + stamp_at ed ≡ n + (at + stamp_at ed) = omega arith in
    ap (λ (j : ℕ). drop n (splice t j (stamp_bytes stamp))) p
    ∙ drop-splice-part n t (at + stamp_at ed) (stamp_bytes stamp) (omega (arith, typed-length ed s (n + at) kind stamp h))
    ∙ ap (λ (xs : List ℕ). splice xs (at + stamp_at ed) (stamp_bytes stamp)) (drop-splice-part n s at (kind ∷ []) (omega arith))

-- ---- its bytes, one by one
module _ (ed : Edition) (s : List ℕ) (at kind : ℕ) (stamp : ℤ) (room : at + stamp_at ed + 8 ≤ length s) where
  abbrev typed_at : List ℕ
  typed_at = splice s at (kind ∷ [])

  stamp-room : at + stamp_at ed + length (stamp_bytes stamp) ≤ length typed_at
  stamp-room = omega (arith, typed-length ed s at kind stamp room, length-stamp stamp)

  byte-type : get_or (retyped ed s at kind stamp) at 0 ≡ kind
  unfolding retyped
  byte-type =
      get_or-splice-before typed_at (at + stamp_at ed) (stamp_bytes stamp) stamp-room at (omega arith)
      ∙ sym (ap (λ (i : ℕ). get_or typed_at i 0) (omega arith))
      ∙ get_or-splice-in s at (kind ∷ []) (omega arith) 0 (omega arith)

  byte-stamp : (j : ℕ) → j < 8 → get_or (retyped ed s at kind stamp) (at + stamp_at ed + j) 0 ≡ get_or (stamp_bytes stamp) j 0
  unfolding retyped
  byte-stamp j h = get_or-splice-in typed_at (at + stamp_at ed) (stamp_bytes stamp) stamp-room j (omega (arith, length-stamp stamp))

  byte_typed : (i : ℕ) → (i ≡ at → ⊥) → get_or typed_at i 0 ≡ get_or s i 0
  byte_typed i n = go (dec_lt i at)
    where
      go : Dec (i < at) → get_or typed_at i 0 ≡ get_or s i 0
      go (yes l) = get_or-splice-before s at (kind ∷ []) (omega arith) i l
      go (no l) = get_or-splice-after s at (kind ∷ []) (omega arith) i (omega (arith, n))

  byte-else : (i : ℕ) → (i ≡ at → ⊥) → (i < at + stamp_at ed) ⊎ (at + stamp_at ed + 8 ≤ i) → get_or (retyped ed s at kind stamp) i 0 ≡ get_or s i 0
  unfolding retyped
  byte-else i n (inl l) = get_or-splice-before typed_at (at + stamp_at ed) (stamp_bytes stamp) stamp-room i l ∙ byte_typed i n
  byte-else i n (inr l) = get_or-splice-after typed_at (at + stamp_at ed) (stamp_bytes stamp) stamp-room i (omega (arith, length-stamp stamp)) ∙ byte_typed i n

-- the type and the stamp that stood there, written over others
module _ (ed : Edition) (s : List ℕ) (at : ℕ) (bytes : Bytes s) (room : at + stamp_at ed + 8 ≤ length s) where
  old-stamp : (j : ℕ) → j < 8 → get_or (stamp_bytes (stamp_in s (at + stamp_at ed))) j 0 ≡ get_or s (at + stamp_at ed + j) 0
  unfolding stamp_bytes stamp_in
  old-stamp j h =
      ap (λ (n : ℕ). get_or (le_bytes 8 n) j 0) (bits-signed (le 8 s (at + stamp_at ed)) (le-lt 8 s (at + stamp_at ed) bytes))
      ∙ le_bytes-le 8 s (at + stamp_at ed) bytes j h

  pub retyped-back : (kind : ℕ) (stamp : ℤ) → retyped ed (retyped ed s at kind stamp) at (get_or s at 0) (stamp_in s (at + stamp_at ed)) ≡ s
  retyped-back kind stamp = ext_get_or 0 again s (first-long ∙ once-long) each
    where
      once : List ℕ
      once = retyped ed s at kind stamp

      old : ℤ
      old = stamp_in s (at + stamp_at ed)

      again : List ℕ
      again = retyped ed once at (get_or s at 0) old

      once-long : length once ≡ length s
      once-long = (retyped-written ed s at kind stamp room).long

      once-room : at + stamp_at ed + 8 ≤ length once
      once-room = omega (arith, once-long)

      first-long : length again ≡ length once
      first-long = (retyped-written ed once at (get_or s at 0) old once-room).long

      each : (i : ℕ) → i < length again → get_or again i 0 ≡ get_or s i 0
      each i l = go (ℕ_discrete i at) (dec_lt i (at + stamp_at ed)) (dec_lt i (at + stamp_at ed + 8))
        where
          else : (i ≡ at → ⊥) → (i < at + stamp_at ed) ⊎ (at + stamp_at ed + 8 ≤ i) → get_or again i 0 ≡ get_or s i 0
          else n o = byte-else ed once at (get_or s at 0) old once-room i n o ∙ byte-else ed s at kind stamp room i n o

          go : Dec (i ≡ at) → Dec (i < at + stamp_at ed) → Dec (i < at + stamp_at ed + 8) → get_or again i 0 ≡ get_or s i 0
          go (yes e) x y = ap (λ (k : ℕ). get_or again k 0) e ∙ byte-type ed once at (get_or s at 0) old once-room ∙ sym (ap (λ (k : ℕ). get_or s k 0) e)
          go (no n) (yes x) y = else n (inl x)
          go (no n) (no x) (no y) = else n (inr (omega arith))
          go (no n) (no x) (yes y) =
              let j : ℕ = i - (at + stamp_at ed) in
              let e : i ≡ at + stamp_at ed + j = omega arith in
              let h : j < 8 = omega arith in
              ap (λ (k : ℕ). get_or again k 0) e
              ∙ byte-stamp ed once at (get_or s at 0) old once-room j h
              ∙ old-stamp j h
              ∙ sym (ap (λ (k : ℕ). get_or s k 0) e)

-- ---- the bytes of the run, read field by field
module _ (ed : Edition) (a : List ℕ) (kind : ℕ) (stamp : ℤ) (room : slot_bytes ≤ length a) where
  typed : List ℕ
  typed = splice a 0 (kind ∷ [])

  length-typed : length typed ≡ length a
  unfolding typed
  length-typed = length-splice a 0 (kind ∷ []) (omega arith)

  fits : stamp_at ed + length (stamp_bytes stamp) ≤ length typed
  fits = omega (arith, length-stamp stamp, length-typed, sum-short ed)

  retyped-start : retyped ed a 0 kind stamp ≡ splice typed (stamp_at ed) (stamp_bytes stamp)
  unfolding retyped typed
  retyped-start = ap (λ (n : ℕ). splice (splice a 0 (kind ∷ [])) n (stamp_bytes stamp)) (omega arith)

  type-back : byte_at (retyped ed a 0 kind stamp) 0 ≡ kind
  unfolding byte_at typed
  type-back = rw retyped-start (get_or-splice-before typed (stamp_at ed) (stamp_bytes stamp) fits 0 (omega arith) ∙ get_or-splice-in a 0 (kind ∷ []) (omega arith) 0 (omega arith))

  slots-back : run_slots ed (retyped ed a 0 kind stamp) ≡ run_slots ed a
  unfolding run_slots byte_at typed
  slots-back =
      rw retyped-start
      (ap (λ (c : ℕ). 1 + c)
      (get_or-splice-before typed (stamp_at ed) (stamp_bytes stamp) fits (count_at ed) (omega arith) ∙ get_or-splice-after a 0 (kind ∷ []) (omega arith) (count_at ed) (omega arith)))

  stamp-back : stamp_in (retyped ed a 0 kind stamp) (stamp_at ed) ≡ stored_stamp stamp
  unfolding stamp_in stored_stamp
  stamp-back =
      let e : le (length (stamp_bytes stamp)) (splice typed (stamp_at ed) (stamp_bytes stamp)) (stamp_at ed) ≡ le (length (stamp_bytes stamp)) (stamp_bytes stamp) 0 =
      le-splice-in typed (stamp_at ed) (stamp_bytes stamp) fits in
      rw retyped-start (ap signed_of (rw length-stamp at e))

  module _ (same : file_type kind ≡ file_type (byte_at a 0)) where
    field_back : (at : ℕ) → stamp_at ed + 8 ≤ at → file_field (retyped ed a 0 kind stamp) at ≡ file_field a at
    unfolding file_field typed
    field_back at h =
        rw (type-back, same, retyped-start)
        (ap (λ (n : ℕ). pick (file_type (byte_at a 0)) n 0)
        (le-splice-after typed (stamp_at ed) (stamp_bytes stamp) fits 8 at (omega (arith, length-stamp stamp))
        ∙ le-splice-after a 0 (kind ∷ []) (omega arith) 8 at (omega arith)))

    name-at-same : name_at ed kind ≡ name_at ed (byte_at a 0)
    unfolding name_at
    name-at-same = rw same

    pub name_back : name_field ed (retyped ed a 0 kind stamp) ≡ name_field ed a
    unfolding name_field run_field run_slots
    name_back =
        let n : ℕ = name_at ed (byte_at a 0) in
        let m : ℕ = slot_bytes * run_slots ed a in
        let b = name-at-bounds ed (byte_at a 0) in
        let c = name-at-behind ed (byte_at a 0) in
        let e : m ≡ n + (m - n) = omega arith in
        rw (type-back, slots-back, name-at-same)
        (ap (λ (j : ℕ). drop n (take j (retyped ed a 0 kind stamp))) e
        ∙ drop-take n (m - n) (retyped ed a 0 kind stamp)
        ∙ ap (take (m - n)) (but-drop (retyped-written ed a 0 kind stamp (omega (arith, sum-short ed))) n (omega arith))
        ∙ sym (drop-take n (m - n) a)
        ∙ sym (ap (λ (j : ℕ). drop n (take j a)) e))

    entry-back : (k : ℕ) → entry_at ed k (retyped ed a 0 kind stamp) ≡ retyped_entry kind (stored_stamp stamp) (entry_at ed k a)
    unfolding entry_at retyped_entry
    entry-back k = rw (type-back, slots-back, stamp-back, field_back (start_at ed) (omega arith), field_back (end_at ed) (omega arith), field_back (length_at ed) (omega arith), name_back)

-- a run of another type that is a file's where the old one is: the same entry, of that type and with the new stamp. Only where deleted entries are kept: elsewhere
-- the sum would have to follow.
pub item-retyped : (ed : Edition) → keeps_deleted ed ≡ true → (left k : ℕ) (a : List ℕ) (e : Entry) (kind : ℕ) (stamp : ℤ) → 0 < left → slot_bytes * left ≤ length a → item_at ed left k a ≡ entry e
    → run_type e.kind ≡ true → run_type kind ≡ true → file_type kind ≡ file_type e.kind
    → item_at ed left k (retyped ed a 0 kind stamp) ≡ entry (retyped_entry kind (stored_stamp stamp) e)
item-retyped ed keeps left k a e kind stamp more room q old new alike =
    let h = entry-run ed left k a e q old in
    let l : slot_bytes ≤ length a = omega arith in
    let same : file_type kind ≡ file_type (byte_at a 0) = alike ∙ ap file_type (run-kind ed left k a e h) in
    item-run ed left k (retyped ed a 0 kind stamp) (keeps-fresh ed _ keeps) (rw (type-back ed a kind stamp l) new)
    (fits_whole ed left (retyped ed a 0 kind stamp) (rw (slots-back ed a kind stamp l) h.within) (keeps-sum ed _ keeps))
    (rw (name_back ed a kind stamp l same) h.named)
    ∙ ap entry (entry-back ed a kind stamp l same k ∙ ap (retyped_entry kind (stored_stamp stamp)) (sym h.made))
