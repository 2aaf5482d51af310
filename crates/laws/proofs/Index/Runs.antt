-- A run as it is stored is read back as its entry.
use Prim.Native.Nat.{ℕ, suc, ◌+◌, ◌-◌, ◌*◌, ◌^◌, ◌≤◌, ◌<◌}
use mathlib.Core.Path.{◌≡◌, refl, sym, ap, ◌∙◌}
use mathlib.Core.Bool.{Bool, true, false}
use mathlib.Core.List.{List, [], ◌∷◌, ◌++◌, append_assoc, append-nil}
use native.Mathlib.Omega.{arith}
use lib.ListN.{length, replicate, length-append}
use lib.Seq.{drop_at, take_all}
use lib.Dec.{eqb}
use lib.IntN.{ℤ}
use Rattle.rules.specs.Lists.{pick, padded}
use Rattle.rules.specs.Lists.Laws.{pick_true, pick-false, and_both, or_right, length-padded}
use Rattle.rules.specs.Fields.{byte_at, le, le_bytes, stamp_in, stamp_bytes, up_to_zero, has_zero}
use Rattle.rules.specs.Fields.Laws.{length-le_bytes, byte_le, le-1, le-append-before, le-append-after, le-between}
use Rattle.rules.specs.Editions.{Edition, sum_length, sum_good, sum_of, past_end, stored_end}
use Rattle.rules.specs.Editions.Laws.{length-sum, past-stored, past-none, stored_low}
use Rattle.rules.specs.SuperBlock.Laws.{stored_stamp}
use Rattle.rules.specs.Names.{path_good}
use Rattle.rules.specs.Names.Laws.{path-up-to-zero}
use Rattle.rules.specs.Index.{Entry, entry, item_at, entry_at, entry_bytes, region_bytes, stale_type, run_slots, run_field, name_field, name_at, name_good, file_field, run_type, file_type, run_bytes, continuing, slot_bytes, stamp_at, start_at, end_at, length_at, count_at}
use Rattle.rules.specs.Index.Laws.{entry-sum}
use Rattle.rules.specs.Index.Walk.{walk_all, walk_none, walk-entry}
use Rattle.rules.specs.Index.Items.{item-run, fits_whole}
use Rattle.laws.proofs.Index.Entries.{retyped_entry}

-- ---- names
pub zero-behind : (p zs : List ℕ) → has_zero (p ++ (0 ∷ zs)) ≡ true
unfolding has_zero
zero-behind [] zs = refl
zero-behind (b ∷ p) zs = or_right (eqb b 0) _ (zero-behind p zs)

pub path-named : (p zs : List ℕ) → path_good p ≡ true → name_good (p ++ (0 ∷ zs)) ≡ true
unfolding name_good
path-named p zs e =
    and_both (has_zero (p ++ (0 ∷ zs))) (path_good (up_to_zero (p ++ (0 ∷ zs)))) (zero-behind p zs) (ap path_good (path-up-to-zero p e zs) ∙ e)

-- ---- an entry that a run of the fewest slots can hold
pub record Storable (ed : Edition) (e : Entry) : Type 0 where
  pub kinds : run_type e.kind ≡ true
  pub fresh : stale_type ed e.kind ≡ false
  pub good : path_good e.path ≡ true
  pub fewest : e.slots ≡ 1 + continuing ed e.kind (length e.path)
  pub starts : e.start < 2 ^ 64
  pub ends : e.end < 2 ^ 64
  pub past : e.end ≡ 1 → ⊥  -- block 0 is reserved
  pub lengths : e.length < 2 ^ 64
  pub bare : file_type e.kind ≡ false → (e.start ≡ 0) × (e.end ≡ 0) × (e.length ≡ 0)

-- what is read back: a stamp of more than 64 bits keeps the lowest
unfoldable pub stored : Entry → Entry
stored e = retyped_entry e.kind (stored_stamp e.stamp) e

pub length-stamp : (z : ℤ) → length (stamp_bytes z) ≡ 8
unfolding stamp_bytes
length-stamp z = length-le_bytes 8 _

-- a name stands behind three fields of 8 bytes, or none
name-behind : (t : Bool) (xs : List ℕ) → length xs ≡ 24 → 10 + length (pick t xs []) ≡ pick t 34 10
unfolding pick
name-behind true xs l = omega arith
name-behind false xs l = refl

module _ (ed : Edition) (e : Entry) where
  -- a file's three fields
  fields : List ℕ
  fields = pick (file_type e.kind) (region_bytes ed e) []

  -- count and stamp
  counted : List ℕ
  counted = (e.slots - 1) ∷ stamp_bytes e.stamp

  -- type and sum
  lead : List ℕ
  lead = e.kind ∷ sum_of ed (e.kind ∷ (counted ++ (fields ++ e.path)))

  -- type, sum, count, stamp
  common : List ℕ
  common = lead ++ counted

  padding : ℕ
  padding = slot_bytes * e.slots - length ((common ++ fields) ++ e.path)

  -- the name and the zeros behind it
  tail : List ℕ
  tail = e.path ++ replicate padding 0

  length-lead : length lead ≡ sum_length ed + 1
  unfolding lead
  length-lead = omega (arith, length-sum ed (e.kind ∷ (counted ++ (fields ++ e.path))))

  length-common : length common ≡ sum_length ed + 10
  unfolding common counted
  length-common = length-append lead counted ∙ omega (arith, length-lead, length-stamp e.stamp)

  length_front : length (common ++ fields) ≡ name_at ed e.kind
  unfolding fields name_at region_bytes
  length_front =
      let l : length (le_bytes 8 e.start ++ (le_bytes 8 (stored_end ed e.end) ++ le_bytes 8 e.length)) ≡ 24 = simp (length-append, length-le_bytes) in
      let h : 10 + length fields ≡ pick (file_type e.kind) 34 10 = name-behind (file_type e.kind) _ l in
      length-append common fields ∙ omega (arith, length-common)

  run-padded : run_bytes ed e ≡ padded ((common ++ fields) ++ e.path) (slot_bytes * e.slots)
  unfolding run_bytes entry_bytes common counted lead fields
  run-padded =
      ap (λ (xs : List ℕ). padded xs (slot_bytes * e.slots)) (sym (append_assoc common fields e.path ∙ append_assoc lead counted (fields ++ e.path)))

  run-front : run_bytes ed e ≡ (common ++ fields) ++ tail
  unfolding padded padding tail
  run-front = run-padded ∙ append_assoc (common ++ fields) e.path (replicate padding 0)

  run-parts : run_bytes ed e ≡ common ++ (fields ++ tail)
  run-parts = run-front ∙ append_assoc common fields tail

  -- behind the type and the sum
  run-lead : run_bytes ed e ≡ lead ++ (counted ++ (fields ++ tail))
  unfolding common
  run-lead = run-parts ∙ append_assoc lead counted (fields ++ tail)

  run-sum : sum_good ed (run_bytes ed e) ≡ true
  unfolding run_bytes
  run-sum = entry-sum ed e.kind _ (slot_bytes * e.slots)

  module _ (h : Storable ed e) where
    length-named : length ((common ++ fields) ++ e.path) ≡ name_at ed e.kind + length e.path
    length-named = length-append (common ++ fields) e.path ∙ rw length_front

    -- there is a zero behind the name
    room : name_at ed e.kind + length e.path < slot_bytes * e.slots
    unfolding continuing
    room = omega (arith, h.fewest)

    tail-zero : tail ≡ e.path ++ (0 ∷ replicate (padding - 1) 0)
    unfolding tail padding
    tail-zero =
        let some : padding ≡ suc (padding - 1) = omega (arith, length-named, room) in
        ap (λ (n : ℕ). e.path ++ replicate n 0) some

    pub length-run_bytes : length (run_bytes ed e) ≡ slot_bytes * e.slots
    length-run_bytes = ap length run-padded ∙ length-padded ((common ++ fields) ++ e.path) (slot_bytes * e.slots) (omega (arith, length-named, room))

    -- ---- read field by field
    type-back : byte_at (run_bytes ed e) 0 ≡ e.kind
    unfolding byte_at lead
    type-back = rw run-lead

    slots-back : run_slots ed (run_bytes ed e) ≡ e.slots
    unfolding run_slots counted
    slots-back =
        let c : le 1 (lead ++ (counted ++ (fields ++ tail))) (count_at ed + 0) ≡ le 1 (counted ++ (fields ++ tail)) 0 =
        le-append-after 1 lead (counted ++ (fields ++ tail)) (count_at ed) 0 length-lead in
        let b : byte_at (run_bytes ed e) (count_at ed) ≡ e.slots - 1 =
        byte_le (run_bytes ed e) (count_at ed) ∙ rw run-lead (ap (le 1 (lead ++ (counted ++ (fields ++ tail)))) (omega arith) ∙ c ∙ le-1 (counted ++ (fields ++ tail)) 0) in
        omega (arith, b, h.fewest)

    stamp-back : stamp_in (run_bytes ed e) (stamp_at ed) ≡ stamp_in (stamp_bytes e.stamp) 0
    unfolding stamp_in counted
    stamp-back =
        let p : stamp_at ed ≡ count_at ed + 1 = omega arith in
        rw (
          run-lead,
          p,
          le-append-after 8 lead (counted ++ (fields ++ tail)) (count_at ed) 1 length-lead,
          le-append-after 8 ((e.slots - 1) ∷ []) (stamp_bytes e.stamp ++ (fields ++ tail)) 1 0 refl,
          le-append-before 8 (stamp_bytes e.stamp) (fields ++ tail) 0 (omega (arith, length-stamp e.stamp)),
        )

    field_back : run_field ed (run_bytes ed e) ≡ run_bytes ed e
    unfolding run_field
    field_back = rw slots-back (take_all (slot_bytes * e.slots) (run_bytes ed e) (omega (arith, length-run_bytes)))

    name_back : name_field ed (run_bytes ed e) ≡ tail
    unfolding name_field
    name_back = rw (type-back, field_back, run-front) (drop_at (common ++ fields) tail (name_at ed e.kind) length_front)

    -- the number v between a file's common fields and the rest
    file-field : (at v : ℕ) (xs ys : List ℕ) → file_type e.kind ≡ true → fields ≡ xs ++ (le_bytes 8 v ++ ys) → at ≡ sum_length ed + 10 + length xs → v < 2 ^ 64
        → file_field (run_bytes ed e) at ≡ v
    unfolding file_field
    file-field at v xs ys f parts place fits =
        let a : run_bytes ed e ≡ (common ++ xs) ++ (le_bytes 8 v ++ (ys ++ tail)) =
        run-parts ∙ rw parts (simp append_assoc) in
        let l : length (common ++ xs) ≡ at = length-append common xs ∙ omega (arith, length-common) in
        rw type-back (pick_true _ _ f)
        ∙ ap (λ (xs : List ℕ). le 8 xs at) a
        ∙ le-between 8 v (common ++ xs) (ys ++ tail) at l fits

    bare-field : (at : ℕ) → file_type e.kind ≡ false → file_field (run_bytes ed e) at ≡ 0
    unfolding file_field
    bare-field at f = rw type-back (pick-false _ _ f)

    fields_back : (t : Bool) → file_type e.kind ≡ t
        → (file_field (run_bytes ed e) (start_at ed) ≡ e.start) × (past_end ed (file_field (run_bytes ed e) (end_at ed)) ≡ e.end) × (file_field (run_bytes ed e) (length_at ed) ≡ e.length)
    unfolding fields region_bytes
    fields_back true f =
        let end : ℕ = stored_end ed e.end in
        let parts : fields ≡ le_bytes 8 e.start ++ (le_bytes 8 end ++ le_bytes 8 e.length) = pick_true _ _ f in (
          file-field (start_at ed) e.start [] _ f parts (omega arith) h.starts,
          ap (past_end ed) (file-field (end_at ed) end (le_bytes 8 e.start) (le_bytes 8 e.length) f parts (omega (arith, length-le_bytes 8 e.start)) (omega (arith, h.ends, stored_low ed e.end)))
              ∙ past-stored ed e.end h.past,
          file-field (length_at ed) e.length (le_bytes 8 e.start ++ le_bytes 8 end) [] f (parts ∙ simp (append_assoc, append-nil)) (simp (length-append, length-le_bytes) (omega arith)) h.lengths,
        )
    fields_back false f =
        let b = h.bare f in
        (bare-field (start_at ed) f ∙ sym b.0, ap (past_end ed) (bare-field (end_at ed) f) ∙ past-none ed ∙ sym b.1, bare-field (length_at ed) f ∙ sym b.2)

    path-back : up_to_zero (name_field ed (run_bytes ed e)) ≡ e.path
    path-back = rw (name_back, tail-zero) (path-up-to-zero e.path h.good (replicate (padding - 1) 0))

    entry-back : entry_at ed e.slot (run_bytes ed e) ≡ stored e
    unfolding entry_at stored retyped_entry stored_stamp
    entry-back =
        let f = fields_back (file_type e.kind) refl in
        rw (type-back, slots-back, stamp-back, f.0, f.1, f.2, path-back)

    -- THE ROUND TRIP of a run
    pub item-run_bytes : (left : ℕ) → e.slots ≤ left → item_at ed left e.slot (run_bytes ed e) ≡ entry (stored e)
    item-run_bytes left l =
        item-run ed left e.slot (run_bytes ed e) (rw type-back h.fresh) (rw type-back h.kinds)
        (fits_whole ed left (run_bytes ed e) (rw slots-back l) (rw field_back run-sum))
        (rw (name_back, tail-zero) (path-named e.path (replicate (padding - 1) 0) h.good))
        ∙ ap entry entry-back

    pub walk-run_bytes : walk_all ed e.slots e.slot (run_bytes ed e) ≡ entry (stored e) ∷ []
    unfolding stored retyped_entry
    walk-run_bytes =
        let z : e.slots - e.slots ≡ 0 = omega arith in
        walk-entry ed e.slots e.slot (run_bytes ed e) (omega (arith, h.fewest)) (stored e) (item-run_bytes e.slots (omega arith)) ∙ rw (z, walk_none)
