-- A whole listing: the answers of list one after the other, as records in one output.
use Rattle.std.specs.Prelude.{ℕ, zero, suc, ◌+◌, ◌<◌, ◌≡◌, ◌||◌, not, List, [], ◌++◌, length, take, drop, eqb}
use Rattle.rules.specs.Lists.{pick}
use Rattle.rules.specs.Fields.{le_bytes, stamp_bytes, splice}
use Rattle.rules.specs.Refusals.{accepted, need}
use Rattle.rules.specs.Outcome.{Outcome, done, conclude, EntryNumbers, ListedNumbers}
use Rattle.rules.specs.Reading.{list_of}

-- ---- a record: find's numbers and the path's byte count, eight bytes each, and the path
-- the bytes before the path, 7 × 8; find's numbers are the first 48 of them
abbrev pub number_bytes : ℕ
number_bytes = 56

unfoldable pub numbers_bytes : EntryNumbers → List ℕ
numbers_bytes e =
    (le_bytes 8 e.slot ++ (le_bytes 8 e.kind ++ le_bytes 8 e.start))
    ++ (le_bytes 8 e.end ++ (le_bytes 8 e.length ++ stamp_bytes e.stamp))

unfoldable pub record_bytes : EntryNumbers → List ℕ → List ℕ
record_bytes e path = numbers_bytes e ++ (le_bytes 8 (length path) ++ path)

-- what list answered, its path at the start of the output that it was lent
unfoldable pub record_of : Outcome ListedNumbers → List ℕ
record_of o = record_bytes o.answer.found (take o.answer.path_length o.output)

-- ---- records one behind the other
pub record Recorded : Type 0 where
  pub ended : ℕ  -- why there are no more: 0 where no entry is left, else list's refusal
  pub count : ℕ
  pub bytes : List ℕ
  pub next : ℕ  -- the slot to go on from, where list refused; 0 where no entry is left

unfoldable pub stop_at : ℕ → ℕ → Recorded
stop_at n slot = record { ended = n; count = 0; bytes = []; next = slot }

unfoldable pub with_record : List ℕ → Recorded → Recorded
with_record bs g = record { ended = g.ended; count = 1 + g.count; bytes = bs ++ g.bytes; next = g.next }

-- by what list answers at a slot: no entry left, and it ends; an entry, its record and then more; a refusal, and it ends there
unfoldable pub record_step : ℕ → Outcome ListedNumbers → Recorded → Recorded
record_step slot o more =
    pick (eqb o.refusal 0)
    (pick (eqb o.answer.found.kind 0) (stop_at 0 0) (with_record (record_of o) more))
    (stop_at o.refusal slot)

-- list is lent the output behind 56 bytes, so that its 18 is that the record does not fit: no stored path is empty. Then it is asked at the found slot
-- + 1, with the output behind the record. The first number only bounds the steps
unfoldable pub records_from : ℕ → List ℕ → ℕ → List ℕ → Recorded
records_from zero s slot out = stop_at 0 0
records_from (suc steps) s slot out =
    let o = list_of s slot (drop number_bytes out) in
    record_step slot o (records_from steps s (o.answer.found.slot + 1) (drop (length (record_of o)) out))

-- a record has a byte at least, and where the output has none left list is asked once more: length out + 1 steps are enough (`record-steps`)
abbrev pub RecordSteps : Type 0
RecordSteps = (s : List ℕ) (slot : ℕ) (out : List ℕ) (steps : ℕ) → length out < steps → records_from steps s slot out ≡ records_from (suc (length out)) s slot out

-- ---- list all: how many records, how many bytes, where to go on. Refused as list is where list refuses at once; with no entry left, 0 and zeros
pub record RecordsNumbers : Type 0 where
  pub count : ℕ
  pub length : ℕ
  pub next : ℕ

unfoldable pub no_records : RecordsNumbers
no_records = record { count = 0; length = 0; next = 0 }

unfoldable pub records_outcome : List ℕ → List ℕ → Recorded → Outcome RecordsNumbers
records_outcome s out g =
    conclude no_records s out
    (need (eqb g.ended 0 || not (eqb g.count 0)) g.ended
    (accepted (done (record { count = g.count; length = length g.bytes; next = g.next }) s (splice out 0 g.bytes))))

unfoldable pub list_all_of : List ℕ → ℕ → List ℕ → Outcome RecordsNumbers
list_all_of s slot out = records_outcome s out (records_from (suc (length out)) s slot out)
