-- 01, "The calls": what a call answers and leaves. Nothing else of it can be seen.
use Rattle.std.specs.Prelude.{ℕ, List, ℤ, pos}
use Rattle.rules.specs.Editions.{Edition, stored_end}
use Rattle.rules.specs.Index.{Entry}
use Rattle.rules.specs.Refusals.{Verdict, refused, accepted, Volume, judge, and_then}
pub mod Laws

pub record Outcome (A : Type 0) : Type 0 where
  pub refusal : ℕ  -- 0 is success
  pub answer : A  -- every other number
  pub image : List ℕ
  pub output : List ℕ  -- the lent output; [] where the call has none

-- success
unfoldable pub done : {A : Type 0} → A → List ℕ → List ℕ → Outcome A
done a s out = record { refusal = 0; answer = a; image = s; output = out }

-- a refusal gives zero for every other number and writes nothing
unfoldable pub conclude : {A : Type 0} → A → List ℕ → List ℕ → Verdict (Outcome A) → Outcome A
conclude zeros s out (refused n) = record { refusal = n; answer = zeros; image = s; output = out }
conclude zeros s out (accepted o) = o

-- a call, format apart, first judges 1 to 8
unfoldable pub on_volume : {A : Type 0} → A → List ℕ → List ℕ → (Volume → Verdict (Outcome A)) → Outcome A
on_volume zeros s out call = conclude zeros s out (and_then (judge s) call)

-- ---- the numbers of open's answer
pub record VolumeNumbers : Type 0 where
  pub edition : ℕ  -- 0x10 or 0x1A, whatever version is stored; 0 after a refusal
  pub version : ℕ
  pub total : ℕ
  pub reserved : ℕ
  pub block_length : ℕ
  pub data_blocks : ℕ
  pub index_bytes : ℕ
  pub stamp : ℤ
  pub volume_stamp : ℤ
  pub name_length : ℕ

unfoldable pub no_volume : VolumeNumbers
no_volume = record {
  edition = 0;
  version = 0;
  total = 0;
  reserved = 0;
  block_length = 0;
  data_blocks = 0;
  index_bytes = 0;
  stamp = pos 0;
  volume_stamp = pos 0;
  name_length = 0;
}

-- ---- find's numbers; list has the path's byte count besides
pub record EntryNumbers : Type 0 where
  pub slot : ℕ
  pub kind : ℕ
  pub start : ℕ
  pub end : ℕ
  pub length : ℕ
  pub stamp : ℤ

unfoldable pub no_entry : EntryNumbers
no_entry = record { slot = 0; kind = 0; start = 0; end = 0; length = 0; stamp = pos 0 }

-- the end is given as the edition stores it
unfoldable pub numbers_of : Edition → Entry → EntryNumbers
numbers_of ed e = record { slot = e.slot; kind = e.kind; start = e.start; end = stored_end ed e.end; length = e.length; stamp = e.stamp }

pub record ListedNumbers : Type 0 where
  pub found : EntryNumbers
  pub path_length : ℕ

unfoldable pub none_listed : ListedNumbers
none_listed = record { found = no_entry; path_length = 0 }
