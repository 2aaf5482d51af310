-- 01, "The calls": open, find, list and read. The image is as it was.
use Rattle.std.specs.Prelude.{ℕ, ◌*◌, List, [], length, eqb, leb}
use Rattle.std.proofs.Math.Option.{Option, none, some}
use Rattle.rules.specs.Lists.{part}
use Rattle.rules.specs.Fields.{splice}
use Rattle.rules.specs.Editions.{Edition, version_of}
use Rattle.rules.specs.SuperBlock.{Geometry, block_length}
use Rattle.rules.specs.Names.{path_good}
use Rattle.rules.specs.Index.{Entry, volume_name, volume_stamp, type_file}
use Rattle.rules.specs.Paths.{lookup, next_live}
use Rattle.rules.specs.Refusals.{Verdict, accepted, need, need_found, entries}
use Rattle.rules.specs.Outcome.{Outcome, done, on_volume, VolumeNumbers, no_volume, EntryNumbers, no_entry, numbers_of, ListedNumbers, none_listed}
pub mod Laws

-- ---- open: the volume's numbers, and its name at the start of the output
unfoldable pub volume_numbers : List ℕ → Geometry → VolumeNumbers
volume_numbers s g = record {
  edition = version_of g.edition;
  version = g.version;
  total = g.total;
  reserved = g.reserved;
  block_length = block_length g;
  data_blocks = g.data_blocks;
  index_bytes = g.index_bytes;
  stamp = g.stamp;
  volume_stamp = volume_stamp s;
  name_length = length (volume_name s);
}

unfoldable pub open_of : List ℕ → List ℕ → Outcome VolumeNumbers
open_of s out =
    on_volume no_volume s out (λ v.
    need (leb (length (volume_name s)) (length out)) 18
    (accepted (done (volume_numbers s v.geometry) s (splice out 0 (volume_name s)))))

-- ---- find: the numbers of the path's live entry
unfoldable pub find_of : List ℕ → List ℕ → Outcome EntryNumbers
find_of s path =
    on_volume no_entry s [] (λ v.
    need (path_good path) 10
    (need_found (lookup path (entries v)) 11 (λ e.
    accepted (done (numbers_of v.geometry.edition e) s []))))

-- ---- read: a file's length, and its bytes at the start of the output
unfoldable pub file_bytes : List ℕ → Geometry → Entry → List ℕ
file_bytes s g e = part s (e.start * block_length g) e.length

unfoldable pub read_of : List ℕ → List ℕ → List ℕ → Outcome ℕ
read_of s path out =
    on_volume 0 s out (λ v.
    need (path_good path) 10
    (need_found (lookup path (entries v)) 11 (λ e.
    need (eqb e.kind type_file) 17
    (need (leb e.length (length out)) 18
    (accepted (done e.length s (splice out 0 (file_bytes s v.geometry e))))))))

-- ---- list: the next live entry from a slot on, its path at the start of the output; with none left, zeros
unfoldable pub listed : Edition → List ℕ → List ℕ → Option Entry → Verdict (Outcome ListedNumbers)
listed ed s out none = accepted (done none_listed s out)
listed ed s out (some e) =
    need (leb (length e.path) (length out)) 18
    (accepted (done (record { found = numbers_of ed e; path_length = length e.path }) s (splice out 0 e.path)))

unfoldable pub list_of : List ℕ → ℕ → List ℕ → Outcome ListedNumbers
list_of s slot out = on_volume none_listed s out (λ v. listed v.geometry.edition s out (next_live slot (entries v)))
