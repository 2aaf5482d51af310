-- WHAT EACH EXPORTED CALL PROMISES: a relation between the image s, the arguments, the answer r and the bytes left behind, for every image and
-- every argument. A call that writes leaves the image t; one that reads leaves s, and its lent output as `after`.
use Rattle.std.specs.Prelude.{ℕ, ◌≡◌, List, [], ℤ}
use Rattle.rules.specs.Outcome.{Outcome, VolumeNumbers, EntryNumbers, ListedNumbers}
use Rattle.rules.specs.Reading.{open_of, find_of, list_of, read_of}
use Rattle.rules.specs.Records.{RecordsNumbers, list_all_of}
use Rattle.rules.specs.Writing.{Written, New, new_file, new_directory, format_of, create_of, delete_of, delete_keep_of, restore_of, reclaim_of}
use Rattle.rules.specs.Listing.{text_of}
use Rattle.rules.specs.Report.{count_image, report_text_of}
use Rattle.contracts.specs.declared.Volume.{Volume}
use Rattle.contracts.specs.declared.Entry.{Entry}
use Rattle.contracts.specs.declared.Listed.{Listed}
use Rattle.contracts.specs.declared.Content.{Content}
use Rattle.contracts.specs.declared.Records.{Records}
pub mod Laws

-- ---- the answers in the rules' words
abbrev pub volume_answer : Volume → VolumeNumbers
volume_answer r = record {
  edition = r.edition;
  version = r.version;
  total = r.total;
  reserved = r.reserved;
  block_length = r.block_length;
  data_blocks = r.data_blocks;
  index_bytes = r.index_bytes;
  stamp = r.stamp;
  volume_stamp = r.volume_stamp;
  name_length = r.name_length;
}

abbrev pub volume_view : List ℕ → List ℕ → Volume → Outcome VolumeNumbers
volume_view s after r = record { refusal = r.refusal; answer = volume_answer r; image = s; output = after }

abbrev pub entry_answer : Entry → EntryNumbers
entry_answer r = record { slot = r.slot; kind = r.kind; start = r.start; end = r.end; length = r.length; stamp = r.stamp }

abbrev pub entry_view : List ℕ → Entry → Outcome EntryNumbers
entry_view s r = record { refusal = r.refusal; answer = entry_answer r; image = s; output = [] }

abbrev pub listed_answer : Listed → ListedNumbers
listed_answer r = record {
  found = record { slot = r.slot; kind = r.kind; start = r.start; end = r.end; length = r.length; stamp = r.stamp };
  path_length = r.path_length;
}

abbrev pub listed_view : List ℕ → List ℕ → Listed → Outcome ListedNumbers
listed_view s after r = record { refusal = r.refusal; answer = listed_answer r; image = s; output = after }

abbrev pub content_view : List ℕ → List ℕ → Content → Outcome ℕ
content_view s after r = record { refusal = r.refusal; answer = r.length; image = s; output = after }

abbrev pub records_answer : Records → RecordsNumbers
records_answer r = record { count = r.count; length = r.length; next = r.next }

abbrev pub records_view : List ℕ → List ℕ → Records → Outcome RecordsNumbers
records_view s after r = record { refusal = r.refusal; answer = records_answer r; image = s; output = after }

-- a call that writes answers its refusal alone
abbrev pub written_as : ℕ → List ℕ → Written
written_as r t = record { refusal = r; answer = tt; image = t; output = [] }

-- ---- sfs_api: the number of the interface, raised whenever a struct, an argument or what a call does changes
abbrev pub interface : ℕ
interface = 2

abbrev pub TellsApi : ℕ → Type 0
TellsApi r = r ≡ interface

-- ---- sfs_format: a fresh volume of the edition that the version byte names, in place of whatever the image held
abbrev pub Formats : List ℕ → ℕ → ℕ → ℕ → List ℕ → ℤ → ℕ → List ℕ → Type 0
Formats s version bytes_per_block reserved name stamp r t = written_as r t ≡ format_of s version bytes_per_block reserved name stamp

-- ---- sfs_open: the volume's numbers, and its name in the output
abbrev pub OpensVolume : List ℕ → List ℕ → Volume → List ℕ → Type 0
OpensVolume s out r after = volume_view s after r ≡ open_of s out

-- ---- sfs_find: the numbers of the path's live entry
abbrev pub Finds : List ℕ → List ℕ → Entry → Type 0
Finds s path r = entry_view s r ≡ find_of s path

-- ---- sfs_list: the numbers of the next live entry from a slot on, and its path in the output
abbrev pub Lists : List ℕ → ℕ → List ℕ → Listed → List ℕ → Type 0
Lists s slot out r after = listed_view s after r ≡ list_of s slot out

-- ---- sfs_list_all: how many records of live entries from a slot on, how many bytes they have and the slot to go on from; the records in the output
abbrev pub ListsAll : List ℕ → ℕ → List ℕ → Records → List ℕ → Type 0
ListsAll s slot out r after = records_view s after r ≡ list_all_of s slot out

-- ---- sfs_read: the length of the path's file, and its bytes in the output
abbrev pub Reads : List ℕ → List ℕ → List ℕ → Content → List ℕ → Type 0
Reads s path out r after = content_view s after r ≡ read_of s path out

-- ---- sfs_create_file and sfs_create_directory: a new live entry, and a file's bytes in its blocks
abbrev pub Creates : List ℕ → New → List ℕ → ℤ → ℕ → List ℕ → Type 0
Creates s new path stamp r t = written_as r t ≡ create_of s new path stamp

abbrev pub CreatesFile : List ℕ → List ℕ → List ℕ → ℤ → ℕ → List ℕ → Type 0
CreatesFile s path bytes stamp r t = Creates s (new_file bytes) path stamp r t

abbrev pub CreatesDirectory : List ℕ → List ℕ → ℤ → ℕ → List ℕ → Type 0
CreatesDirectory s path stamp r t = Creates s new_directory path stamp r t

-- ---- sfs_delete: the path's live entry is gone, its blocks are zeros and its slots unused, and the data area has its least size
abbrev pub Deletes : List ℕ → List ℕ → ℤ → ℕ → List ℕ → Type 0
Deletes s path stamp r t = written_as r t ≡ delete_of s path stamp

-- ---- sfs_delete_keep: the path's live entry is marked deleted, or its slots are unused and its blocks free
abbrev pub DeletesKeeping : List ℕ → List ℕ → ℤ → ℕ → List ℕ → Type 0
DeletesKeeping s path stamp r t = written_as r t ≡ delete_keep_of s path stamp

-- ---- sfs_restore: the path's deleted entry is live again
abbrev pub Restores : List ℕ → List ℕ → ℤ → ℕ → List ℕ → Type 0
Restores s path stamp r t = written_as r t ≡ restore_of s path stamp

-- ---- sfs_reclaim: what deleted entries hold is free, and the data area has its least size
abbrev pub Reclaims : List ℕ → ℤ → ℕ → List ℕ → Type 0
Reclaims s stamp r t = written_as r t ≡ reclaim_of s stamp

-- ---- sfs_listing: the length of the listing program's text, and the text in an output that any text fits
abbrev pub WritesListing : List ℕ → List ℕ → Content → List ℕ → Type 0
WritesListing s out r after = content_view s after r ≡ text_of s out

-- ---- sfs_report_add: the image counted in a report's numbers, ns before and `after` behind it; the answer is the image's refusal
abbrev pub CountsImage : List ℕ → List ℕ → ℕ → List ℕ → Type 0
CountsImage s ns r after = record { answer = r; numbers = after } ≡ count_image s ns

-- ---- sfs_report_text: the length of a report's text, and the text in an output that any text fits
abbrev pub WritesReport : List ℕ → List ℕ → Content → List ℕ → Type 0
WritesReport ns out r after = content_view ns after r ≡ report_text_of ns out
