-- Small runs, from bytes to bytes: what the calls answer one after the other, and what they leave.
use Prim.Native.Nat.{ℕ, ◌-◌, ◌*◌}
use Prim.Native.String.{String}
use mathlib.Core.Bool.{true, false}
use mathlib.Core.Path.{◌≡◌, refl}
use mathlib.Core.List.{List, [], ◌∷◌, ◌++◌}
use lib.ListN.{length, drop, replicate}
use lib.IntN.{pos, negsuc}
use Rattle.rules.specs.Lists.{pick, eq_list}
use Rattle.rules.specs.Fields.{splice}
use Rattle.rules.specs.Editions.{edition10, edition110}
use Rattle.rules.specs.Index.{type_file, type_directory, unused_bytes}
use Rattle.rules.specs.Outcome.{done}
use Rattle.rules.specs.Reading.{open_of, find_of, list_of, read_of}
use Rattle.rules.specs.Records.{list_all_of}
use Rattle.rules.specs.Writing.{new_file, new_directory, format_of, create_of, delete_of, delete_keep_of, restore_of, reclaim_of}
use Rattle.rules.specs.History.{Call, format, open_volume, find, list, list_all, read, create, delete, delete_keep, restore, reclaim, step, run, told, nothing}
use Rattle.rules.specs.Text.{text, joined}
use Rattle.rules.specs.Listing.{listing_of}
use Rattle.rules.specs.Report.{unread, image, report_of, output_of, newline, names_of, name_of_file}
use Rattle.cases.proofs.Computing.{everything}
use Rattle.cases.proofs.Table.{date}

-- ---- the refusals of a list of calls
unfoldable pub refusal_of : List ℕ → Call → ℕ
refusal_of s (format version bytes_per_block reserved name stamp) = (format_of s version bytes_per_block reserved name stamp).refusal
refusal_of s (open_volume out) = (open_of s out).refusal
refusal_of s (find path) = (find_of s path).refusal
refusal_of s (list slot out) = (list_of s slot out).refusal
refusal_of s (list_all slot out) = (list_all_of s slot out).refusal
refusal_of s (read path out) = (read_of s path out).refusal
refusal_of s (create new path stamp) = (create_of s new path stamp).refusal
refusal_of s (delete path stamp) = (delete_of s path stamp).refusal
refusal_of s (delete_keep path stamp) = (delete_keep_of s path stamp).refusal
refusal_of s (restore path stamp) = (restore_of s path stamp).refusal
refusal_of s (reclaim stamp) = (reclaim_of s stamp).refusal

unfoldable pub refusals : List ℕ → List Call → List ℕ
refusals s [] = []
refusals s (c ∷ cs) = refusal_of s c ∷ refusals (step s c).image cs

abbrev blank : ℕ → List ℕ
blank n = replicate n 0

-- ---- 1,536 bytes, the least that can be formatted in blocks of 512
abbrev format_small : Call
format_small = format 0x10 512 1 (text "SMALL") (pos 5)

abbrev small : List ℕ
small = run (blank 1_536) (format_small ∷ [])

-- every byte that format writes
pub small_bytes :
    small
    ≡ blank 0x194
    ++ ((5 ∷ blank 7)
    ++ (blank 8
    ++ ((128 ∷ blank 7)
    ++ ((0x53 ∷ 0x46 ∷ 0x53 ∷ 0x10 ∷ 3 ∷ blank 7)
    ++ ((1 ∷ 0 ∷ 0 ∷ 0 ∷ 2 ∷ 0xFE ∷ blank 962)
    ++ ((0x02 ∷ blank 63)
    ++ ((0x01 ∷ 0 ∷ 0 ∷ 0 ∷ 5 ∷ blank 7)
    ++ (text "SMALL" ++ blank 47))))))))
unfolding everything
small_bytes = refl

-- an output that is longer than the name keeps its other bytes
pub small_open :
    open_of small (blank 8)
    ≡ done
    (record {
      edition = 0x10;
      version = 0x10;
      total = 3;
      reserved = 1;
      block_length = 512;
      data_blocks = 0;
      index_bytes = 128;
      stamp = pos 5;
      volume_stamp = pos 5;
      name_length = 5;
    })
    small
    (text "SMALL" ++ blank 3)
unfolding everything
small_open = refl

-- an empty file comes, and goes only once
abbrev come_and_go : List Call
come_and_go =
    format_small
    ∷ create (new_file []) (text "a") (pos 6)
    ∷ find (text "a")
    ∷ delete (text "a") (pos 7)
    ∷ delete (text "a") (pos 8)
    ∷ find (text "a")
    ∷ reclaim (pos 9)
    ∷ open_volume []
    ∷ []

pub come_and_go-refusals : refusals (blank 1_536) come_and_go ≡ 0 ∷ 0 ∷ 0 ∷ 0 ∷ 11 ∷ 11 ∷ 0 ∷ 18 ∷ []
unfolding everything refusals refusal_of
come_and_go-refusals = refl

pub small-find :
    (find_of (create_of small (new_file []) (text "a") (pos 6)).image (text "a")).answer
    ≡ record { slot = 1; kind = type_file; start = 0; end = 0; length = 0; stamp = pos 6 }
unfolding everything
small-find = refl

-- its slot is unused now, and in the super-block only the index size and the stamp of its growth are new
pub come_and_go-bytes :
    run (blank 1_536) come_and_go
    ≡ splice (splice (splice small 0x194 (6 ∷ [])) 0x1A4 (192 ∷ [])) 1_344 ((0x02 ∷ blank 63) ++ (0x10 ∷ blank 63))
unfolding everything
come_and_go-bytes = refl

-- ---- a file of a block, deleted by each call
abbrev notice : List Call
notice = format_small ∷ create (new_file (text "Closed")) (text "n") (pos 9) ∷ []

-- nine bytes change where it is kept: the type and the stamp
pub notice-kept : run (blank 1_536) (notice ++ (delete_keep (text "n") (pos 10) ∷ [])) ≡ splice (splice (run (blank 1_536) notice) 1_408 (0x1A ∷ [])) 1_410 (10 ∷ blank 7)
unfolding everything
notice-kept = refl

-- where it is wiped, all is as in a fresh volume but for the grown index and the stamp of the data area that shrank
pub notice-wiped :
    run (blank 1_536) (notice ++ (delete (text "n") (pos 10) ∷ []))
    ≡ splice (splice (splice small 0x194 (10 ∷ [])) 0x1A4 (192 ∷ [])) 1_344 ((0x02 ∷ blank 63) ++ (0x10 ∷ blank 63))
unfolding everything
notice-wiped = refl

-- an unused slot: its type, in edition 1.10 its sum, and zeros
pub unused-slots : (unused_bytes edition10 1 ≡ 0x10 ∷ blank 63) × (unused_bytes edition110 1 ≡ 0x10 ∷ 0xF0 ∷ blank 62)
unfolding everything
unused-slots = (refl, refl)

-- ---- what was kept comes back until it is reclaimed: with the old stamp the image is what it was
pub same-afternoon : run (blank 1_536) (notice ++ (delete_keep (text "n") (pos 10) ∷ restore (text "n") (pos 9) ∷ [])) ≡ run (blank 1_536) notice
unfolding everything
same-afternoon = refl

-- restored, it is not given back at a reclaim; deleted again, it is
pub notice-told :
    told (blank 1_536) nothing (notice ++ (delete_keep (text "n") (pos 10) ∷ restore (text "n") (pos 15) ∷ reclaim (pos 16) ∷ []))
    ≡ record {
      edition = edition10;
      block_bytes = 512;
      kept = record { path = text "n"; kind = type_file; bytes = text "Closed"; blocks = 1; live = true } ∷ [];
      granted = 1;
      given_back = 0;
    }
unfolding everything
notice-told = refl

pub notice-struck :
    told (blank 1_536) nothing (notice ++ (delete_keep (text "n") (pos 10) ∷ restore (text "n") (pos 15) ∷ delete_keep (text "n") (pos 16) ∷ reclaim (pos 17) ∷ []))
    ≡ record { edition = edition10; block_bytes = 512; kept = []; granted = 1; given_back = 1 }
unfolding everything
notice-struck = refl

-- wiped, it is given back at once
pub notice-given-back :
    told (blank 1_536) nothing (notice ++ (delete (text "n") (pos 10) ∷ []))
    ≡ record { edition = edition10; block_bytes = 512; kept = []; granted = 1; given_back = 1 }
unfolding everything
notice-given-back = refl

-- 11 of a live path and of none, 10, then 12 where it is live again, 19 of a file and a directory, 11 once both are reclaimed
pub restore-refusals :
    refusals (run (blank 1_536) notice) (
    restore (text "n") (pos 10)
    ∷ restore (text "m") (pos 10)
    ∷ restore (text "n/") (pos 10)
    ∷ delete_keep (text "n") (pos 10)
    ∷ create new_directory (text "n") (pos 11)
    ∷ restore (text "n") (pos 12)
    ∷ delete_keep (text "n") (pos 13)
    ∷ restore (text "n") (pos 14)
    ∷ reclaim (pos 15)
    ∷ restore (text "n") (pos 16)
    ∷ [])
    ≡ 11 ∷ 11 ∷ 10 ∷ 0 ∷ 0 ∷ 12 ∷ 0 ∷ 19 ∷ 0 ∷ 11 ∷ []
unfolding everything refusals refusal_of
restore-refusals = refl

-- of what was wiped nothing comes back; an older entry of the path that was kept does
pub wiped-refusals :
    refusals (run (blank 1_536) notice) (
    delete (text "n") (pos 10)
    ∷ restore (text "n") (pos 11)
    ∷ create (new_file (text "Open")) (text "n") (pos 12)
    ∷ delete_keep (text "n") (pos 13)
    ∷ create new_directory (text "n") (pos 14)
    ∷ delete (text "n") (pos 15)
    ∷ restore (text "n") (pos 16)
    ∷ find (text "n")
    ∷ [])
    ≡ 0 ∷ 11 ∷ 0 ∷ 0 ∷ 0 ∷ 0 ∷ 0 ∷ 0 ∷ []
unfolding everything refusals refusal_of
wiped-refusals = refl

-- a directory comes back without what was below it, which is 13 before
pub restore-directory :
    refusals (blank 1_536) (
    format_small
    ∷ create new_directory (text "d") (pos 6)
    ∷ create (new_file []) (text "d/f") (pos 7)
    ∷ delete_keep (text "d/f") (pos 8)
    ∷ delete_keep (text "d") (pos 9)
    ∷ restore (text "d/f") (pos 10)
    ∷ restore (text "d") (pos 11)
    ∷ find (text "d/f")
    ∷ restore (text "d/f") (pos 12)
    ∷ find (text "d/f")
    ∷ [])
    ≡ 0 ∷ 0 ∷ 0 ∷ 0 ∷ 0 ∷ 13 ∷ 0 ∷ 11 ∷ 0 ∷ 0 ∷ []
unfolding everything refusals refusal_of
restore-directory = refl

-- ---- the last block: where a file holds it the index cannot grow into it, until the file is wiped, or kept and reclaimed
abbrev empty : String → Call
empty path = create (new_file []) (text path) (pos 7)

pub last_block :
    refusals (blank 1_536) (
    format_small
    ∷ create (new_file (replicate 512 0x61)) (text "big") (pos 6)
    ∷ empty "a"
    ∷ empty "b"
    ∷ empty "c"
    ∷ empty "d"
    ∷ empty "e"
    ∷ empty "f"
    ∷ delete_keep (text "big") (pos 9)
    ∷ empty "f"
    ∷ reclaim (pos 11)
    ∷ empty "f"
    ∷ [])
    ≡ 0 ∷ 0 ∷ 0 ∷ 0 ∷ 0 ∷ 0 ∷ 0 ∷ 15 ∷ 0 ∷ 15 ∷ 0 ∷ 0 ∷ []
unfolding everything refusals refusal_of
last_block = refl

pub last-block-wiped :
    refusals (blank 1_536) (
    format_small
    ∷ create (new_file (replicate 512 0x61)) (text "big") (pos 6)
    ∷ empty "a"
    ∷ empty "b"
    ∷ empty "c"
    ∷ empty "d"
    ∷ empty "e"
    ∷ empty "f"
    ∷ delete (text "big") (pos 9)
    ∷ empty "f"
    ∷ [])
    ≡ 0 ∷ 0 ∷ 0 ∷ 0 ∷ 0 ∷ 0 ∷ 0 ∷ 15 ∷ 0 ∷ 0 ∷ []
unfolding everything refusals refusal_of
last-block-wiped = refl

-- ---- a kept file's blocks are not free until they are reclaimed, a wiped one's are at once
pub held-blocks :
    refusals (blank 3_072) (
    format_small
    ∷ create (new_file (replicate 2_048 0x61)) (text "big") (pos 6)
    ∷ create (new_file (text "b")) (text "a") (pos 7)
    ∷ delete_keep (text "big") (pos 8)
    ∷ create (new_file (text "b")) (text "a") (pos 9)
    ∷ reclaim (pos 10)
    ∷ create (new_file (text "b")) (text "a") (pos 11)
    ∷ [])
    ≡ 0 ∷ 0 ∷ 16 ∷ 0 ∷ 16 ∷ 0 ∷ 0 ∷ []
unfolding everything refusals refusal_of
held-blocks = refl

pub wiped-blocks :
    refusals (blank 3_072) (
    format_small
    ∷ create (new_file (replicate 2_048 0x61)) (text "big") (pos 6)
    ∷ create (new_file (text "b")) (text "a") (pos 7)
    ∷ delete (text "big") (pos 8)
    ∷ create (new_file (text "b")) (text "a") (pos 9)
    ∷ [])
    ≡ 0 ∷ 0 ∷ 16 ∷ 0 ∷ 0 ∷ []
unfolding everything refusals refusal_of
wiped-blocks = refl

-- ---- a file lies below the ceiling block after the growth: a name that takes five slots leaves no block
pub after-growth :
    refusals small (
    empty "c"
    ∷ empty "d"
    ∷ create (new_file (text "b")) (replicate 285 0x61) (pos 6)
    ∷ create (new_file (text "b")) (text "a") (pos 7)
    ∷ [])
    ≡ 0 ∷ 0 ∷ 16 ∷ 0 ∷ []
unfolding everything refusals refusal_of
after-growth = refl

-- ---- a file's name of 30 bytes: the slot that continues it starts with 0, and is no unused slot
abbrev named30 : List ℕ
named30 = run small (create (new_file []) (replicate 30 0x61) (pos 6) ∷ create new_directory (text "d") (pos 7) ∷ [])

pub named30-slots :
    (find_of named30 (replicate 30 0x61)).answer.slot ∷ (find_of named30 (text "d")).answer.slot ∷ []
    ≡ 2 ∷ 1 ∷ []
unfolding everything
named30-slots = refl

-- ---- arguments of a format
abbrev formats : ℕ → ℕ → ℕ → ℕ → ℕ
formats n bytes_per_block reserved name_length = (format_of (blank n) 0x10 bytes_per_block reserved (replicate name_length 0x61) (pos 0)).refusal

-- the empty image, too short, no room for an index, the least in two block lengths; reserved too few, too many; no block length, no whole
-- number of blocks; the name's length
pub format-refusals :
    formats 0 512 1 0
    ∷ formats 511 512 1 0
    ∷ formats 512 512 1 0
    ∷ formats 1_024 512 1 0
    ∷ formats 1_536 512 1 0
    ∷ formats 1_024 256 2 0
    ∷ formats 1_024 256 1 0
    ∷ formats 1_536 512 2 0
    ∷ formats 1_536 300 1 0
    ∷ formats 1_537 512 1 0
    ∷ formats 1_536 512 1 51
    ∷ formats 1_536 512 1 52
    ∷ []
    ≡ 1 ∷ 1 ∷ 5 ∷ 5 ∷ 0 ∷ 0 ∷ 5 ∷ 5 ∷ 5 ∷ 5 ∷ 0 ∷ 10 ∷ []
unfolding everything
format-refusals = refl

-- every call on an empty image
pub empty-image :
    refusals [] (
    format_small
    ∷ open_volume []
    ∷ find []
    ∷ list 0 []
    ∷ read [] []
    ∷ create new_directory [] (pos 0)
    ∷ delete [] (pos 0)
    ∷ delete_keep [] (pos 0)
    ∷ restore [] (pos 0)
    ∷ reclaim (pos 0)
    ∷ [])
    ≡ replicate 10 1
unfolding everything refusals refusal_of
empty-image = refl

-- ---- the terminal's volume
abbrev session : List Call
session =
    format 0x10 512 2 (text "TERM7") (pos 0)
    ∷ create new_directory (text "session") (pos 0x3C0000)
    ∷ create (new_file (text "yes")) (text "session/verified") (negsuc 0)
    ∷ []

abbrev terminal : List ℕ
terminal = run (blank 65_536) session

-- the text of 01, and the file read back
pub terminal-listing :
    (listing_of terminal
    ≡ text "TERM7\nF 3 1969-12-31T23:59:59Z session/verified\nD 0 1970-01-01T00:01:00Z session\nlive 2 held 1\n")
    × ((read_of terminal (text "session/verified") (blank 4)).answer ≡ 3)
    × ((read_of terminal (text "session/verified") (blank 4)).output ≡ text "yes\0")
unfolding everything
terminal-listing = (refl, refl, refl)

-- the same calls on a smaller image, to go on from
abbrev token : List ℕ
token = run (blank 2_048) session

-- the file's run was put before the directory's, and the next entry after it is listed
pub token-list :
    ((list_of token 2 (blank 8)).answer
    ≡ record {
      found = record { slot = 2; kind = type_directory; start = 0; end = 0; length = 0; stamp = pos 0x3C0000 };
      path_length = 7;
    })
    × ((list_of token 2 (blank 8)).output ≡ text "session\0")
unfolding everything
token-list = (refl, refl)

-- both as records of 72 and 63 bytes; one byte less has room for the first alone, and 71 for none
pub token-records :
    ((list_all_of token 0 (blank 135)).answer ≡ record { count = 2; length = 135; next = 0 })
    × ((list_all_of token 0 (blank 134)).answer ≡ record { count = 1; length = 72; next = 2 })
    × ((list_all_of token 0 (blank 71)).refusal ≡ 18)
    × ((list_all_of token 3 (blank 71)).answer ≡ record { count = 0; length = 0; next = 0 })
unfolding everything
token-records = (refl, refl, refl, refl)

-- the second of them, to the byte: slot, kind, start, end, length, stamp, the path's bytes and the path
pub token-record :
    drop 72 (list_all_of token 0 (blank 135)).output
    ≡ joined
    ((2 ∷ blank 7) ∷ (0x11 ∷ blank 7) ∷ blank 8 ∷ blank 8 ∷ blank 8 ∷ (0 ∷ 0 ∷ 0x3C ∷ blank 5) ∷ (7 ∷ blank 7) ∷ text "session" ∷ [])
unfolding everything
token-record = refl

-- a directory goes after what is below it
abbrev logout : List Call
logout = delete (text "session") (pos 1) ∷ delete (text "session/verified") (pos 2) ∷ delete (text "session") (pos 3) ∷ []

pub logout-refusals : refusals token logout ≡ 14 ∷ 0 ∷ 0 ∷ []
unfolding everything refusals refusal_of
logout-refusals = refl

pub logout-listing : listing_of (run token logout) ≡ text "TERM7\nlive 0 held 0\n"
unfolding everything
logout-listing = refl

-- a kept file's block is held until it is reclaimed
abbrev mended : List Call
mended = delete_keep (text "session/verified") (pos 2) ∷ delete_keep (text "session") (pos 3) ∷ []

pub kept-listing : listing_of (run token mended) ≡ text "TERM7\nlive 0 held 1\n"
unfolding everything
kept-listing = refl

pub reclaimed-listing : listing_of (run token (mended ++ (reclaim (pos 4) ∷ []))) ≡ text "TERM7\nlive 0 held 0\n"
unfolding everything
reclaimed-listing = refl

-- more than 65,536 bytes
pub listing-refused : listing_of (blank 65_537) ≡ text "refused 1\n"
unfolding everything
listing-refused = refl

-- ---- a history
abbrev busy_day : List Call
busy_day =
    format 0x10 512 1 (text "DAY") (pos 0)
    ∷ create new_directory (text "d") (pos 1)
    ∷ create (new_file (replicate 513 7)) (text "d/a") (pos 2)
    ∷ create (new_file []) (text "e") (pos 3)
    ∷ create (new_file (replicate 9 9)) (text "d/a") (pos 4)
    ∷ create new_directory (text "x/y") (pos 5)
    ∷ delete (text "d") (pos 6)
    ∷ delete (text "d/a") (pos 7)
    ∷ find (text "d/a")
    ∷ reclaim (pos 8)
    ∷ create (new_file (text "b")) (text "d/a") (pos 9)
    ∷ []

pub busy_day-refusals : refusals (blank 3_072) busy_day ≡ 0 ∷ 0 ∷ 0 ∷ 0 ∷ 12 ∷ 13 ∷ 14 ∷ 0 ∷ 11 ∷ 0 ∷ 0 ∷ []
unfolding everything refusals refusal_of
busy_day-refusals = refl

-- only what was accepted is told, and two blocks came back
pub busy_day-told :
    told (blank 3_072) nothing busy_day
    ≡ record {
      edition = edition10;
      block_bytes = 512;
      kept =
          record { path = text "d/a"; kind = type_file; bytes = text "b"; blocks = 1; live = true }
          ∷ record { path = text "e"; kind = type_file; bytes = []; blocks = 0; live = true }
          ∷ record { path = text "d"; kind = type_directory; bytes = []; blocks = 0; live = true }
          ∷ [];
      granted = 3;
      given_back = 2;
    }
unfolding everything
busy_day-told = refl

pub busy_day-listing :
    listing_of (run (blank 3_072) busy_day)
    ≡ text "DAY\nF 0 1970-01-01T00:00:00Z e\nF 1 1970-01-01T00:00:00Z d/a\nD 0 1970-01-01T00:00:00Z d\nlive 3 held 1\n"
unfolding everything
busy_day-listing = refl

-- ---- images that do not open
-- a directory and a file of one block in it: the marker is at 1,792, the file's slot at 1,856, the directory's at 1,920
abbrev whole : List ℕ
whole =
    run (blank 2_048) (
    format 0x10 512 1 [] (pos 0)
    ∷ create new_directory (text "d") (pos 1)
    ∷ create (new_file (text "b")) (text "d/f") (pos 2)
    ∷ [])

-- open's refusal, with these bytes in the place of what stands there
abbrev damaged : ℕ → List ℕ → ℕ
damaged at bytes = (open_of (splice whole at bytes) []).refusal

pub damaged-refusals :
    damaged 0 (9 ∷ [])  -- no field
    ∷ damaged 0x1AC (0 ∷ [])  -- magic
    ∷ damaged 0x1AF (0x0F ∷ [])  -- version
    ∷ damaged 0x1B0 (9 ∷ [])  -- total, which is summed
    ∷ damaged 0x1A4 (1 ∷ [])  -- index size, which is not
    ∷ damaged 1_792 (0 ∷ [])  -- no marker
    ∷ damaged 1_984 (0 ∷ [])  -- no identifier
    ∷ damaged 1_856 (0x20 ∷ [])  -- a stray slot
    ∷ damaged 1_856 (0x01 ∷ [])  -- an identifier elsewhere
    ∷ damaged 1_857 (2 ∷ [])  -- a run over the identifier
    ∷ damaged 1_890 (text "//f")  -- an empty part
    ∷ damaged 1_874 (1 ∷ [])  -- the end is the start
    ∷ damaged 1_874 (3 ∷ [])  -- the end is past the data area
    ∷ damaged 1_882 (1 ∷ 2 ∷ [])  -- 513 bytes in a block
    ∷ damaged 1_857 (1 ∷ [])  -- the directory's slot continues the file's name
    ∷ damaged 1_920 (0x19 ∷ [])  -- the directory is deleted
    ∷ damaged 1_890 (text "d\0")  -- two of one path
    ∷ damaged 1_890 (text "e\0")  -- another path
    ∷ []
    ≡ 0 ∷ 2 ∷ 3 ∷ 4 ∷ 5 ∷ 6 ∷ 6 ∷ 6 ∷ 6 ∷ 6 ∷ 6 ∷ 7 ∷ 7 ∷ 7 ∷ 8 ∷ 8 ∷ 8 ∷ 0 ∷ []
unfolding everything
damaged-refusals = refl

-- a later version is read and formatted, and not written
pub later-version :
    refusals (splice (splice whole 0x1AF (0x11 ∷ [])) 0x1BD (0xFC ∷ [])) (
    open_volume []
    ∷ find (text "d")
    ∷ list 0 (blank 3)
    ∷ read (text "d") []
    ∷ create new_directory [] (pos 3)
    ∷ delete (text "none") (pos 4)
    ∷ delete_keep (text "none") (pos 4)
    ∷ restore (text "none") (pos 4)
    ∷ reclaim (pos 5)
    ∷ format 0x10 512 1 [] (pos 6)
    ∷ [])
    ≡ 0 ∷ 0 ∷ 0 ∷ 17 ∷ 9 ∷ 9 ∷ 9 ∷ 9 ∷ 9 ∷ 0 ∷ []
unfolding everything refusals refusal_of
later-version = refl

-- ---- dates: both ends of the stamps, the first moment of year 0 and the one before it, and the first year of five digits
pub date-ends :
    date (negsuc 0x7FFF_FFFF_FFFF_FFFF)
    ∷ date (pos 0x7FFF_FFFF_FFFF_FFFF)
    ∷ date (negsuc (62_167_219_200 * 65_536 - 1))
    ∷ date (negsuc (62_167_219_200 * 65_536))
    ∷ date (pos (253_402_300_800 * 65_536 - 1))
    ∷ date (pos (253_402_300_800 * 65_536))
    ∷ []
    ≡ text "-4457824-07-13T18:37:52Z"
    ∷ text "4461763-06-20T05:22:07Z"
    ∷ text "0000-01-01T00:00:00Z"
    ∷ text "-0001-12-31T23:59:59Z"
    ∷ text "9999-12-31T23:59:59Z"
    ∷ text "10000-01-01T00:00:00Z"
    ∷ []
unfolding everything
date-ends = refl

-- ---- the report: document 02's lines for this volume and an empty image
-- as the program writes them, asked with two names, the last without a newline
pub terminal-report :
    output_of (λ name. pick (eq_list name (text "term7.img")) (image terminal) (image [])) (text "term7.img\nempty")
    ≡ text "file 1 1 3\ndeleted-file 0 0 0\ndir 1 0 0\ndeleted-dir 0 0 0\nunusable 0 0 0\nunused 0 0 0\nrefused 1:1\nunread 0\n"
unfolding everything
terminal-report = refl

-- no input; what cannot be read, and too long an image; deleted entries, and the slots that a reclaim leaves
pub other-reports :
    (report_of [] ≡ text "file 0 0 0\ndeleted-file 0 0 0\ndir 0 0 0\ndeleted-dir 0 0 0\nunusable 0 0 0\nunused 0 0 0\nrefused\nunread 0\n")
    × (report_of (unread ∷ image (blank 65_537) ∷ image (blank 512) ∷ unread ∷ image [] ∷ [])
    ≡ text "file 0 0 0\ndeleted-file 0 0 0\ndir 0 0 0\ndeleted-dir 0 0 0\nunusable 0 0 0\nunused 0 0 0\nrefused 1:2 2:1\nunread 2\n")
    × (report_of (image (run token mended) ∷ []) ≡ text "file 0 0 0\ndeleted-file 1 1 3\ndir 0 0 0\ndeleted-dir 1 0 0\nunusable 0 0 0\nunused 0 0 0\nrefused\nunread 0\n")
    × (report_of (image (run token (mended ++ (reclaim (pos 4) ∷ []))) ∷ [])
    ≡ text "file 0 0 0\ndeleted-file 0 0 0\ndir 0 0 0\ndeleted-dir 0 0 0\nunusable 0 0 0\nunused 2 0 0\nrefused\nunread 0\n")
unfolding everything
other-reports = (refl, refl, refl, refl)

-- lines: empty ones count, the last may lack its newline, a carriage return is part of the name
pub report-names :
    (names_of (text "a\n\nb\r\nc") ≡ text "a" ∷ [] ∷ text "b\r" ∷ text "c" ∷ [])
    × (names_of [] ≡ [])
    × (names_of (text "\n") ≡ [] ∷ [])
    × (length (names_of (replicate 1_001 newline)) ≡ 1_000)
    × (name_of_file (replicate 255 97) ≡ true)
    × (name_of_file (replicate 256 97) ≡ false)
    × (name_of_file [] ≡ false)
    × (name_of_file (text "a\0b") ≡ false)
unfolding everything
report-names = (refl, refl, refl, refl, refl, refl, refl, refl)
