-- Request K4, edition 1.10: small runs from bytes to bytes, and where the two editions part.
use Prim.Native.Nat.{ℕ}
use mathlib.Core.Bool.{true}
use mathlib.Core.Path.{◌≡◌, refl}
use mathlib.Core.List.{List, [], ◌∷◌, ◌++◌}
use mathlib.Core.Option.{some}
use lib.ListN.{replicate}
use lib.IntN.{pos}
use Rattle.rules.specs.Lists.{part}
use Rattle.rules.specs.Lists.Laws.{eq_list-true}
use Rattle.rules.specs.Fields.{splice}
use Rattle.rules.specs.Editions.{edition10, edition110}
use Rattle.rules.specs.Index.{type_file, type_directory, continuing, marker_bytes, unused_bytes}
use Rattle.rules.specs.Refusals.{refused, edition_of, judge, judge_as, OneEdition}
use Rattle.rules.specs.Refusals.Laws.{one-edition}
use Rattle.rules.specs.Outcome.{done}
use Rattle.rules.specs.Reading.{open_of, find_of, list_of, read_of}
use Rattle.rules.specs.Writing.{new_file, new_directory, format_of}
use Rattle.rules.specs.History.{Call, format, open_volume, find, list, create, delete, delete_keep, restore, reclaim, run, told, nothing}
use Rattle.rules.specs.Text.{text}
use Rattle.rules.specs.Listing.{listing_of}
use Rattle.cases.proofs.Computing.{everything}
use Rattle.cases.proofs.Runs.{refusals, refusal_of}

-- no image opens as both editions, whichever magic were sought first
pub opens-once : OneEdition
opens-once = one-edition

abbrev blank : ℕ → List ℕ
blank n = replicate n 0

abbrev magic : List ℕ
magic = text "SFS"

-- open's refusal
abbrev opened : List ℕ → ℕ
opened s = (open_of s (blank 5)).refusal

-- ---- 1,024 bytes, the least that can be formatted: blocks of 256, 2 of them reserved
abbrev small : List ℕ
small = run (blank 1_024) (format 0x1A 256 2 (text "SMALL") (pos 5) ∷ [])

-- every byte that format writes: the super-block from 0x18E on, the marker and the identifier with their sums
pub small_bytes :
    small
    ≡ blank 0x18E
    ++ ((5 ∷ blank 7)
    ++ (blank 8
    ++ ((128 ∷ blank 7)
    ++ ((0x53 ∷ 0x46 ∷ 0x53 ∷ 0x1A ∷ 4 ∷ blank 7)
    ++ ((2 ∷ 0 ∷ 0 ∷ 0 ∷ 1 ∷ 0xF3 ∷ blank 456)
    ++ ((0x02 ∷ 0xFE ∷ blank 62)
    ++ ((0x01 ∷ 0x81 ∷ 0 ∷ 0 ∷ 5 ∷ blank 7)
    ++ (text "SMALL" ++ blank 47))))))))
unfolding everything
small_bytes = refl

pub small_open :
    open_of small (blank 8)
    ≡ done
    (record {
      edition = 0x1A;
      version = 0x1A;
      total = 4;
      reserved = 2;
      block_length = 256;
      data_blocks = 0;
      index_bytes = 128;
      stamp = pos 5;
      volume_stamp = pos 5;
      name_length = 5;
    })
    small
    (text "SMALL" ++ blank 3)
unfolding everything
small_open = refl

-- a marker and an unused slot, as they are written
abbrev unused_slot : List ℕ
unused_slot = 0x10 ∷ 0xF0 ∷ blank 62

pub bare-slots : (marker_bytes edition110 ≡ 0x02 ∷ 0xFE ∷ blank 62) × (unused_bytes edition110 2 ≡ unused_slot ++ unused_slot)
unfolding everything
bare-slots = (refl, refl)

-- a first slot holds one byte less of a name: 28 and its zero for a file, 52 for a directory
pub name-slots :
    continuing edition110 type_file 28
    ∷ continuing edition110 type_file 29
    ∷ continuing edition110 type_file 92
    ∷ continuing edition110 type_file 93
    ∷ continuing edition110 type_directory 52
    ∷ continuing edition110 type_directory 53
    ∷ []
    ≡ 0 ∷ 1 ∷ 1 ∷ 2 ∷ 0 ∷ 1 ∷ []
unfolding everything
name-slots = refl

-- ---- the version that format is given, at its full width, after the image's length and before the name
abbrev formats : ℕ → ℕ → ℕ → ℕ
formats n version name_length = (format_of (blank n) version 256 2 (replicate name_length 0x61) (pos 0)).refusal

pub format-versions :
    formats 1_024 0x10 0
    ∷ formats 1_024 0x1A 0
    ∷ formats 1_024 0x11 0
    ∷ formats 1_024 0 0
    ∷ formats 1_024 0x11A 0
    ∷ formats 511 0x11 0
    ∷ formats 1_024 0x11 52
    ∷ formats 1_024 0x1A 52
    ∷ []
    ≡ 0 ∷ 0 ∷ 5 ∷ 5 ∷ 5 ∷ 1 ∷ 5 ∷ 10 ∷ []
unfolding everything
format-versions = refl

-- ---- which edition an image has
-- the version in its place is 0x1A and no other
pub version-refusals :
    opened (splice small 0x1A9 (0x10 ∷ []))
    ∷ opened (splice small 0x1A9 (0x1B ∷ []))
    ∷ opened (splice small 0x1B7 (0 ∷ []))
    ∷ opened (splice small 0x1A6 (0 ∷ []))
    ∷ []
    ≡ 3 ∷ 3 ∷ 4 ∷ 2 ∷ []
unfolding everything
version-refusals = refl

abbrev small10 : List ℕ
small10 = run (blank 1_024) (format 0x10 256 2 (text "SMALL") (pos 5) ∷ [])

-- with both magics it is 1.0: the index size is wrong; the other edition would miss its version
abbrev both10 : List ℕ
both10 = splice small10 0x1A6 magic

pub both-as-first : (edition_of both10 ≡ some edition10) × (judge both10 ≡ refused 5) × (judge_as edition110 both10 ≡ refused 3)
unfolding everything
both-as-first = (refl, refl, refl)

-- the same of a 1.10 volume: 1.0 misses its version; the other edition, its checksum
abbrev both110 : List ℕ
both110 = splice small 0x1AC magic

pub both-still-first : (edition_of both110 ≡ some edition10) × (judge both110 ≡ refused 3) × (judge_as edition110 both110 ≡ refused 4)
unfolding everything
both-still-first = (refl, refl, refl)

-- 0x1A in the place of 1.0 is a later version of it: read, and not written
abbrev later : List ℕ
later = splice (splice small10 0x1AF (0x1A ∷ [])) 0x1BD (0xF3 ∷ [])

pub later-open :
    ((open_of later (blank 5)).answer.edition ≡ 0x10) × ((open_of later (blank 5)).answer.version ≡ 0x1A)
    × (refusals later (reclaim (pos 6) ∷ []) ≡ 9 ∷ []) × (refusals small (reclaim (pos 6) ∷ []) ≡ 0 ∷ [])
unfolding everything refusals refusal_of
later-open = (refl, refl, refl, refl)

-- ---- a directory, and a file of three bytes in it: block 2 at 512, marker at 768, the file's slot at 832, the directory's at 896
abbrev filled : List ℕ
filled = run small (create new_directory (text "d") (pos 6) ∷ create (new_file (text "yes")) (text "d/f") (pos 7) ∷ [])

abbrev file_slot : List ℕ
file_slot =
    (0x12 ∷ 0xE7 ∷ 0 ∷ 7 ∷ blank 7)
    ++ ((2 ∷ blank 7)
    ++ ((2 ∷ blank 7)
    ++ ((3 ∷ blank 7)
    ++ (text "d/f" ++ blank 26))))

abbrev directory_slot : List ℕ
directory_slot = (0x11 ∷ 0x85 ∷ 0 ∷ 6 ∷ blank 7) ++ (text "d" ++ blank 52)

-- stamp and sizes, the block, and the index
pub filled-bytes :
    filled
    ≡ splice
    (splice (splice small 0x18E ((7 ∷ blank 7) ++ ((1 ∷ blank 7) ++ (0 ∷ 1 ∷ [])))) 512 (text "yes"))
    768
    ((0x02 ∷ 0xFE ∷ blank 62) ++ (file_slot ++ directory_slot))
unfolding everything
filled-bytes = refl

-- the end is the last block, and a directory has none
pub filled-find :
    ((find_of filled (text "d/f")).answer ≡ record { slot = 1; kind = type_file; start = 2; end = 2; length = 3; stamp = pos 7 })
    × ((find_of filled (text "d")).answer ≡ record { slot = 2; kind = type_directory; start = 0; end = 0; length = 0; stamp = pos 6 })
    × ((list_of filled 0 (blank 3)).answer.found.end ≡ 2)
unfolding everything
filled-find = (refl, refl, refl)

pub filled-read : ((read_of filled (text "d/f") (blank 4)).answer ≡ 3) × ((read_of filled (text "d/f") (blank 4)).output ≡ text "yes\0")
unfolding everything
filled-read = (refl, refl)

pub filled-listing : listing_of filled ≡ text "SMALL\nF 3 1970-01-01T00:00:00Z d/f\nD 0 1970-01-01T00:00:00Z d\nlive 2 held 1\n"
unfolding everything
filled-listing = refl

-- two blocks, and none
pub two_blocks :
    (find_of (run (blank 1_536) (format 0x1A 256 2 [] (pos 0) ∷ create (new_file (replicate 257 7)) (text "a") (pos 1) ∷ [])) (text "a")).answer
    ≡ record { slot = 1; kind = type_file; start = 2; end = 3; length = 257; stamp = pos 1 }
unfolding everything
two_blocks = refl

pub no_blocks :
    (find_of (run small (create (new_file []) (text "a") (pos 6) ∷ [])) (text "a")).answer
    ≡ record { slot = 1; kind = type_file; start = 0; end = 0; length = 0; stamp = pos 6 }
unfolding everything
no_blocks = refl

-- opening does not judge the order of entries: the directory first, then its file
pub directory-first : (find_of (splice filled 832 (directory_slot ++ file_slot)) (text "d/f")).answer.slot ≡ 2
unfolding everything
directory-first = refl

-- ---- a delete that keeps writes unused slots at once, and nothing else: no stamp, no wiping, no trimming
abbrev emptied : List ℕ
emptied = run filled (delete_keep (text "d/f") (pos 8) ∷ [])

pub emptied-bytes : emptied ≡ splice filled 832 unused_slot
unfolding everything
emptied-bytes = eq_list-true emptied (splice filled 832 unused_slot) refl

-- the plain one also fills its block with zeros and trims the data area, with its stamp
abbrev wiped_out : List ℕ
wiped_out = splice (splice (splice filled 832 unused_slot) 0x18E (8 ∷ blank 15)) 512 (blank 256)

pub wiped-bytes : run filled (delete (text "d/f") (pos 8) ∷ []) ≡ wiped_out
unfolding everything
wiped-bytes = eq_list-true (run filled (delete (text "d/f") (pos 8) ∷ [])) wiped_out refl

-- a directory goes after what is below it; of what is deleted nothing is found, however often it is asked for
pub emptied-refusals :
    refusals filled (
    restore (text "d/f") (pos 8)
    ∷ delete (text "d") (pos 8)
    ∷ delete (text "d/f") (pos 8)
    ∷ restore (text "d/f") (pos 9)
    ∷ restore (text "d/f") (pos 9)
    ∷ restore (text "d/") (pos 9)
    ∷ find (text "d/f")
    ∷ delete (text "d") (pos 9)
    ∷ restore (text "d") (pos 9)
    ∷ [])
    ≡ 11 ∷ 14 ∷ 0 ∷ 11 ∷ 11 ∷ 10 ∷ 11 ∷ 0 ∷ 11 ∷ []
unfolding everything refusals refusal_of
emptied-refusals = refl

-- its block is free, its slot too: both are taken again
pub taken-again :
    (find_of (run emptied (create (new_file (text "no")) (text "d/g") (pos 9) ∷ [])) (text "d/g")).answer
    ≡ record { slot = 1; kind = type_file; start = 2; end = 2; length = 2; stamp = pos 9 }
unfolding everything
taken-again = refl

-- nothing is held, and a reclaim trims
pub emptied-listing : listing_of emptied ≡ text "SMALL\nD 0 1970-01-01T00:00:00Z d\nlive 1 held 0\n"
unfolding everything
emptied-listing = refl

pub emptied-trimmed : run emptied (reclaim (pos 9) ∷ []) ≡ splice emptied 0x18E (9 ∷ blank 15)
unfolding everything
emptied-trimmed = eq_list-true (run emptied (reclaim (pos 9) ∷ [])) (splice emptied 0x18E (9 ∷ blank 15)) refl

-- the history strikes it, and has its block back
pub emptied-told :
    told (blank 1_024) nothing (
    format 0x1A 256 2 [] (pos 5)
    ∷ create new_directory (text "d") (pos 6)
    ∷ create (new_file (text "yes")) (text "d/f") (pos 7)
    ∷ delete_keep (text "d/f") (pos 8)
    ∷ restore (text "d/f") (pos 9)
    ∷ reclaim (pos 10)
    ∷ [])
    ≡ record {
      edition = edition110;
      block_bytes = 256;
      kept = record { path = text "d"; kind = type_directory; bytes = []; blocks = 0; live = true } ∷ [];
      granted = 1;
      given_back = 1;
    }
unfolding everything
emptied-told = refl

-- ---- sums: a wrong one in the marker, the file, the directory and the identifier; then a byte that is changed without its sum
abbrev damaged : ℕ → List ℕ → ℕ
damaged at bytes = opened (splice filled at bytes)

pub sum-refusals :
    damaged 769 (0xFD ∷ [])
    ∷ damaged 833 (0xE8 ∷ [])
    ∷ damaged 897 (0x84 ∷ [])
    ∷ damaged 961 (0x80 ∷ [])
    ∷ damaged 867 (text "e/f")  -- another name
    ∷ damaged 895 (1 ∷ [])  -- a byte behind the name
    ∷ []
    ≡ 6 ∷ 6 ∷ 6 ∷ 6 ∷ 6 ∷ 6 ∷ []
unfolding everything
sum-refusals = refl

-- the sum is right: an end past the data area, one before the start, 257 bytes in a block, a path with no directory, another stamp
pub right-sums :
    damaged 833 (0xE6 ∷ 0 ∷ 7 ∷ (blank 7 ++ ((2 ∷ blank 7) ++ (3 ∷ []))))
    ∷ damaged 833 (0xE8 ∷ 0 ∷ 7 ∷ (blank 7 ++ ((2 ∷ blank 7) ++ (1 ∷ []))))
    ∷ damaged 833 (0xE8 ∷ 0 ∷ 7 ∷ (blank 7 ++ ((2 ∷ blank 7) ++ ((2 ∷ blank 7) ++ (1 ∷ 1 ∷ [])))))
    ∷ damaged 897 (0x84 ∷ 0 ∷ 6 ∷ (blank 7 ++ text "e"))
    ∷ damaged 897 (0x84 ∷ 0 ∷ 7 ∷ [])
    ∷ []
    ≡ 7 ∷ 7 ∷ 7 ∷ 8 ∷ 0 ∷ []
unfolding everything
right-sums = refl

-- an unusable entry in the file's place, block 2 to block 2: its region stays at 10 and 18
abbrev unusable_slot : ℕ → ℕ → List ℕ
unusable_slot sum end = (0x18 ∷ sum ∷ blank 8) ++ ((2 ∷ blank 7) ++ (end ∷ blank 45))

pub unusable-refusals :
    damaged 832 (unusable_slot 0xE4 2) ∷ damaged 832 (unusable_slot 0xE5 2) ∷ damaged 832 (unusable_slot 0xE3 3) ∷ []
    ≡ 0 ∷ 6 ∷ 7 ∷ []
unfolding everything
unusable-refusals = refl

-- ---- what is left over. Five unused slots at 640, 704, 768, 832 and 896, which a file's name had
abbrev long_name : List ℕ
long_name = replicate 221 0x61

abbrev roomy : List ℕ
roomy = run small (create (new_file []) long_name (pos 6) ∷ delete long_name (pos 7) ∷ [])

pub roomy-slots : part roomy 640 320 ≡ unused_bytes edition110 5
unfolding everything
roomy-slots = refl

-- a stray slot; a deleted file of two slots with a wrong sum; an unused slot with a wrong sum; a deleted directory of two slots with a right one, the second
-- of which could be no head
abbrev littered : List ℕ
littered =
    splice roomy 640 (
    (0x20 ∷ blank 63)
    ++ ((0x1A ∷ 0 ∷ 1 ∷ blank 61)
    ++ ((0x10 ∷ blank 63)
    ++ ((0x19 ∷ 0xD4 ∷ 1 ∷ blank 61) ++ (0x12 ∷ blank 63)))))

-- all become unused slots, but the third, which is one
abbrev swept : List ℕ
swept = splice roomy 768 (0x10 ∷ blank 63)

-- an accepted call sweeps first, also one that changes nothing else
pub littered-swept : run littered (reclaim (pos 8) ∷ []) ≡ swept
unfolding everything
littered-swept = eq_list-true (run littered (reclaim (pos 8) ∷ [])) swept refl

pub littered-created : run littered (create new_directory (text "d") (pos 6) ∷ []) ≡ splice swept 640 directory_slot
unfolding everything
littered-created = eq_list-true (run littered (create new_directory (text "d") (pos 6) ∷ [])) (splice swept 640 directory_slot) refl

-- they are five unused slots to a create
pub littered-filled : (open_of (run littered (create (new_file []) long_name (pos 8) ∷ [])) (blank 5)).answer.index_bytes ≡ 448
unfolding everything
littered-filled = refl

-- calls that are refused, and those that do not write, leave all as it is
abbrev idle : List Call
idle =
    open_volume (blank 5)
    ∷ list 0 []
    ∷ find (text "a")
    ∷ delete (text "a") (pos 8)
    ∷ delete_keep (text "a") (pos 8)
    ∷ restore (text "a") (pos 8)
    ∷ create new_directory (text "a/") (pos 8)
    ∷ create new_directory (text "a/b") (pos 8)
    ∷ format 0x11 256 2 [] (pos 8)
    ∷ []

pub littered-refusals : refusals littered idle ≡ 0 ∷ 0 ∷ 11 ∷ 11 ∷ 11 ∷ 11 ∷ 10 ∷ 13 ∷ 5 ∷ []
unfolding everything refusals refusal_of
littered-refusals = refl

pub littered-left : run littered idle ≡ littered
unfolding everything
littered-left = eq_list-true (run littered idle) littered refl

-- behind a wrong deleted head the next slot is a head, where an identifier or a marker is 6; in a right run it is not looked at. A deleted
-- run that reaches the identifier is a wrong one, of one slot, also where all would sum to 0
pub deleted-heads :
    opened (splice littered 768 (0x01 ∷ []))
    ∷ opened (splice littered 768 (0x02 ∷ []))
    ∷ opened (splice littered 833 (0xD5 ∷ []))
    ∷ opened (splice littered 833 (0xE5 ∷ 1 ∷ (blank 61 ++ (0x01 ∷ []))))
    ∷ opened (splice roomy 896 (0x1A ∷ 0xE5 ∷ 1 ∷ blank 61))
    ∷ []
    ≡ 6 ∷ 6 ∷ 6 ∷ 0 ∷ 0 ∷ []
unfolding everything
deleted-heads = refl

-- in edition 1.0 a stray slot is 6
pub stray10 :
    opened (splice (run small10 (create (new_file []) (text "a") (pos 6) ∷ delete (text "a") (pos 7) ∷ reclaim (pos 8) ∷ [])) 896 (0x20 ∷ [])) ≡ 6
unfolding everything
stray10 = refl

-- ---- a new entry lies before its directories' entries. The one unused slot, 2, is behind that of d, 1
abbrev behind : List ℕ
behind = run small (create (new_file []) (text "e") (pos 6) ∷ create new_directory (text "d") (pos 7) ∷ delete (text "e") (pos 8) ∷ [])

abbrev placed : List ℕ → List ℕ → List ℕ
placed s path =
    let t : List ℕ = run s (create (new_file []) path (pos 9) ∷ []) in
    (find_of t path).answer.slot ∷ (find_of t (text "d")).answer.slot ∷ (open_of t (blank 5)).answer.index_bytes ∷ []

-- a file in d makes the index grow; one that is not takes the slot, as does one whose path only begins like that of d
pub behind-placed :
    (placed behind (text "d/f") ≡ 1 ∷ 2 ∷ 320 ∷ []) × (placed behind (text "f") ≡ 2 ∷ 1 ∷ 256 ∷ [])
    × (placed behind (text "df") ≡ 2 ∷ 1 ∷ 256 ∷ [])
unfolding everything
behind-placed = (refl, refl, refl)

-- in edition 1.0 it takes the slot
abbrev behind10 : List ℕ
behind10 =
    run small10 (
    create (new_file []) (text "e") (pos 6)
    ∷ create new_directory (text "d") (pos 7)
    ∷ delete (text "e") (pos 8)
    ∷ reclaim (pos 8)
    ∷ [])

pub behind-placed10 : placed behind10 (text "d/f") ≡ 2 ∷ 1 ∷ 256 ∷ []
unfolding everything
behind-placed10 = refl

-- of two directories the one that stands first decides: the unused slot is between a/b and a, slots 1 and 3
abbrev between : List ℕ
between =
    run small (
    create new_directory (text "a") (pos 6)
    ∷ create (new_file []) (text "e") (pos 6)
    ∷ create new_directory (text "a/b") (pos 7)
    ∷ delete (text "e") (pos 8)
    ∷ [])

abbrev new_slot : List ℕ → ℕ
new_slot path = (find_of (run between (create (new_file []) path (pos 9) ∷ [])) path).answer.slot

pub between-placed : new_slot (text "a/b/c") ∷ new_slot (text "a/c") ∷ [] ≡ 1 ∷ 2 ∷ []
unfolding everything
between-placed = refl
