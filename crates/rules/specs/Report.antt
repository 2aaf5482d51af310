-- 02, K5: a report on many images: sums by kind, its text, and the names that its program is asked with.
use Rattle.std.specs.Prelude.{ℕ, zero, suc, ◌+◌, ◌%◌, ◌^◌, ◌≤◌, ◌≡◌, Bool, ◌&&◌, not, List, [], ◌∷◌, ◌++◌, map, length, take, eqb, leb}
use Rattle.rules.specs.Lists.{pick, both, only, sum, part}
use Rattle.rules.specs.Text.{text, joined, decimal}
use Rattle.rules.specs.Fields.{splice, has_zero}
use Rattle.rules.specs.Index.{Item, unused, stale, entry, fault, type_file, type_deleted_file, type_directory, type_deleted_directory}
use Rattle.rules.specs.Regions.{blocks_of}
use Rattle.rules.specs.Refusals.{Verdict, refused, accepted, need, Volume, judge_read}
use Rattle.rules.specs.Outcome.{Outcome, done, conclude}

-- ---- kinds, in the order of the lines: live file, deleted file, directory, deleted directory, unusable, unused
-- of an entry, by its type; one that is none of the first four is unusable
unfoldable pub entry_kind : ℕ → ℕ
entry_kind t =
    pick (eqb t type_file) 0
    (pick (eqb t type_deleted_file) 1
    (pick (eqb t type_directory) 2
    (pick (eqb t type_deleted_directory) 3 4)))

-- what is left over counts as the unused slots it is; a fault, which no image that opens has, is of no kind
unfoldable pub item_kind : Item → ℕ
item_kind (unused k) = 5
item_kind (stale k n) = 5
item_kind (entry e) = entry_kind e.kind
item_kind (fault k) = 6

-- slots, continuing ones too
unfoldable pub slots_in : Item → ℕ
slots_in (unused k) = 1
slots_in (stale k n) = n
slots_in (entry e) = e.slots
slots_in (fault k) = 1

-- blocks, by region
unfoldable pub blocks_in : Item → ℕ
blocks_in (unused k) = 0
blocks_in (stale k n) = 0
blocks_in (entry e) = blocks_of e
blocks_in (fault k) = 0

-- bytes, by a file's length; any other entry has a length of 0
unfoldable pub bytes_in : Item → ℕ
bytes_in (unused k) = 0
bytes_in (stale k n) = 0
bytes_in (entry e) = e.length
bytes_in (fault k) = 0

-- ---- sums
-- those of one kind: slots, blocks, bytes
unfoldable pub sums_of_kind : List Item → ℕ → List ℕ
sums_of_kind is k = let js = only (λ i. eqb (item_kind i) k) is in sum slots_in js ∷ sum blocks_in js ∷ sum bytes_in js ∷ []

-- a table: six kinds by three sums
abbrev pub Table : Type 0
Table = List (List ℕ)

unfoldable pub sums_of : List Item → Table
sums_of is = sums_of_kind is 0 ∷ sums_of_kind is 1 ∷ sums_of_kind is 2 ∷ sums_of_kind is 3 ∷ sums_of_kind is 4 ∷ sums_of_kind is 5 ∷ []

-- only images that open have sums
unfoldable pub opened_sums : Verdict Volume → Table
opened_sums (refused n) = sums_of []
opened_sums (accepted v) = sums_of v.items

unfoldable pub image_sums : List ℕ → Table
image_sums s = opened_sums (judge_read s)

-- a sum has 64 bits
abbrev pub plus64 : ℕ → ℕ → ℕ
plus64 a b = (a + b) % 2 ^ 64

unfoldable pub added : Table → Table → Table
added t u = both (both plus64) t u

-- ---- nine counts: files that could not be read, then images refused with 1, 2 and so on up to 8, which are all that an image is refused with
-- one more at place n
unfoldable pub one_more : ℕ → List ℕ → List ℕ
one_more n [] = []
one_more zero (c ∷ cs) = plus64 c 1 ∷ cs
one_more (suc n) (c ∷ cs) = c ∷ one_more n cs

unfoldable pub count_verdict : Verdict Volume → List ℕ → List ℕ
count_verdict (refused n) counts = one_more n counts
count_verdict (accepted v) counts = counts

-- ---- a report on what was read, one file after the other
pub data Source : Type 0 where
  unread : Source
  image : List ℕ → Source

pub record Report : Type 0 where
  pub table : Table
  pub counts : List ℕ

-- before the first file
unfoldable pub no_report : Report
no_report = record { table = sums_of []; counts = 0 ∷ 0 ∷ 0 ∷ 0 ∷ 0 ∷ 0 ∷ 0 ∷ 0 ∷ 0 ∷ [] }

unfoldable pub with_image : List ℕ → Report → Report
with_image s r = record { table = added r.table (image_sums s); counts = count_verdict (judge_read s) r.counts }

unfoldable pub with_source : Source → Report → Report
with_source unread r = record { table = r.table; counts = one_more 0 r.counts }
with_source (image s) r = with_image s r

-- the first source is counted first
unfoldable pub report_from : Report → List Source → Report
report_from r [] = r
report_from r (x ∷ xs) = report_from (with_source x r) xs

-- what a file adds, and the sum of what all of them add
unfoldable pub source_sums : Source → Table
source_sums unread = sums_of []
source_sums (image s) = image_sums s

unfoldable pub totals : List Source → Table
totals [] = sums_of []
totals (x ∷ xs) = both (both ◌+◌) (source_sums x) (totals xs)

-- after any list of files the table is this sum, 64 bits of each number (`table-sums`)
abbrev pub TableSums : Type 0
TableSums = (xs : List Source) → (report_from no_report xs).table ≡ added (sums_of []) (totals xs)

-- after up to 1,000 it is the sum itself (`no_wrap`)
abbrev pub NoWrap : Type 0
NoWrap = (xs : List Source) → length xs ≤ 1_000 → (report_from no_report xs).table ≡ totals xs

-- ---- the text
-- ` N N N` and a newline
unfoldable pub numbers_line : List ℕ → List ℕ
numbers_line [] = text "\n"
numbers_line (n ∷ ns) = text " " ++ (decimal n ++ numbers_line ns)

-- a word and its numbers, line by line
unfoldable pub table_lines : List (List ℕ) → Table → List ℕ
table_lines [] t = []
table_lines (w ∷ ws) [] = []
table_lines (w ∷ ws) (r ∷ t) = (w ++ numbers_line r) ++ table_lines ws t

unfoldable pub kind_words : List (List ℕ)
kind_words = text "file" ∷ text "deleted-file" ∷ text "dir" ∷ text "deleted-dir" ∷ text "unusable" ∷ text "unused" ∷ []

-- ` number:count` for each count, from this number on, that is not 0
unfoldable pub pairs : ℕ → List ℕ → List ℕ
pairs n [] = []
pairs n (c ∷ cs) = pick (eqb c 0) [] (text " " ++ (decimal n ++ (text ":" ++ decimal c))) ++ pairs (suc n) cs

unfoldable pub count_lines : List ℕ → List ℕ
count_lines [] = []
count_lines (u ∷ cs) = joined (text "refused" ∷ pairs 1 cs ∷ text "\nunread " ∷ decimal u ∷ text "\n" ∷ [])

unfoldable pub report_text : Report → List ℕ
report_text r = table_lines kind_words r.table ++ count_lines r.counts

unfoldable pub report_of : List Source → List ℕ
report_of xs = report_text (report_from no_report xs)

-- ---- the names: the lines of the input
abbrev pub newline : ℕ
newline = 10

-- p is what has been read of a line; a newline ends it, and at the end of the input it is one where it has bytes
unfoldable pub lines_after : List ℕ → List ℕ → List (List ℕ)
lines_after p [] = pick (eqb (length p) 0) [] (p ∷ [])
lines_after p (b ∷ bs) = pick (eqb b newline) (p ∷ lines_after [] bs) (lines_after (p ++ (b ∷ [])) bs)

-- lines past the 1,000th are not used
unfoldable pub names_of : List ℕ → List (List ℕ)
names_of input = take 1_000 (lines_after [] input)

-- whether a line is a name of a file
unfoldable pub name_of_file : List ℕ → Bool
name_of_file line = leb 1 (length line) && leb (length line) 255 && not (has_zero line)

-- a line that is none is as a file that could not be read; `files` is what each name was read as
unfoldable pub source_of : (List ℕ → Source) → List ℕ → Source
source_of files line = pick (name_of_file line) (files line) unread

-- THE PROGRAM: what it writes, by its input and what the files were read as
unfoldable pub output_of : (List ℕ → Source) → List ℕ → List ℕ
output_of files input = report_of (map (source_of files) (names_of input))

-- ---- as calls, by our own rule: on 27 numbers, the three sums of each kind and then the nine counts; what follows them stays
unfoldable pub report_in : List ℕ → Report
report_in ns = record {
  table = part ns 0 3 ∷ part ns 3 3 ∷ part ns 6 3 ∷ part ns 9 3 ∷ part ns 12 3 ∷ part ns 15 3 ∷ [];
  counts = part ns 18 9;
}

unfoldable pub report_numbers : Report → List ℕ
report_numbers r = joined r.table ++ r.counts

unfoldable pub verdict_number : Verdict Volume → ℕ
verdict_number (refused n) = n
verdict_number (accepted v) = 0

pub record CountedImage : Type 0 where
  pub answer : ℕ
  pub numbers : List ℕ

-- an image is counted, and the answer is its refusal; with fewer numbers 18, before anything else, and nothing is counted
unfoldable pub count_image : List ℕ → List ℕ → CountedImage
count_image s ns =
    pick (leb 27 (length ns))
    (record { answer = verdict_number (judge_read s); numbers = splice ns 0 (report_numbers (with_image s (report_in ns))) })
    (record { answer = 18; numbers = ns })

-- the text of a report at the start of an output that any text fits (`report-fits`), and its length; else 18. The numbers stand where other outcomes have the image
unfoldable pub report_text_of : List ℕ → List ℕ → Outcome ℕ
report_text_of ns out =
    conclude 0 ns out
    (need (leb 27 (length ns) && leb 1_024 (length out)) 18
    (accepted (done (length (report_text (report_in ns))) ns (splice out 0 (report_text (report_in ns))))))
