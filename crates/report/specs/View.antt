-- A report as the code holds it, and the text as its writers cut it.
use Rattle.std.specs.Prelude.{ℕ, List, [], ◌++◌, ◌==◌, slice_index_or}
use Rattle.rules.specs.Lists.{pick}
use Rattle.rules.specs.Text.{text, decimal}
use Rattle.report.specs.declared.held.Report.{Report as Held}
use Rattle.report.specs.declared.Kind.{Kind}
use Rattle.report.specs.declared.Kind.TheVariants.{File, DeletedFile, Directory, DeletedDirectory, Unusable, Unused}
use Rattle.rules.specs.Report.{Table, Report, CountedImage, numbers_line}

abbrev pub as_report : Table → List ℕ → Report
as_report t counts = record { table = t; counts = counts }

abbrev pub report_view : Held → Report
report_view r = as_report r.table r.counts

-- the place of a kind in a table
abbrev pub kind_place : Kind → ℕ
kind_place File = 0
kind_place DeletedFile = 1
kind_place Directory = 2
kind_place DeletedDirectory = 3
kind_place Unusable = 4
kind_place Unused = 5

abbrev pub counted_view : ℕ → List ℕ → CountedImage
counted_view r ns = record { answer = r; numbers = ns }

-- ---- the text
abbrev pub row_text : List ℕ → List ℕ → List ℕ
row_text word row = word ++ numbers_line row

abbrev pub kind_text : Table → ℕ → List ℕ → List ℕ
kind_text t k word = row_text word (slice_index_or t k [])

-- the first three kinds, and the others
abbrev pub upper_text : Table → List ℕ
upper_text t = kind_text t 0 (text "file") ++ (kind_text t 1 (text "deleted-file") ++ kind_text t 2 (text "dir"))

abbrev pub lower_text : Table → List ℕ
lower_text t = kind_text t 3 (text "deleted-dir") ++ (kind_text t 4 (text "unusable") ++ kind_text t 5 (text "unused"))

abbrev pub pair_text : ℕ → ℕ → List ℕ
pair_text n c = pick (c == 0) [] ((text " " ++ decimal n) ++ (text ":" ++ decimal c))
