-- 01, "The listing program": the text that it writes for what it read.
use Rattle.std.specs.Prelude.{ℕ, List, [], ◌∷◌, ◌++◌, length, leb}
use Prim.Native.Char.{code}
use Rattle.rules.specs.Lists.{pick, only}
use Rattle.rules.specs.Fields.{splice}
use Rattle.rules.specs.Index.{Entry, file_type, volume_name}
use Rattle.rules.specs.Regions.{held_blocks}
use Rattle.rules.specs.Paths.{is_live}
use Rattle.rules.specs.Refusals.{Verdict, refused, accepted, need, Volume, entries, judge_read}
use Rattle.rules.specs.Outcome.{Outcome, done, conclude}
use Rattle.rules.specs.Text.{text, joined, decimal}
use Rattle.rules.specs.Dates.{moment_of, moment_text}

-- F for a file, else D
abbrev pub mark_of : ℕ → ℕ
mark_of kind = pick (file_type kind) (code "F") (code "D")

-- `F 3 1969-12-31T23:59:59Z session/verified`: mark, length, date and path
unfoldable pub line_of : Entry → List ℕ
line_of e =
    joined
    ((mark_of e.kind ∷ text " ") ∷ decimal e.length ∷ text " " ∷ moment_text (moment_of e.stamp)
    ∷ text " " ∷ e.path ∷ text "\n" ∷ [])

unfoldable pub lines_of : List Entry → List ℕ
lines_of [] = []
lines_of (e ∷ es) = line_of e ++ lines_of es

-- `live N held M`: live entries, and blocks of live and deleted files
unfoldable pub count_line : List Entry → List ℕ
count_line es = joined (text "live " ∷ decimal (length (only is_live es)) ∷ text " held " ∷ decimal (held_blocks es) ∷ text "\n" ∷ [])

-- `refused N`
unfoldable pub refused_line : ℕ → List ℕ
refused_line n = joined (text "refused " ∷ decimal n ∷ text "\n" ∷ [])

-- the volume name, a line for each live entry, and the count
unfoldable pub volume_text : List ℕ → Verdict Volume → List ℕ
volume_text s (refused n) = refused_line n
volume_text s (accepted v) = (volume_name s ++ text "\n") ++ (lines_of (only is_live (entries v)) ++ count_line (entries v))

unfoldable pub listing_of : List ℕ → List ℕ
listing_of s = volume_text s (judge_read s)

-- ---- the text as a call: its length, and the text at the start of an output that any text fits, else 18
unfoldable pub text_of : List ℕ → List ℕ → Outcome ℕ
text_of s out =
    conclude 0 s out
    (need (leb 131_072 (length out)) 18
    (accepted (done (length (listing_of s)) s (splice out 0 (listing_of s)))))
