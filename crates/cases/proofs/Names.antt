-- Names in UTF-8: RFC 3629's own examples, both sides of every edge, and names with accents on a volume.
use Prim.Native.Nat.{ℕ}
use Prim.Native.String.{String}
use mathlib.Core.Bool.{true, false}
use mathlib.Core.Path.{◌≡◌, refl}
use mathlib.Core.List.{List, [], ◌∷◌, ◌++◌}
use mathlib.Core.Option.{some}
use lib.ListN.{replicate}
use lib.IntN.{pos}
use Rattle.rules.specs.Lists.{all, any}
use Rattle.rules.specs.Fields.{splice}
use Rattle.rules.specs.Utf8.{encode_all, decode}
use Rattle.rules.specs.Names.{text_good, new_path_good, volume_name_good}
use Rattle.rules.specs.Reading.{open_of}
use Rattle.rules.specs.Writing.{new_file}
use Rattle.rules.specs.History.{Call, format, open_volume, find, create, delete, run}
use Rattle.rules.specs.Text.{text}
use Rattle.cases.proofs.Computing.{everything}
use Rattle.cases.proofs.Runs.{refusals, refusal_of}

-- a text in UTF-8; `text` gives the codes of its characters
abbrev utf8 : String → List ℕ
utf8 s = encode_all (text s)

-- ---- RFC 3629, section 7: "A≢Α.", three characters of Korean and of Japanese, and U+233B4 behind a byte order mark
pub rfc-greek : decode (0x41 ∷ 0xE2 ∷ 0x89 ∷ 0xA2 ∷ 0xCE ∷ 0x91 ∷ 0x2E ∷ []) ≡ some (0x41 ∷ 0x2262 ∷ 0x391 ∷ 0x2E ∷ [])
unfolding everything
rfc-greek = refl

pub rfc-korean : decode (0xED ∷ 0x95 ∷ 0x9C ∷ 0xEA ∷ 0xB5 ∷ 0xAD ∷ 0xEC ∷ 0x96 ∷ 0xB4 ∷ []) ≡ some (0xD55C ∷ 0xAD6D ∷ 0xC5B4 ∷ [])
unfolding everything
rfc-korean = refl

pub rfc-japanese : decode (0xE6 ∷ 0x97 ∷ 0xA5 ∷ 0xE6 ∷ 0x9C ∷ 0xAC ∷ 0xE8 ∷ 0xAA ∷ 0x9E ∷ []) ≡ some (0x65E5 ∷ 0x672C ∷ 0x8A9E ∷ [])
unfolding everything
rfc-japanese = refl

pub rfc-marked : decode (0xEF ∷ 0xBB ∷ 0xBF ∷ 0xF0 ∷ 0xA3 ∷ 0x8E ∷ 0xB4 ∷ []) ≡ some (0xFEFF ∷ 0x233B4 ∷ [])
unfolding everything
rfc-marked = refl

-- ---- both sides of each edge
pub edges-good :
    all text_good (
    [] ∷ (0x20 ∷ []) ∷ (0x7E ∷ []) ∷ (0xC2 ∷ 0xA1 ∷ []) ∷ (0xC3 ∷ 0x80 ∷ []) ∷ (0xDF ∷ 0xBF ∷ [])
    ∷ (0xE0 ∷ 0xA0 ∷ 0x80 ∷ []) ∷ (0xED ∷ 0x9F ∷ 0xBF ∷ []) ∷ (0xEE ∷ 0x80 ∷ 0x80 ∷ []) ∷ (0xEF ∷ 0xBF ∷ 0xBF ∷ [])
    ∷ (0xF0 ∷ 0x90 ∷ 0x80 ∷ 0x80 ∷ []) ∷ (0xF4 ∷ 0x8F ∷ 0xBF ∷ 0xBF ∷ []) ∷ [])
    ≡ true
unfolding everything
edges-good = refl

-- controls and marks, lone and missing tails, longer forms than needed, surrogates, above U+10FFFF, and what is no byte
pub edges-bad :
    any text_good (
    (0x1F ∷ []) ∷ (0x3F ∷ []) ∷ (0x7F ∷ []) ∷ (0xC2 ∷ 0x80 ∷ []) ∷ (0xC2 ∷ 0xA0 ∷ [])
    ∷ (0x80 ∷ []) ∷ (0xBF ∷ []) ∷ (0xC3 ∷ []) ∷ (0xC3 ∷ 0x2F ∷ []) ∷ (0xE2 ∷ 0x89 ∷ []) ∷ (0xF0 ∷ 0xA3 ∷ 0x8E ∷ [])
    ∷ (0xC0 ∷ 0xAF ∷ []) ∷ (0xC1 ∷ 0xBF ∷ []) ∷ (0xE0 ∷ 0x9F ∷ 0xBF ∷ []) ∷ (0xF0 ∷ 0x8F ∷ 0xBF ∷ 0xBF ∷ [])
    ∷ (0xED ∷ 0xA0 ∷ 0x80 ∷ []) ∷ (0xED ∷ 0xBF ∷ 0xBF ∷ []) ∷ (0xF4 ∷ 0x90 ∷ 0x80 ∷ 0x80 ∷ []) ∷ (0xF5 ∷ 0x80 ∷ 0x80 ∷ 0x80 ∷ [])
    ∷ (0xC3 ∷ 0x180 ∷ []) ∷ (0x1C3 ∷ 0x80 ∷ []) ∷ [])
    ≡ false
unfolding everything
edges-bad = refl

-- ---- lengths are bytes
-- so many of U+233B4
abbrev fours : ℕ → List ℕ
fours n = encode_all (replicate n 0x233B4)

pub lengths :
    (new_path_good (fours 71 ++ text "a") ≡ true) × (new_path_good (fours 71 ++ text "ab") ≡ false)
    × (volume_name_good (fours 12 ++ text "abc") ≡ true) × (volume_name_good (fours 13) ≡ false)
unfolding everything
lengths = (refl, refl, refl, refl)

-- ---- the volume at the square
abbrev square : List ℕ
square = run (replicate 1_536 0) (format 0x10 512 1 (utf8 "À la page") (pos 5) ∷ [])

pub square-name : (open_of square (replicate 10 0)).output ≡ 0xC3 ∷ 0x80 ∷ text " la page"
unfolding everything
square-name = refl

-- `À` as the one byte that 01 would have taken
pub one_byte : refusals (replicate 1_536 0) (format 0x10 512 1 (text "À la page") (pos 5) ∷ []) ≡ 10 ∷ []
unfolding everything refusals refusal_of
one_byte = refl

-- a file of 31 bytes of name, the last two of which are `é`, one in each slot
abbrev straddling : List ℕ
straddling = utf8 "prêts de la branche au marché"

abbrev two_slots : List Call
two_slots = format 0x10 512 1 [] (pos 5) ∷ create (new_file []) straddling (pos 6) ∷ []

pub straddles :
    refusals (replicate 1_536 0) (two_slots ++ (find straddling ∷ delete straddling (pos 7) ∷ open_volume (replicate 1 0) ∷ []))
    ≡ 0 ∷ 0 ∷ 0 ∷ 0 ∷ 0 ∷ []
unfolding everything refusals refusal_of
straddles = refl

-- the zero that ends the name one byte early cuts the character off
pub cut_off : (open_of (splice (run (replicate 1_536 0) two_slots) 1_408 (0 ∷ [])) []).refusal ≡ 6
unfolding everything
cut_off = refl
