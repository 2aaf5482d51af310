-- 01, "Both sides of each line": the starred cases, one table and one theorem.
use Prim.Native.Nat.{ℕ, ◌*◌}
use mathlib.Core.Path.{◌≡◌, refl}
use mathlib.Core.List.{List, [], ◌∷◌, map}
use lib.ListN.{replicate}
use lib.IntN.{ℤ, pos, negsuc}
use Rattle.rules.specs.Lists.{All}
use Rattle.rules.specs.Fields.{checksum_of}
use Rattle.rules.specs.Editions.{edition10}
use Rattle.rules.specs.SuperBlock.{Geometry, summed_bytes}
use Rattle.rules.specs.Index.{continuing, type_file, type_directory}
use Rattle.rules.specs.Writing.{format_of, new_file, create_of}
use Rattle.rules.specs.Text.{text}
use Rattle.rules.specs.Dates.{moment_of, moment_text}
use Rattle.cases.proofs.Computing.{everything}

-- a case: what the definitions give, and what 01 says
pub record Row : Type 0 where
  pub got : List ℕ
  pub wanted : List ℕ

abbrev row : List ℕ → List ℕ → Row
row g w = record { got = g; wanted = w }

-- 2,880 blocks, 2 reserved, b = 2, version 0x10
abbrev floppy : Geometry
floppy = record { edition = edition10; stamp = pos 0; data_blocks = 0; index_bytes = 128; version = 0x10; total = 2_880; reserved = 2; block_field = 2 }

-- freshly formatted in blocks of 512: 1,536 bytes with 1 block reserved, and 65,536 bytes with 2
abbrev small : List ℕ
small = (format_of (replicate 1_536 0) 0x10 512 1 (text "SMALL") (pos 0)).image

abbrev large : List ℕ
large = (format_of (replicate 65_536 0) 0x10 512 2 (text "TERM7") (pos 0)).image

-- the refusal of an empty file whose path has n bytes
abbrev path_of : ℕ → ℕ
path_of n = (create_of small (new_file []) (replicate n 0x61) (pos 0)).refusal

-- the refusal of a file of n bytes under a short name
abbrev file_of : ℕ → ℕ
file_of n = (create_of large (new_file (replicate n 0x61)) (text "big") (pos 0)).refusal

-- a stamp as it is printed
abbrev pub date : ℤ → List ℕ
date stamp = moment_text (moment_of stamp)

pub rows : List Row
rows =
    -- the checksum
    row (checksum_of (summed_bytes floppy) ∷ []) (0xB5 ∷ [])
    -- the slots that continue a file's name, and a directory's
    ∷ row (continuing edition10 type_file 29 ∷ continuing edition10 type_file 30 ∷ []) (0 ∷ 1 ∷ [])
    ∷ row (continuing edition10 type_file 93 ∷ continuing edition10 type_file 94 ∷ []) (1 ∷ 2 ∷ [])
    ∷ row (continuing edition10 type_directory 53 ∷ continuing edition10 type_directory 54 ∷ []) (0 ∷ 1 ∷ [])
    -- the longest path to create
    ∷ row (path_of 285 ∷ path_of 286 ∷ []) (0 ∷ 10 ∷ [])
    -- stamps as dates
    ∷ row (date (pos 0x3C0000)) (text "1970-01-01T00:01:00Z")
    ∷ row (date (negsuc 0)) (text "1969-12-31T23:59:59Z")
    ∷ row (date (pos 0x00005BA6D89F0000)) (text "2018-09-23T00:04:47Z")
    ∷ row (date (pos (951_782_400 * 65_536))) (text "2000-02-29T00:00:00Z")
    -- the largest file
    ∷ row (file_of 64_000 ∷ file_of 64_001 ∷ []) (0 ∷ 16 ∷ [])
    ∷ []

-- row by row
same : (rs : List Row) → All (λ r. r.got ≡ r.wanted) rs → map (λ r. r.got) rs ≡ map (λ r. r.wanted) rs
same [] e = refl
same (r ∷ rs) (e, es) = cc (same rs es)

pub table : map (λ r. r.got) rows ≡ map (λ r. r.wanted) rows
unfolding everything rows
table = same rows (refl, (refl, (refl, (refl, (refl, (refl, (refl, (refl, (refl, (refl, tt))))))))))
