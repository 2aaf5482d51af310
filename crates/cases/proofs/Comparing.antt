-- How many bytes of a name a comparison looks at, and a search of all of them.
use Prim.Native.Nat.{ℕ}
use Prim.Native.String.{String}
use mathlib.Core.Path.{◌≡◌, refl}
use mathlib.Core.List.{List, [], ◌∷◌, ◌++◌}
use lib.ListN.{replicate}
use lib.IntN.{pos}
use Rattle.rules.specs.Lists.{padded}
use Rattle.rules.specs.Editions.{edition10}
use Rattle.rules.specs.SuperBlock.{geometry_of}
use Rattle.rules.specs.Index.{items_of}
use Rattle.rules.specs.Comparing.{looked, find_looked}
use Rattle.rules.specs.Writing.{new_file}
use Rattle.rules.specs.History.{format, create, delete_keep, run}
use Rattle.rules.specs.Text.{text}
use Rattle.cases.proofs.Computing.{everything}

-- ---- a file's name in one slot has 30 bytes: these first, zeros behind them
abbrev count : List ℕ → String → ℕ
count name path = looked (padded name 30) (text path)

-- the last place fails the test: another byte, the name's zero, a zero behind it
pub tested-byte : (count (text "session") "sessiom" ≡ 1) × (count (text "session") "sessions" ≡ 1) × (count (text "session") "session.old" ≡ 1)
unfolding everything
tested-byte = (refl, refl, refl)

-- it passes: the name is the path, goes on behind it, differs at once, or differs in the last place but one
pub walked-bytes :
    (count (text "session") "session" ≡ 9) × (count (text "session/2") "session" ≡ 9)
    × (count (text "Session") "session" ≡ 2) × (count (text "sessiOn") "session" ≡ 7)
unfolding everything
walked-bytes = (refl, refl, refl, refl)

-- bytes behind the zero may pass the test, and the walk ends at the zero, though they go on as the path does
pub behind-zero :
    (count (text "ab" ++ (0 ∷ text "d")) "abcd" ≡ 4) × (count (text "ab" ++ (0 ∷ text "cd")) "abcd" ≡ 1)
    × (count (text "abcd" ++ (0 ∷ text "d")) "abcd" ≡ 6)
unfolding everything
behind-zero = (refl, refl, refl)

-- a run's place, not the name's length, decides: the thirtieth byte is there, and the next is not
pub past-the-run : (looked (replicate 29 0x61 ++ (0 ∷ [])) (replicate 30 0x61) ≡ 1) × (looked (replicate 29 0x61 ++ (0 ∷ [])) (replicate 31 0x61) ≡ 0)
unfolding everything
past-the-run = (refl, refl)

-- ---- three files with the same last byte, in the order of their slots: ca, ba, aa
abbrev three : List ℕ
three =
    run (replicate 2_048 0)
    (format 0x10 512 1 (text "THREE") (pos 1) ∷ create (new_file []) (text "aa") (pos 2) ∷ create (new_file []) (text "ba") (pos 3)
    ∷ create (new_file []) (text "ca") (pos 4) ∷ [])

abbrev searched : List ℕ → String → ℕ
searched s path = let g = geometry_of edition10 s in find_looked s (record { geometry = g; items = items_of s g }) (text path)

-- two bytes of each name that is not the path's, four of the one that is; nothing behind it is met
pub three-searched :
    (searched three "ca" ≡ 4) × (searched three "ba" ≡ 6) × (searched three "aa" ≡ 8) × (searched three "da" ≡ 6)
    × (searched three "ab" ≡ 3)
unfolding everything
three-searched = (refl, refl, refl, refl, refl)

-- the name of a deleted file that was kept is left alone
pub deleted-searched : searched (run three (delete_keep (text "ba") (pos 5) ∷ [])) "aa" ≡ 6
unfolding everything
deleted-searched = refl
