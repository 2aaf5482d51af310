-- 01, "Index area", as K1 amends it: which characters, paths and volume names are allowed.
use Rattle.std.specs.Prelude.{ℕ, Bool, true, false, ◌&&◌, not, List, [], ◌∷◌, map, length, eqb, leb}
use Prim.Native.Char.{code}
use Rattle.std.proofs.Math.Option.{Option, none, some}
use Rattle.rules.specs.Lists.{pick, all, any, eq_list}
use Rattle.rules.specs.Text.{text}
use Rattle.rules.specs.Utf8.{within, decode}
pub mod Laws

abbrev pub slash : ℕ
slash = code "/"

abbrev pub dot : ℕ
dot = code "."

-- the seven marks, of which the last is the backslash
unfoldable pub is_mark : ℕ → Bool
is_mark c = any (eqb c) (text "\"*:<>?\\")

-- a character that a name may have, by its code: not below 0x20, not from 0x7F to 0xA0, and no mark
unfoldable pub code_good : ℕ → Bool
code_good c = leb 0x20 c && not (within 0x7F 0xA0 c) && not (is_mark c)

unfoldable pub codes_good : Option (List ℕ) → Bool
codes_good none = false
codes_good (some cs) = all code_good cs

-- THE NAME RULE, for every kind of name: its bytes are well-formed UTF-8, and each code is one that a name may have
unfoldable pub text_good : List ℕ → Bool
text_good bs = codes_good (decode bs)

-- ---- paths, in bytes: slashes, dots and lengths
-- one more byte in front of the first part
unfoldable pub into_first : ℕ → List (List ℕ) → List (List ℕ)
into_first b [] = (b ∷ []) ∷ []
into_first b (p ∷ ps) = (b ∷ p) ∷ ps

-- the parts between slashes, one more than there are slashes: a//b has the parts a, the empty one and b
unfoldable pub parts : List ℕ → List (List ℕ)
parts [] = [] ∷ []
parts (b ∷ bs) = pick (eqb b slash) ([] ∷ parts bs) (into_first b (parts bs))

-- a part has one byte or more, and is neither `.` nor `..`
unfoldable pub part_good : List ℕ → Bool
part_good p = not (eq_list p []) && not (eq_list p (dot ∷ [])) && not (eq_list p (dot ∷ dot ∷ []))

-- parts joined by single slashes, none first or last
unfoldable pub path_good : List ℕ → Bool
path_good p = text_good p && all part_good (parts p)

-- a path to create has at most 285 bytes
unfoldable pub new_path_good : List ℕ → Bool
new_path_good p = path_good p && leb (length p) 285

-- a volume name has no slash, and may be empty; one that is given has at most 51 bytes
unfoldable pub volume_text_good : List ℕ → Bool
volume_text_good n = text_good n && not (any (eqb slash) n)

unfoldable pub volume_name_good : List ℕ → Bool
volume_name_good n = volume_text_good n && leb (length n) 51

-- ---- the paths above a path
unfoldable pub lead_if : Bool → List (List ℕ) → List (List ℕ)
lead_if true ps = [] ∷ ps
lead_if false ps = ps

-- its proper leading paths, the shortest first, what stands before each slash: a/b/c has a and a/b
unfoldable pub leading : List ℕ → List (List ℕ)
leading [] = []
leading (b ∷ bs) = lead_if (eqb b slash) (map (λ p. b ∷ p) (leading bs))

-- the path begins with `above` and a slash
unfoldable pub is_below : List ℕ → List ℕ → Bool
is_below above [] = false
is_below [] (b ∷ bs) = eqb b slash
is_below (a ∷ as') (b ∷ bs) = eqb a b && is_below as' bs
