-- K3: how a name is compared with a path, and how many bytes of the name are looked at. No call's answer rests on this.
use Rattle.std.specs.Prelude.{ℕ, ◌+◌, ◌≤◌, ◌≡◌, Bool, true, false, ◌&&◌, not, List, [], ◌∷◌, length, drop, eqb}
use Rattle.rules.specs.Lists.{pick, sum, eq_list, part}
use Rattle.rules.specs.SuperBlock.{Geometry}
use Rattle.rules.specs.Index.{Entry, name_field, slot_at}
use Rattle.rules.specs.Paths.{is_live, live_at}
use Rattle.rules.specs.Refusals.{Volume, entries}
pub mod Laws

-- ---- one name, by all bytes that its run has for it: those behind its zero are among them
-- what a list has at the path's last place: a byte, or nothing where it has no such place. An empty path has no last place.
unfoldable pub at_last : List ℕ → List ℕ → List ℕ
at_last [] xs = []
at_last (p ∷ ps) xs = part xs (length ps) 1

-- the test before the walk: the name has the path's last byte at the path's last place
unfoldable pub last_alike : List ℕ → List ℕ → Bool
last_alike name path = eq_list (at_last path name) (at_last path path)

-- the walk goes on behind a byte of the name that is the path's, and is not the zero that ends the name
unfoldable pub goes_on : ℕ → ℕ → Bool
goes_on b p = eqb b p && not (eqb b 0)

-- the name bytes that the walk looks at, through name and path together up to the first difference; behind the path it looks at one more
unfoldable pub walked : List ℕ → List ℕ → ℕ
walked [] path = 0
walked (b ∷ bs) [] = 1
walked (b ∷ bs) (p ∷ ps) = 1 + pick (goes_on b p) (walked bs ps) 0

-- THE COUNT: the byte that is tested, and where it is the path's last, those of the walk
unfoldable pub looked : List ℕ → List ℕ → ℕ
looked name path = length (at_last path name) + pick (last_alike name path) (walked name path) 0

-- its two laws (`looked-once`, `looked-few`): at most one where the test fails, elsewhere at most two more than the path has bytes
abbrev pub LookedOnce : Type 0
LookedOnce = (name path : List ℕ) → last_alike name path ≡ false → looked name path ≤ 1

abbrev pub LookedFew : Type 0
LookedFew = (name path : List ℕ) → last_alike name path ≡ true → looked name path ≤ length path + 2

-- ---- a search
-- the name of an entry's run, by all its bytes
unfoldable pub name_in : List ℕ → Geometry → Entry → List ℕ
name_in s g e = name_field g.edition (drop (slot_at s g e.slot) s)

-- the elements that a search meets: up to and with the first that passes
unfoldable pub met : {A : Type 0} → (A → Bool) → List A → List A
met p [] = []
met p (x ∷ xs) = x ∷ pick (p x) [] (met p xs)

-- the bytes of an entry's name that a search looks at: none where the entry is not of the kind sought
unfoldable pub entry_looked : List ℕ → Geometry → (Entry → Bool) → List ℕ → Entry → ℕ
entry_looked s g sought path e = pick (sought e) (looked (name_in s g e) path) 0

-- and a search's: the sum over the entries that it meets
unfoldable pub search_looked : List ℕ → Geometry → (Entry → Bool) → (Entry → Bool) → List ℕ → List Entry → ℕ
search_looked s g sought passes path es = sum (entry_looked s g sought path) (met passes es)

-- of find and read: the search for the live entry of a path, among all entries of a volume
unfoldable pub find_looked : List ℕ → Volume → List ℕ → ℕ
find_looked s v path = search_looked s v.geometry is_live (live_at path) path (entries v)
