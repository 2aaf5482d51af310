-- 01, "Index area": live and deleted entries, their paths and their directories.
use Rattle.std.specs.Prelude.{ℕ, Bool, ◌&&◌, ◌||◌, not, List, eqb, leb}
use Rattle.std.proofs.Math.Option.{Option}
use Rattle.rules.specs.Lists.{all, any, every_two, first, eq_list}
use Rattle.rules.specs.Names.{leading, is_below}
use Rattle.rules.specs.Index.{Entry, live_type, deleted_type, type_directory}
pub mod Laws

unfoldable pub is_live : Entry → Bool
is_live e = live_type e.kind

unfoldable pub is_deleted : Entry → Bool
is_deleted e = deleted_type e.kind

-- a live entry of this path
unfoldable pub live_at : List ℕ → Entry → Bool
live_at p e = is_live e && eq_list e.path p

-- a deleted entry of this path
unfoldable pub deleted_at : List ℕ → Entry → Bool
deleted_at p e = is_deleted e && eq_list e.path p

-- the live entry of a path
unfoldable pub lookup : List ℕ → List Entry → Option Entry
lookup p es = first (live_at p) es

unfoldable pub is_directory_at : List ℕ → Entry → Bool
is_directory_at p e = eqb e.kind type_directory && eq_list e.path p

-- a live directory has this path
unfoldable pub directory_live : List Entry → List ℕ → Bool
directory_live es p = any (is_directory_at p) es

-- every proper leading path is a live directory
unfoldable pub directories_live : List Entry → List ℕ → Bool
directories_live es p = all (directory_live es) (leading p)

-- no two live entries have one path
unfoldable pub paths_differ : Entry → Entry → Bool
paths_differ e f = not (is_live e && is_live f && eq_list e.path f.path)

-- refusal 8 is for paths that are not sound
unfoldable pub paths_sound : List Entry → Bool
paths_sound es = every_two paths_differ es && all (λ e. not (is_live e) || directories_live es e.path) es

-- a live entry lies below the path
unfoldable pub any_below : List ℕ → List Entry → Bool
any_below p es = any (λ e. is_live e && is_below p e.path) es

-- live, and its first slot is not below k
unfoldable pub live_from : ℕ → Entry → Bool
live_from k e = is_live e && leb k e.slot

-- the live entry with the lowest first slot not below k. Entries stand in slot order.
unfoldable pub next_live : ℕ → List Entry → Option Entry
next_live k es = first (live_from k) es
