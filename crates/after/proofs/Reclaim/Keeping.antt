-- What the history sees of the entries after a reclaim: those that are live, as they were.
use Prim.Native.Nat.{ℕ}
use mathlib.Core.Path.{◌≡◌, refl, sym, ap, ◌∙◌}
use mathlib.Core.Bool.{Bool, true, false, ◌&&◌, ◌||◌, not}
use mathlib.Core.List.{List, map}
use lib.Dec.{eqb}
use borrow.Author.Tests.{eqb-true}
use Rattle.rules.specs.Lists.{only}
use Rattle.rules.specs.Index.{Entry, file_type, directory_type, run_type, live_type, deleted_type, type_file, type_directory, type_deleted_file, type_deleted_directory}
use Rattle.rules.specs.Paths.{is_live, is_deleted}
use Rattle.rules.specs.Refusals.{Volume, entries}
use Rattle.rules.specs.Writing.{undeleted}
use Rattle.after.specs.After.{is_named, seen, sight}
use Rattle.laws.proofs.Lists.Parts.{only-only, only-ext, only-map}

-- ---- a file or directory that is not deleted is live
neither : (a b : Bool) → ((a || false) || (b || false)) ≡ (((a || false) || (b || false)) && (a || b))
neither true b = refl
neither false true = refl
neither false false = refl

named_live : (t : ℕ) → (not (deleted_type t) && run_type t) ≡ (run_type t && live_type t)
unfolding deleted_type run_type directory_type file_type live_type
named_live t = go (eqb t type_deleted_directory) refl (eqb t type_deleted_file) refl
  where
    go : (a : Bool) → eqb t type_deleted_directory ≡ a → (b : Bool) → eqb t type_deleted_file ≡ b → (not (deleted_type t) && run_type t) ≡ (run_type t && live_type t)
    go true p b q = rw (eqb-true t type_deleted_directory p)
    go false p true q = rw (eqb-true t type_deleted_file q)
    go false p false q = rw (p, q) (neither (eqb t type_directory) (eqb t type_file))

-- so of the named entries the live ones are left
live-named : (es : List Entry) → only is_named (only (λ e. not (is_deleted e)) es) ≡ only is_live (only is_named es)
unfolding is_named is_deleted is_live
live-named es =
    only-only is_named (λ e. not (is_deleted e)) es ∙ only-ext _ _ (λ e. named_live e.kind) es ∙ sym (only-only is_live is_named es)

-- and seen as they were
pub live-seen : (s : List ℕ) (v : Volume) → map (seen s v.geometry) (only is_named (undeleted (entries v))) ≡ only (λ k. k.live) (sight s v)
unfolding seen sight
live-seen s v =
    ap (map (seen s v.geometry)) (live-named (entries v)) ∙ sym (only-map (λ k. k.live) (seen s v.geometry) (only is_named (entries v)))
