-- From what the history sees of a volume: blocks held, regions apart, names of live entries. Assumes nothing.
use Prim.Native.Nat.{ℕ, ◌+◌}
use mathlib.Core.Path.{◌≡◌, refl, sym, ap, ◌∙◌}
use mathlib.Core.Bool.{Bool, true, false}
use mathlib.Core.List.{List, [], ◌∷◌, map}
use native.Mathlib.Omega.{arith}
use Rattle.rules.specs.Lists.{keep_if, only, sum, All, Pairs}
use Rattle.rules.specs.Lists.Laws.{clash, or_right, sum-map}
use Rattle.rules.specs.SuperBlock.{Geometry}
use Rattle.rules.specs.Index.{Entry, run_type, directory_type, file_type, live_type}
use Rattle.rules.specs.Regions.{blocks_of, regions_sound, held_blocks}
use Rattle.rules.specs.Regions.Laws.{apart_none}
use Rattle.rules.specs.Paths.{is_live}
use Rattle.rules.specs.Paths.Laws.{live-run}
use Rattle.rules.specs.Writing.{live_kind}
use Rattle.rules.specs.Refusals.{Volume, entries}
use Rattle.rules.specs.History.{NoShared, name_of_entry, name_of_kept}
use Rattle.after.specs.After.{is_named, seen, sight}
use Rattle.laws.proofs.Lists.Every.{pairs-weaken, pairs-only}
use Rattle.laws.proofs.Entries.EntryKinds.{live-kind as own-kind, run-usable}
use Rattle.laws.proofs.Entries.Regions.{Settled, sound-says}

-- ---- kinds
file-named : (t : ℕ) → file_type t ≡ true → run_type t ≡ true
unfolding run_type
file-named t e = or_right (directory_type t) (file_type t) e

-- a live kind is a file's or a directory's, and the history sees it as it is
pub live-kind : (t : ℕ) → live_type t ≡ true → (run_type t ≡ true) × (live_kind t ≡ t)
live-kind t h = (live-run t h, own-kind t h)

-- ---- blocks: only files hold any
no_blocks : (e : Entry) → Settled e → run_type e.kind ≡ true → file_type e.kind ≡ false → blocks_of e ≡ 0
unfolding blocks_of
no_blocks e s r f = let n = s f (run-usable e.kind r) in omega (arith, n.end)

sum-files : (es : List Entry) → All Settled es → sum blocks_of (only is_named es) ≡ sum blocks_of (only (λ e. file_type e.kind) es)
unfolding only is_named keep_if sum
sum-files [] h = refl
sum-files (e ∷ es) h =
    go (file_type e.kind) refl (run_type e.kind) refl (sum-files es h.1)
  where
    go : (f : Bool) → file_type e.kind ≡ f → (r : Bool) → run_type e.kind ≡ r
        → sum blocks_of (only is_named es) ≡ sum blocks_of (only (λ x. file_type x.kind) es)
        → sum blocks_of (keep_if r e (only is_named es)) ≡ sum blocks_of (keep_if f e (only (λ x. file_type x.kind) es))
    go true p true q i = ap (λ n. blocks_of e + n) i
    go true p false q i = clash (sym (file-named e.kind p) ∙ q)
    go false p true q i = omega (arith, no_blocks e h.0 q p)
    go false p false q i = i

pub seen-blocks : (s : List ℕ) (v : Volume) → All Settled (entries v) → sum (λ k. k.blocks) (sight s v) ≡ held_blocks (entries v)
unfolding sight seen held_blocks
seen-blocks s v h = sum-map (λ k. k.blocks) (seen s v.geometry) (only is_named (entries v)) ∙ sum-files (entries v) h

-- ---- regions
pub files-apart : (g : Geometry) (es : List Entry) → regions_sound g es ≡ true → Pairs NoShared (only (λ e. file_type e.kind) es)
files-apart g es h = pairs-only NoShared (λ e. file_type e.kind) es (pairs-weaken _ NoShared apart_none es (sound-says g es h).two)

-- ---- names
seen-names-in : (s : List ℕ) (g : Geometry) (es : List Entry)
    → map name_of_kept (only (λ k. k.live) (map (seen s g) (only is_named es))) ≡ map name_of_entry (only is_live es)
unfolding only is_named keep_if is_live seen
seen-names-in s g [] = refl
seen-names-in s g (e ∷ es) = go (is_live e) refl (run_type e.kind) refl (seen-names-in s g es)
  where
    go : (l : Bool) → is_live e ≡ l → (r : Bool) → run_type e.kind ≡ r
        → map name_of_kept (only (λ k. k.live) (map (seen s g) (only is_named es))) ≡ map name_of_entry (only is_live es)
        → map name_of_kept (only (λ k. k.live) (map (seen s g) (keep_if r e (only is_named es)))) ≡ map name_of_entry (keep_if l e (only is_live es))
    go true p true q i = rw (p, (live-kind e.kind p).1) (ap (λ ns. name_of_entry e ∷ ns) i)
    go true p false q i = clash (sym (live-kind e.kind p).0 ∙ q)
    go false p true q i = rw p i
    go false p false q i = i

pub seen-names : (s : List ℕ) (v : Volume) → map name_of_kept (only (λ k. k.live) (sight s v)) ≡ map name_of_entry (only is_live (entries v))
unfolding sight
seen-names s v = seen-names-in s v.geometry (entries v)
