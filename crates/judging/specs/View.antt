-- The code's judgement in the rules' words, and what callers know of an image that opens.
use Rattle.std.specs.Prelude.{ℕ, ◌≤◌, ◌<◌, ◌≡◌, true, List, length, Result, Ok, Err}
use Rattle.std.proofs.Math.Path.{sym, ap}
use Rattle.std.proofs.Common.{◌∙◌}
use Rattle.rules.specs.Lists.{All}
use Rattle.rules.specs.SuperBlock.{Geometry}
use Rattle.rules.specs.Index.{items_of, index_sound, entries_of}
use Rattle.rules.specs.Regions.{regions_sound}
use Rattle.rules.specs.Paths.{paths_sound}
use Rattle.rules.specs.Refusals.{Verdict, refused, accepted, Volume, entries, judge, judge_read}
use Rattle.rules.specs.Refusals.Laws.{judge-opens, read-long, read-opens}
use Rattle.geometry.specs.View.{geometry_view}
use Rattle.geometry.specs.declared.Geometry.{Geometry as Held}
use Rattle.index.specs.View.{Inside, items_from}
use Rattle.index.specs.Steps.{Walks, entries_from}
use Rattle.index.specs.declared.Cursor.{Cursor}
use Rattle.super_block.specs.View.{Judged as GoodSuper}
use Rattle.super_block.specs.Ends.{sound-walks}
use Rattle.ordering.specs.Regions.{Small}
use Rattle.regions.specs.Bounds.{good-bounded}
use Rattle.regions.specs.Gathering.{sound-small}
use Rattle.refusals.specs.declared.Refusal.{Refusal}
use Rattle.refusals.specs.declared.Refusal.TheVariants.{Length}
use Rattle.refusals.specs.View.{number_of}

-- a volume is its geometry and what its index yields
abbrev pub volume_of : List ℕ → Geometry → Volume
volume_of s g = record { geometry = g; items = items_of s g }

unfoldable pub judged_view : List ℕ → Result Held Refusal → Verdict Volume
judged_view s (Err e) = refused (number_of e)
judged_view s (Ok g) = accepted (volume_of s (geometry_view g))

-- ---- an image that opens, with the geometry held
abbrev pub Opened : List ℕ → Held → Type 0
Opened s g = judge s ≡ accepted (volume_of s (geometry_view g))

module _ (s : List ℕ) (g : Held) (opened : Opened s g) where
  pub opened-super : GoodSuper s g
  opened-super = let o = judge-opens s (volume_of s (geometry_view g)) opened in record { short = o.length_high; good = o.geometry-good }

  pub opened-long : 512 ≤ length s
  opened-long = (judge-opens s (volume_of s (geometry_view g)) opened).length-low

  pub opened-sound : index_sound s (geometry_view g) (items_of s (geometry_view g)) ≡ true
  opened-sound = (judge-opens s (volume_of s (geometry_view g)) opened).index-sound

  -- the cursor at slot 1 walks through its entries
  pub opened-walks : (c : Cursor) → items_from s c ≡ items_of s (geometry_view g) → Inside s c → Walks s c
  opened-walks c i h = sound-walks s (geometry_view g) c i h opened-sound

  pub opened-entries : (c : Cursor) → items_from s c ≡ items_of s (geometry_view g) → entries_from s c ≡ entries (volume_of s (geometry_view g))
  opened-entries c i = ap entries_of i

  pub opened-paths : (c : Cursor) → items_from s c ≡ items_of s (geometry_view g) → paths_sound (entries_from s c) ≡ true
  opened-paths c i = ap paths_sound (opened-entries c i) ∙ (judge-opens s (volume_of s (geometry_view g)) opened).paths-sound

  -- no end of a region passes 64 bits
  pub opened-small : (c : Cursor) → items_from s c ≡ items_of s (geometry_view g) → All Small (entries_from s c)
  opened-small c i =
      sound-small s g (good-bounded (length s) g opened-super.good opened-super.short) c
      (ap (regions_sound (geometry_view g)) (opened-entries c i) ∙ (judge-opens s (volume_of s (geometry_view g)) opened).regions-sound)

-- ---- what a judgement says
module _ (s : List ℕ) (r : Result Held Refusal) (told : judged_view s r ≡ judge s) where
  pub refused_says : (e : Refusal) → r ≡ Err e → judge s ≡ refused (number_of e)
  unfolding judged_view
  refused_says e i = sym told ∙ ap (judged_view s) i

  pub good-says : (g : Held) → r ≡ Ok g → Opened s g
  unfolding judged_view
  good-says g e = sym told ∙ ap (judged_view s) e

-- and one of a program
module _ (s : List ℕ) (r : Result Held Refusal) (told : judged_view s r ≡ judge_read s) where
  pub read-refused : (e : Refusal) → r ≡ Err e → judge_read s ≡ refused (number_of e)
  unfolding judged_view
  read-refused e i = sym told ∙ ap (judged_view s) i

  pub read-good : (g : Held) → r ≡ Ok g → judge_read s ≡ accepted (volume_of s (geometry_view g))
  unfolding judged_view
  read-good g e = sym told ∙ ap (judged_view s) e

  pub read_opened : (g : Held) → r ≡ Ok g → Opened s g
  read_opened g e = (read-opens s (volume_of s (geometry_view g)) (read-good g e)).1

pub said-long : (s : List ℕ) → 65_536 < length s → judged_view s (Err Length) ≡ judge_read s
unfolding judged_view
said-long s h = sym (read-long s h)
