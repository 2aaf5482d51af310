-- A restore that has met the first deleted entry of its path: what the tests behind it come to.
use Rattle.std.specs.Prelude.{ℕ, ◌≡◌, true, false, List, leb, length, ℤ, Option, Err, is_some as is_found}
use Rattle.std.proofs.Common.{sym, ◌∙◌}
use Rattle.std.proofs.Math.Path.{ap}
use Rattle.std.proofs.Math.Bool.{not}
use Rattle.std.proofs.Math.Option.{some}
use Rattle.rules.specs.Lists.{any, only, first, is_some}
use Rattle.rules.specs.SuperBlock.{writable}
use Rattle.rules.specs.Names.{path_good, leading}
use Rattle.rules.specs.Index.{items_of, slot_at, retyped}
use Rattle.rules.specs.Paths.{deleted_at, lookup}
use Rattle.rules.specs.Refusals.{Volume, entries}
use Rattle.rules.specs.Writing.{nearest_live, live_kind, restored, restore_of}
use Rattle.rules.specs.Writing.Laws.{wrote, restore-live, restore-orphan, restore-several, restore-done}
use Rattle.laws.proofs.Lists.Every.{only_one}
use Rattle.geometry.specs.View.{geometry_view}
use Rattle.geometry.specs.declared.Geometry.{Geometry as Held}
use Rattle.slots.specs.declared.Head.{Head}
use Rattle.slots.specs.View.{head_view}
use Rattle.index.specs.declared.Cursor.{Cursor}
use Rattle.index.specs.View.{Inside, items_from}
use Rattle.index.specs.Steps.{Walks, entries_from}
use Rattle.paths.specs.View.{Searched, HitAt, hit-first}
use Rattle.judging.specs.View.{Opened, volume_of, opened-walks, opened-entries}
use Rattle.judging.specs.Searches.{found-is, nearest-is}
use Rattle.editions.specs.View.{edition_view}
use Rattle.retyping.specs.Planned.{tidy_of, RetypePlanned}
use Rattle.refusals.specs.declared.Refusal.TheVariants.{Live, Orphan, Repeated}

pub record Met (s path : List ℕ) (g : Held) (from : Cursor) (h : Head) (rest : Cursor) : Type 0 where
  pub opened : Opened s g
  pub may : writable (geometry_view g) ≡ true
  pub named : path_good path ≡ true
  pub items : items_from s from ≡ items_of s (geometry_view g)
  pub inside : Inside s from
  pub hit : HitAt s (deleted_at path) (entries_from s from) h rest

module _ (s path : List ℕ) (g : Held) (from : Cursor) (h : Head) (rest : Cursor) (m : Met s path g from h rest) where
  abbrev v : Volume
  v = volume_of s (geometry_view g)

  same : entries_from s from ≡ entries v
  same = opened-entries s g m.opened from m.items

  pub met-walks : Walks s from
  met-walks = opened-walks s g m.opened from m.items m.inside

  pub met-first : first (deleted_at path) (entries v) ≡ some (head_view s h)
  met-first = ap (first (deleted_at path)) (sym same) ∙ hit-first s (deleted_at path) (entries_from s from) h rest m.hit

  -- it is the only one just where none behind it has the path
  alone : leb (length (only (deleted_at path) (entries v))) 1 ≡ not (any (deleted_at path) (entries_from s rest))
  alone = only_one (deleted_at path) (entries v) (head_view s h) (entries_from s rest) (ap (only (deleted_at path)) (sym same) ∙ m.hit.chosen)

  -- ---- by the tests, in their order
  near-is : nearest_live (entries v) (leading path) ≡ nearest_live (entries_from s from) (leading path)
  near-is = nearest-is s (geometry_view g) from m.items path

  module _ (r : Option Head) (told : Searched s (lookup path (entries_from s from)) r) where
    live-is : is_some (lookup path (entries v)) ≡ is_found r
    live-is = found-is s (geometry_view g) from m.items path r told

    pub met-live : is_found r ≡ true → RetypePlanned s (restore_of s path) (Err Live)
    unfolding RetypePlanned
    met-live l z = restore-live s v m.opened m.may path z m.named (head_view s h) met-first (live-is ∙ l)

    module _ (l : is_found r ≡ false) where
      pub met-orphan : nearest_live (entries_from s from) (leading path) ≡ false → RetypePlanned s (restore_of s path) (Err Orphan)
      unfolding RetypePlanned
      met-orphan d z = restore-orphan s v m.opened m.may path z m.named (head_view s h) met-first (live-is ∙ l) (near-is ∙ d)

      module _ (d : nearest_live (entries_from s from) (leading path) ≡ true) where
        pub met-several : any (deleted_at path) (entries_from s rest) ≡ true → RetypePlanned s (restore_of s path) (Err Repeated)
        unfolding RetypePlanned
        met-several n z =
            restore-several s v m.opened m.may path z m.named (head_view s h) met-first (live-is ∙ l) (near-is ∙ d) (alone ∙ ap not n)

        pub met-alone : any (deleted_at path) (entries_from s rest) ≡ false → (z : ℤ)
            → restore_of s path z ≡ wrote (retyped (edition_view g.edition) (tidy_of s g) (slot_at (tidy_of s g) (geometry_view g) h.slot.0) (live_kind h.kind) z)
        unfolding restored head_view
        met-alone n z =
            restore-done s v m.opened m.may path z m.named (head_view s h) met-first (live-is ∙ l) (near-is ∙ d) (alone ∙ ap not n)
