-- Searches from the cursor at slot 1, of all entries of a volume.
use Rattle.std.specs.Prelude.{ℕ, ◌≡◌, List, Option, is_some as is_found}
use Rattle.std.proofs.Common.{sym, ap, ◌∙◌}
use Rattle.rules.specs.Lists.{is_some}
use Rattle.rules.specs.SuperBlock.{Geometry}
use Rattle.rules.specs.Names.{leading}
use Rattle.rules.specs.Index.{Item, items_of, entries_of}
use Rattle.rules.specs.Paths.{lookup}
use Rattle.rules.specs.Refusals.{entries}
use Rattle.rules.specs.Writing.{nearest_live}
use Rattle.slots.specs.declared.Head.{Head}
use Rattle.index.specs.declared.Cursor.{Cursor}
use Rattle.index.specs.View.{items_from}
use Rattle.index.specs.Steps.{entries_from}
use Rattle.paths.specs.View.{Searched, searched-found}
use Rattle.judging.specs.View.{volume_of}

module _ (s : List ℕ) (g : Geometry) (c : Cursor) (items : items_from s c ≡ items_of s g) (path : List ℕ) where
  pub found-is : (r : Option Head) → Searched s (lookup path (entries_from s c)) r → is_some (lookup path (entries (volume_of s g))) ≡ is_found r
  found-is r told = ap (λ (is : List Item). is_some (lookup path (entries_of is))) (sym items) ∙ sym (searched-found s _ r told)

  pub nearest-is : nearest_live (entries (volume_of s g)) (leading path) ≡ nearest_live (entries_from s c) (leading path)
  nearest-is = ap (λ (is : List Item). nearest_live (entries_of is) (leading path)) (sym items)
