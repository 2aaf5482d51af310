use mathlib.Core.Path.{◌≡◌, sym, ap, ◌∙◌}
use Rattle.rules.specs.Index.{items_of}
use Rattle.rules.specs.Writing.{lowest_unused, places_for}
use Rattle.editions.specs.View.{edition_view}
use Rattle.geometry.specs.View.{geometry_view}
use Rattle.judging.specs.View.{opened-super, opened-walks}
use native.Mathlib.Omega.{arith}
use Rattle.index.specs.View.{sums_on}
use Rattle.index.specs.Unused.{unused_view}
use Rattle.planning.specs.Places.{places-begin, place-unused, place-grown}
use Rattle.planning.proofs.place_run.Goals as goal
use Rattle.planning.proofs.place_run.Goals.{After-lowest_unused}

-- what the cursor over the slots for the path has before it, searched
searched : (c : After-lowest_unused) → let a = c.args in
    lowest_unused a.n (places_for (edition_view a.g.edition) a.path.now (items_of a.img.now (geometry_view a.g))) ≡ unused_view c.lowest_unused.result
searched c = ap (lowest_unused _) (sym (places-begin _ _ _ c.requires.1 _ _ c.places_for.ensures)) ∙ sym c.lowest_unused.ensures

pub places_for-requires : goal.places_for-requires
places_for-requires c = let p = c.requires in (opened-walks _ _ p.0 _ p.1.0 p.1.1, p.4)

pub lowest_unused-requires : goal.lowest_unused-requires
lowest_unused-requires c =
    let p = c.requires in
    let f = c.places_for.ensures in
    (f.walks, p.2, sums_on _ _ _ p.4 _ f.edition (omega (arith, f.slot)) (omega (arith, f.at, f.slot)) (omega (arith, f.slot, f.less)))

pub grown_place-requires : goal.grown_place-requires
grown_place-requires c = let p = c.requires in ((opened-super _ _ p.0).good, p.3)

pub returns-in-Some : goal.returns-in-Some
returns-in-Some c = sym (place-unused _ _ _ _ _ (searched (goal.at.returns-in-Some c).After-lowest_unused ∙ ap unused_view c.in-Some.is))

pub returns-in-None : goal.returns-in-None
returns-in-None c = c.grown_place.ensures ∙ sym (place-grown _ _ _ _ (searched (goal.at.returns-in-None c).After-lowest_unused ∙ ap unused_view c.in-None.is))
