use mathlib.Core.Path.{◌≡◌, sym, ◌∙◌}
use mathlib.Core.Bool.{true, false}
use native.Mathlib.Omega.{arith}
use Rattle.rules.specs.Lists.{is_some}
use Rattle.rules.specs.SuperBlock.{writable}
use Rattle.rules.specs.Names.{new_path_good, leading}
use Rattle.rules.specs.Paths.{lookup}
use Rattle.rules.specs.Refusals.{Volume, entries}
use Rattle.rules.specs.Writing.{nearest_live}
use Rattle.geometry.specs.View.{geometry_view}
use Rattle.index.specs.Steps.{Walks}
use Rattle.judging.specs.View.{volume_of, opened-super, opened-walks}
use Rattle.judging.specs.Searches.{found-is, nearest-is}
use Rattle.planning.specs.Planned.{planned-later, planned-name, planned-live, planned-orphan, admitted}
use Rattle.planning.proofs.plan_opened.Goals as goal
use Rattle.planning.proofs.plan_opened.Goals.{After-first_slot-from, After-is_some, After-nearest_live, Else-is_some, Else-not-is_writable, Else-not-new_path_good, Start}

abbrev volume : Start → Volume
volume x = volume_of x.args.img.now (geometry_view x.args.g)

-- what each test that was passed says
current : (c : Else-not-is_writable) → writable (geometry_view c.args.g) ≡ true
current c = sym c.is_writable.ensures ∙ c.if-not-is_writable.false

named : (c : Else-not-new_path_good) → new_path_good c.args.new.path.now ≡ true
named c = sym c.new_path_good.ensures ∙ c.if-not-new_path_good.false

walks : (c : After-first_slot-from) → Walks c.args.img.now c.first_slot-from.result
walks c = opened-walks _ _ c.requires.0 _ c.first_slot-from.ensures.0 c.first_slot-from.ensures.1

sought : (c : After-is_some) → is_some (lookup c.args.new.path.now (entries (volume (goal.at.After-is_some c).Start))) ≡ c.is_some.result
sought c = found-is _ _ c.first_slot-from.result c.first_slot-from.ensures.0 _ _ c.lookup.ensures ∙ sym c.is_some.ensures

absent : (c : Else-is_some) → is_some (lookup c.args.new.path.now (entries (volume (goal.at.Else-is_some c).Start))) ≡ false
absent c = sought (goal.at.Else-is_some c).After-is_some ∙ c.if-is_some.false

nearest : (c : After-nearest_live) → nearest_live (entries (volume (goal.at.After-nearest_live c).Start)) (leading c.args.new.path.now) ≡ c.nearest_live.result
nearest c = nearest-is _ _ c.first_slot-from.result c.first_slot-from.ensures.0 _ ∙ sym c.nearest_live.ensures

pub returns-then-not-is_writable : goal.returns-then-not-is_writable
returns-then-not-is_writable c = planned-later _ _ c.requires.0 _ _ _ (sym c.is_writable.ensures ∙ c.if-not-is_writable.true)

pub returns-then-not-new_path_good : goal.returns-then-not-new_path_good
returns-then-not-new_path_good c =
    planned-name _ _ c.requires.0 _ _ _ (current (goal.at.returns-then-not-new_path_good c).Else-not-is_writable) (sym c.new_path_good.ensures ∙ c.if-not-new_path_good.true)

pub first_slot-from-requires : goal.first_slot-from-requires
first_slot-from-requires c = (opened-super _ _ c.requires.0, omega arith)

pub lookup-requires : goal.lookup-requires
lookup-requires c = (walks (goal.at.lookup-requires c).After-first_slot-from, c.first_slot-from.ensures.6)

pub returns-then-is_some : goal.returns-then-is_some
returns-then-is_some c =
    planned-live _ _ c.requires.0 _ _ _ (current (goal.at.returns-then-is_some c).Else-not-is_writable) (named (goal.at.returns-then-is_some c).Else-not-new_path_good) (sought (goal.at.returns-then-is_some c).After-is_some ∙ c.if-is_some.true)

pub nearest_live-requires : goal.nearest_live-requires
nearest_live-requires c = (walks (goal.at.nearest_live-requires c).After-first_slot-from, c.first_slot-from.ensures.6)

pub returns-then-not-nearest_live : goal.returns-then-not-nearest_live
returns-then-not-nearest_live c =
    planned-orphan _ _ c.requires.0 _ _ _ (current (goal.at.returns-then-not-nearest_live c).Else-not-is_writable) (named (goal.at.returns-then-not-nearest_live c).Else-not-new_path_good) (absent (goal.at.returns-then-not-nearest_live c).Else-is_some)
    (nearest (goal.at.returns-then-not-nearest_live c).After-nearest_live ∙ c.if-not-nearest_live.true)

pub plan_places-requires : goal.plan_places-requires
plan_places-requires c =
    let o = c.requires.0 in
    let a = admitted _ _ o _ (current (goal.at.plan_places-requires c).Else-not-is_writable) (named (goal.at.plan_places-requires c).Else-not-new_path_good) (absent (goal.at.plan_places-requires c).Else-is_some) (nearest (goal.at.plan_places-requires c).After-nearest_live ∙ c.if-not-nearest_live.false) in
    (o, (c.first_slot-from.ensures.0, c.first_slot-from.ensures.1, c.first_slot-from.ensures.5), a, c.requires.1, c.first_slot-from.ensures.6)
