use mathlib.Core.Path.{◌≡◌, sym, ap, ◌∙◌}
use mathlib.Core.Bool.{true}
use mathlib.Core.Option.{some}
use native.Mathlib.Omega.{arith}
use Rattle.std.proofs.lemmas.Result.{err_from_is_err_and}
use Rattle.std.specs.Prelude.{Some, None}
use Rattle.rules.specs.SuperBlock.{writable}
use Rattle.rules.specs.Paths.{lookup, any_below}
use Rattle.rules.specs.Names.{path_good}
use Rattle.rules.specs.Refusals.{Volume, entries}
use Rattle.rules.specs.Writing.Laws.{deletable-later, deletable-name, deletable-none, deletable-full, deletable-done}
use Rattle.refusals.specs.declared.Refusal.TheVariants.{Absent}
use Rattle.geometry.specs.View.{geometry_view}
use Rattle.slots.specs.View.{head_view, HeadIn}
use Rattle.index.specs.Steps.{Walks, entries_from}
use Rattle.paths.specs.View.{searched-nothing, searched-entry}
use Rattle.judging.specs.View.{volume_of, opened-super, opened-walks, opened-entries, opened-paths}
use Rattle.retyping.specs.Planned.{found-whole}
use Rattle.erasing.specs.Delete.{DeletePlanned, region-held}
use Rattle.erasing.proofs.plan_entry.Goals as goal
use Rattle.erasing.proofs.plan_entry.Goals.{After-any_below, After-first_slot-from, Else-not-is_writable, Else-not-path_good, In_ok-h, Start}

abbrev volume : Start → Volume
volume x = volume_of x.args.img.now (geometry_view x.args.g)

-- what each test and search that was passed says
current : (c : Else-not-is_writable) → writable (geometry_view c.args.g) ≡ true
current c = sym c.is_writable.ensures ∙ c.if-not-is_writable.false

good : (c : Else-not-path_good) → path_good c.args.path.now ≡ true
good c = sym c.path_good.ensures ∙ c.if-not-path_good.false

entries-are : (c : After-first_slot-from) → entries_from c.args.img.now c.first_slot-from.result ≡ entries (volume (goal.at.After-first_slot-from c).Start)
entries-are c = opened-entries _ _ c.requires c.first_slot-from.result c.first_slot-from.ensures.0

walks : (c : After-first_slot-from) → Walks c.args.img.now c.first_slot-from.result
walks c = opened-walks _ _ c.requires _ c.first_slot-from.ensures.0 c.first_slot-from.ensures.1

met : (c : In_ok-h) → c.lookup.result ≡ Some c.in_ok-h.h
met c = grind arith

found_from : (c : In_ok-h) → let s = c.args.img.now in
    lookup c.args.path.now (entries_from s c.first_slot-from.result) ≡ some (head_view s c.in_ok-h.h)
found_from c = (searched-entry _ _ _ c.lookup.ensures _ (met c)).0

lies : (c : In_ok-h) → HeadIn c.args.img.now c.in_ok-h.h
lies c = (searched-entry _ _ _ c.lookup.ensures _ (met c)).1

found : (c : In_ok-h) → lookup c.args.path.now (entries (volume (goal.at.In_ok-h c).Start)) ≡ some (head_view c.args.img.now c.in_ok-h.h)
found c = ap (lookup _) (sym (entries-are (goal.at.In_ok-h c).After-first_slot-from)) ∙ found_from c

below : (c : After-any_below) → any_below c.args.path.now (entries (volume (goal.at.After-any_below c).Start)) ≡ c.any_below.result
below c = ap (any_below _) (sym (entries-are (goal.at.After-any_below c).After-first_slot-from)) ∙ sym c.any_below.ensures

pub returns-then-not-is_writable : goal.returns-then-not-is_writable
unfolding DeletePlanned
returns-then-not-is_writable c = deletable-later _ _ c.requires (sym c.is_writable.ensures ∙ c.if-not-is_writable.true) _

pub returns-then-not-path_good : goal.returns-then-not-path_good
unfolding DeletePlanned
returns-then-not-path_good c z =
    deletable-name _ _ c.requires (current (goal.at.returns-then-not-path_good c).Else-not-is_writable) _ z (sym c.path_good.ensures ∙ c.if-not-path_good.true)

pub first_slot-from-requires : goal.first_slot-from-requires
first_slot-from-requires c = (opened-super _ _ c.requires, omega arith)

pub lookup-requires : goal.lookup-requires
lookup-requires c = (walks (goal.at.lookup-requires c).After-first_slot-from, c.first_slot-from.ensures.6)

pub any_below-requires : goal.any_below-requires
any_below-requires c =
    (walks (goal.at.any_below-requires c).After-first_slot-from, opened-paths _ _ c.requires c.first_slot-from.result c.first_slot-from.ensures.0, found_from (goal.at.any_below-requires c).In_ok-h, c.first_slot-from.ensures.6)

pub returns-then-any_below : goal.returns-then-any_below
unfolding DeletePlanned
returns-then-any_below c z =
    deletable-full _ _ c.requires (current (goal.at.returns-then-any_below c).Else-not-is_writable) _ z (good (goal.at.returns-then-any_below c).Else-not-path_good) _ (found (goal.at.returns-then-any_below c).In_ok-h) (below (goal.at.returns-then-any_below c).After-any_below ∙ c.if-any_below.true)

pub returns-in_err-h : goal.returns-in_err-h
unfolding DeletePlanned
returns-in_err-h c =
    let gone : c.lookup.result ≡ None = grind arith in
    let told : c.in_err-h.field-0.0 ≡ Absent = grind arith in
    let p = err_from_is_err_and c.from_residual.result c.from_residual.ensures.1 in
    rw (p.1, p.2, told) (λ z.
    deletable-none _ _ c.requires (current (goal.at.returns-in_err-h c).Else-not-is_writable) _ z (good (goal.at.returns-in_err-h c).Else-not-path_good)
    (ap (lookup _) (sym (entries-are (goal.at.returns-in_err-h c).After-first_slot-from)) ∙ searched-nothing _ _ _ c.lookup.ensures gone))

pub returns : goal.returns
unfolding DeletePlanned lookup head_view
returns c =
    record {
      opened = c.requires;
      room = found-whole _ _ c.requires _ _ (found (goal.at.returns c).In_ok-h) (lies (goal.at.returns c).In_ok-h).low;
      region = region-held _ _ c.requires _ _ (found (goal.at.returns c).In_ok-h);
      lives = found (goal.at.returns c).In_ok-h;
      outcome = λ write. deletable-done _ _ c.requires (current (goal.at.returns c).Else-not-is_writable) _ write (good (goal.at.returns c).Else-not-path_good) _ (found (goal.at.returns c).In_ok-h) (below (goal.at.returns c).After-any_below ∙ c.if-any_below.false);
    }
