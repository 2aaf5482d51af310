use mathlib.Core.Path.{◌≡◌, sym, ap, ◌∙◌}
use mathlib.Core.Bool.{true}
use Rattle.std.proofs.lemmas.Result.{err_from_is_err_and}
use Rattle.std.specs.Prelude.{Some, None}
use Rattle.rules.specs.Lists.{first}
use Rattle.rules.specs.SuperBlock.{writable}
use Rattle.rules.specs.Names.{path_good}
use Rattle.rules.specs.Writing.Laws.{restore-later, restore-name, restore-none}
use Rattle.refusals.specs.declared.Refusal.TheVariants.{Absent}
use Rattle.geometry.specs.View.{geometry_view}
use native.Mathlib.Omega.{arith}
use Rattle.index.specs.View.{sums-behind}
use Rattle.paths.specs.View.{hit-nothing, hit-entry, hit-of}
use Rattle.judging.specs.View.{opened-super, opened-walks, opened-entries}
use Rattle.retyping.specs.Planned.{RetypePlanned}
use Rattle.restoring.proofs.plan_entry.Goals as goal
use Rattle.restoring.proofs.plan_entry.Goals.{Else-not-is_writable, Else-not-path_good, In_ok-h}

met : (c : In_ok-h) → c.first_deleted.result ≡ Some (c.in_ok-h.h, c.in_ok-h.rest)
met c = grind arith

-- what each test that was passed says
current : (c : Else-not-is_writable) → writable (geometry_view c.args.g) ≡ true
current c = sym c.is_writable.ensures ∙ c.if-not-is_writable.false

good : (c : Else-not-path_good) → path_good c.args.path.now ≡ true
good c = sym c.path_good.ensures ∙ c.if-not-path_good.false

pub returns-then-not-is_writable : goal.returns-then-not-is_writable
unfolding RetypePlanned
returns-then-not-is_writable c = restore-later _ _ c.requires (sym c.is_writable.ensures ∙ c.if-not-is_writable.true) _

pub returns-then-not-path_good : goal.returns-then-not-path_good
unfolding RetypePlanned
returns-then-not-path_good c z =
    restore-name _ _ c.requires (current (goal.at.returns-then-not-path_good c).Else-not-is_writable) _ z (sym c.path_good.ensures ∙ c.if-not-path_good.true)

pub first_slot-from-requires : goal.first_slot-from-requires
first_slot-from-requires c = (opened-super _ _ c.requires, omega arith)

pub first_deleted-requires : goal.first_deleted-requires
first_deleted-requires c =
    let e = c.first_slot-from.ensures in
    (opened-walks _ _ c.requires _ e.0 e.1, e.6)

pub plan_first-requires : goal.plan_first-requires
plan_first-requires c =
    let e = c.first_slot-from.ensures in
    let told = hit-of _ _ c.first_deleted.ensures.place _ _ (met (goal.at.plan_first-requires c).In_ok-h) in (
      record {
        opened = c.requires;
        may = current (goal.at.plan_first-requires c).Else-not-is_writable;
        named = good (goal.at.plan_first-requires c).Else-not-path_good;
        items = e.0;
        inside = e.1;
        hit = hit-entry _ _ _ _ c.first_deleted.ensures.hits _ _ (met (goal.at.plan_first-requires c).In_ok-h);
      },
      e.6,
      sums-behind _ _ _ e.6 _ told.1,
    )

pub returns-in_err-h : goal.returns-in_err-h
unfolding RetypePlanned
returns-in_err-h c =
    let gone : c.first_deleted.result ≡ None = grind arith in
    let told : c.in_err-h.field-0.0 ≡ Absent = grind arith in
    let p = err_from_is_err_and c.from_residual.result c.from_residual.ensures.1 in
    rw (p.1, p.2, told) (λ z.
    restore-none _ _ c.requires (current (goal.at.returns-in_err-h c).Else-not-is_writable) _ z (good (goal.at.returns-in_err-h c).Else-not-path_good)
    (ap (first _) (sym (opened-entries _ _ c.requires c.first_slot-from.result c.first_slot-from.ensures.0))
    ∙ hit-nothing _ _ _ _ c.first_deleted.ensures.hits gone))
