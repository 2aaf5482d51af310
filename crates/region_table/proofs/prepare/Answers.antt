use mathlib.Core.Path.{◌≡◌, sym, ap, ◌∙◌}
use Rattle.std.specs.Prelude.{Some, None}
use Rattle.std.proofs.lemmas.Result.{err_from_is_err_and}
use native.Mathlib.Omega.{arith}
use Rattle.rules.proofs.RegionTable.Laws.{bounds-refused, bounds-bad-slots}
use Rattle.refusals.specs.declared.Refusal.TheVariants.{Index}
use Rattle.super_block.specs.View.{SuperGood, super_view, super-good}
use Rattle.region_table.specs.Entries.{first-unsound, first-at}
use Rattle.region_table.specs.Answers.{prepared-refused}
use Rattle.region_table.proofs.prepare.Goals as goal
use Rattle.region_table.proofs.prepare.Goals.{In_ok-g}

super : (c : In_ok-g) → SuperGood c.args.image.now c.in_ok-g.g
super c = super-good _ _ _ c.judge_super.ensures c.in_ok-g.was

pub returns-in_err-g : goal.returns-in_err-g
returns-in_err-g c =
    let e = err_from_is_err_and c.from_residual.result c.from_residual.ensures.1 in
    rw (e.1, e.2) (prepared-refused _ _ _ _ (bounds-refused _ (sym c.judge_super.ensures ∙ ap super_view c.in_err-g.was)))

pub returns-in_err-from : goal.returns-in_err-from
returns-in_err-from c =
    let gone : c.first_entry.result ≡ None = grind arith in
    let told : c.in_err-from.field-0.0 ≡ Index = grind arith in
    let e = err_from_is_err_and c.from_residual-in_err-from.result c.from_residual-in_err-from.ensures.1 in
    rw (e.1, e.2, told) (prepared-refused _ _ _ _ (bounds-bad-slots _ _ (super (goal.at.returns-in_err-from c).In_ok-g) (first-unsound _ _ _ _ c.first_entry.ensures gone)))

pub prepare_entries-requires : goal.prepare_entries-requires
prepare_entries-requires c =
    let found : c.first_entry.result ≡ Some c.in_ok-from.from = grind arith in
    (super (goal.at.prepare_entries-requires c).In_ok-g, first-at _ _ _ _ c.first_entry.ensures _ found, c.requires)
