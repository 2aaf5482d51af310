use mathlib.Core.Path.{◌≡◌, sym, ap, ◌∙◌}
use Rattle.std.specs.Prelude.{Some, None}
use Rattle.std.proofs.lemmas.Result.{err_from_is_err_and}
use native.Mathlib.Omega.{arith}
use Rattle.rules.specs.RegionTable.{apart_number}
use Rattle.rules.proofs.RegionTable.Laws.{bounds-refused, bounds-bad-slots, sharing-refused}
use Rattle.refusals.specs.declared.Refusal.TheVariants.{Index}
use Rattle.super_block.specs.View.{SuperGood, super_view, super-good}
use Rattle.region_table.specs.Entries.{LeadsTo, first-unsound, first-at}
use Rattle.region_table.specs.Answers.{sound-number}
use Rattle.region_table.proofs.apart_plainly.Goals as goal
use Rattle.region_table.proofs.apart_plainly.Goals.{In_ok-g, In_ok-from}

super : (c : In_ok-g) → SuperGood c.args.image.now c.in_ok-g.g
super c = super-good _ _ _ c.judge_super.ensures c.in_ok-g.was

leads : (c : In_ok-from) → LeadsTo c.args.image.now c.in_ok-g.g c.first_entry.new.sums c.in_ok-from.from
leads c =
    let found : c.first_entry.result ≡ Some c.in_ok-from.from = grind arith in
    first-at _ _ _ _ c.first_entry.ensures _ found

pub returns-in_err-g : goal.returns-in_err-g
returns-in_err-g c =
    let e = err_from_is_err_and c.from_residual.result c.from_residual.ensures.1 in
    rw (e.1, e.2) (sym (sharing-refused _ _ (bounds-refused _ (sym c.judge_super.ensures ∙ ap super_view c.in_err-g.was))))

pub returns-in_err-from : goal.returns-in_err-from
returns-in_err-from c =
    let gone : c.first_entry.result ≡ None = grind arith in
    let told : c.in_err-from.field-0.0 ≡ Index = grind arith in
    let e = err_from_is_err_and c.from_residual-in_err-from.result c.from_residual-in_err-from.ensures.1 in
    rw (e.1, e.2, told) (sym (sharing-refused _ _ (bounds-bad-slots _ _ (super (goal.at.returns-in_err-from c).In_ok-g) (first-unsound _ _ _ _ c.first_entry.ensures gone))))

pub plainly_sound-requires : goal.plainly_sound-requires
plainly_sound-requires c =
    let a = leads (goal.at.plainly_sound-requires c).In_ok-from in
    (a.bounded, a.walks, a.summed)

pub returns-then-plainly_sound : goal.returns-then-plainly_sound
unfolding apart_number
returns-then-plainly_sound c =
    ap apart_number (sym c.if-plainly_sound.true ∙ c.plainly_sound.ensures)
    ∙ sound-number _ _ _ (super (goal.at.returns-then-plainly_sound c).In_ok-g) _ (leads (goal.at.returns-then-plainly_sound c).In_ok-from)

pub returns-else-plainly_sound : goal.returns-else-plainly_sound
unfolding apart_number
returns-else-plainly_sound c =
    ap apart_number (sym c.if-plainly_sound.false ∙ c.plainly_sound.ensures)
    ∙ sound-number _ _ _ (super (goal.at.returns-else-plainly_sound c).In_ok-g) _ (leads (goal.at.returns-else-plainly_sound c).In_ok-from)
