use mathlib.Core.Path.{◌≡◌, sym, ap, ◌∙◌}
use mathlib.Core.Bool.{true}
use lib.ListN.{length}
use native.Mathlib.Omega.{arith}
use Rattle.std.specs.Prelude.{Some, None}
use Rattle.std.proofs.lemmas.Result.{err_from_is_err_and}
use Rattle.rules.specs.SuperBlock.{length_good}
use Rattle.rules.specs.Refusals.Laws.{length-bounds, super-bad-length, super-bad-magic, super-of}
use Rattle.refusals.specs.declared.Refusal.TheVariants.{Magic}
use Rattle.super_block.specs.View.{magic_view}
use Rattle.super_block.proofs.judge_super.Goals as goal
use Rattle.super_block.proofs.judge_super.Goals.{Else-not-length_good}

pub returns-then-not-length_good : goal.returns-then-not-length_good
returns-then-not-length_good c = sym (super-bad-length _ (sym c.length_good.ensures ∙ c.if-not-length_good.true))

length-is : (c : Else-not-length_good) → length_good (length c.args.img.now) ≡ true
length-is c = sym c.length_good.ensures ∙ c.if-not-length_good.false

pub find_magic-requires : goal.find_magic-requires
find_magic-requires c = (length-bounds _ (length-is c)).0

pub judge_fields-requires : goal.judge_fields-requires
judge_fields-requires c = (length-bounds _ (length-is (goal.at.judge_fields-requires c).Else-not-length_good)).0

pub returns-in_err-ed : goal.returns-in_err-ed
returns-in_err-ed c =
    let gone : c.find_magic.result ≡ None = grind arith in
    let told : c.in_err-ed.field-0.0 ≡ Magic = grind arith in
    let p = err_from_is_err_and c.from_residual.result c.from_residual.ensures.1 in
    rw (p.1, p.2, told)
    (sym (super-bad-magic _ (length-is (goal.at.returns-in_err-ed c).Else-not-length_good) (sym c.find_magic.ensures ∙ ap magic_view gone)))

pub returns : goal.returns
returns c =
    let found : c.find_magic.result ≡ Some c.in_ok-ed.ed = grind arith in
    c.judge_fields.ensures ∙ sym (super-of _ (length-is (goal.at.returns c).Else-not-length_good) _ (sym c.find_magic.ensures ∙ ap magic_view found))
