use mathlib.Core.Path.{◌≡◌, sym, ap, ◌∙◌}
use mathlib.Core.Bool.{true}
use lib.ListN.{length}
use Rattle.rules.specs.SuperBlock.{geometry_good, geometry_of}
use Rattle.rules.specs.Refusals.{accepted, version_good, checksum_good, judge_super}
use Rattle.rules.specs.Refusals.Laws.{need-true, need-false}
use Rattle.editions.specs.View.{edition_view}
use Rattle.super_block.proofs.judge_fields.Goals as goal
use Rattle.super_block.proofs.judge_fields.Goals.{After-is_good, Else-not-checksum_good, Else-not-version_good}

-- what each test that was passed says
version-is : (c : Else-not-version_good) → version_good (edition_view c.args.ed) c.args.img.now ≡ true
version-is c = sym c.version_good.ensures ∙ c.if-not-version_good.false

checksum-is : (c : Else-not-checksum_good) → checksum_good (edition_view c.args.ed) c.args.img.now ≡ true
checksum-is c = sym c.checksum_good.ensures ∙ c.if-not-checksum_good.false

-- the geometry that was tested is the stored one
tested : (c : After-is_good) → let x = c.args in
    geometry_good (length x.img.now) (geometry_of (edition_view x.ed) x.img.now) ≡ c.is_good.result
tested c = ap (geometry_good _) (sym c.read_geometry-g.ensures) ∙ sym c.is_good.ensures

pub returns-then-not-version_good : goal.returns-then-not-version_good
unfolding judge_super
returns-then-not-version_good c = sym (need-false _ _ (sym c.version_good.ensures ∙ c.if-not-version_good.true))

pub returns-then-not-checksum_good : goal.returns-then-not-checksum_good
unfolding judge_super
returns-then-not-checksum_good c =
    sym (need-true _ _ (version-is (goal.at.returns-then-not-checksum_good c).Else-not-version_good) ∙ need-false _ _ (sym c.checksum_good.ensures ∙ c.if-not-checksum_good.true))

pub returns-then-not-is_good : goal.returns-then-not-is_good
unfolding judge_super
returns-then-not-is_good c =
    sym (need-true _ _ (version-is (goal.at.returns-then-not-is_good c).Else-not-version_good) ∙ need-true _ _ (checksum-is (goal.at.returns-then-not-is_good c).Else-not-checksum_good) ∙ need-false _ _ (tested (goal.at.returns-then-not-is_good c).After-is_good ∙ c.if-not-is_good.true))

pub returns : goal.returns
unfolding judge_super
returns c =
    ap accepted c.read_geometry-g.ensures
    ∙ sym (need-true _ _ (version-is (goal.at.returns c).Else-not-version_good) ∙ need-true _ _ (checksum-is (goal.at.returns c).Else-not-checksum_good) ∙ need-true _ _ (tested (goal.at.returns c).After-is_good ∙ c.if-not-is_good.false))
