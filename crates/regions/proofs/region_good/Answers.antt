use mathlib.Core.Path.{◌≡◌, sym, ◌∙◌}
use mathlib.Core.Bool.{false}
use borrow.Author.Tests.{eq-eqb, ne_eqb}
use Rattle.rules.specs.Lists.{pick}
use Rattle.rules.specs.Index.{file_type}
use Rattle.rules.specs.Regions.{region_good}
use Rattle.slots.specs.View.{head_view}
use Rattle.regions.proofs.region_good.Goals as goal
use Rattle.regions.proofs.region_good.Goals.{Else-is_file}

pub returns-then-is_file : goal.returns-then-is_file
unfolding region_good head_view pick
returns-then-is_file c s = rw (sym c.is_file.ensures ∙ c.if-is_file.true) (c.file_region_good.ensures s)

no-file : (c : Else-is_file) → file_type c.args.h.kind ≡ false
no-file c = sym c.is_file.ensures ∙ c.if-is_file.false

pub returns-then-h-eq-UNUSABLE : goal.returns-then-h-eq-UNUSABLE
unfolding region_good head_view pick
returns-then-h-eq-UNUSABLE c s = rw (no-file (goal.at.returns-then-h-eq-UNUSABLE c).Else-is_file, eq-eqb _ _ c.if-h-eq-UNUSABLE.true) (c.within_data.ensures s)

pub returns : goal.returns
unfolding region_good head_view pick
returns c s = rw (no-file (goal.at.returns c).Else-is_file, ne_eqb _ _ c.if-h-eq-UNUSABLE.false)
