use mathlib.Core.Path.{sym, ◌∙◌}
use Rattle.rules.specs.Regions.{regions_sound}
use Rattle.regions.proofs.plainly_sound.Goals as goal

pub returns-then-all_good : goal.returns-then-all_good
unfolding regions_sound
returns-then-all_good c = rw (sym c.all_good.ensures ∙ c.if-all_good.true) c.all_apart.ensures

pub returns-else-all_good : goal.returns-else-all_good
unfolding regions_sound
returns-else-all_good c = rw (sym c.all_good.ensures ∙ c.if-all_good.false) c.if-all_good.false
