use Rattle.rules.specs.Names.{volume_name_good}
use Rattle.names.proofs.volume_name_good.Goals as goal

pub returns-then-volume_text_good : goal.returns-then-volume_text_good
unfolding volume_name_good
returns-then-volume_text_good c = rw (← c.volume_text_good.ensures, c.if-volume_text_good.true)

pub returns-else-volume_text_good : goal.returns-else-volume_text_good
unfolding volume_name_good
returns-else-volume_text_good c = rw (← c.volume_text_good.ensures, c.if-volume_text_good.false)
