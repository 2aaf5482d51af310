use mathlib.Core.Path.{◌∙◌}
use Rattle.rules.specs.Names.{volume_text_good}
use Rattle.rules.specs.Names.Laws.{volume-text}
use Rattle.names.specs.Reader.{whole}
use Rattle.names.proofs.volume_text_good.Goals as goal

pub returns : goal.returns
returns c = c.eq.ensures ∙ whole volume_text_good c.args.s.now volume-text _ c.volume_name_in.ensures
