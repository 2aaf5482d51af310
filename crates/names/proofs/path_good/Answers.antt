use mathlib.Core.Path.{◌∙◌}
use Rattle.rules.specs.Names.{path_good}
use Rattle.rules.specs.Names.Laws.{path-text}
use Rattle.names.specs.Reader.{whole}
use Rattle.names.proofs.path_good.Goals as goal

pub returns : goal.returns
returns c = c.eq.ensures ∙ whole path_good c.args.s.now path-text _ c.path_in.ensures
