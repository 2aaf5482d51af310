use Rattle.std.proofs.Common.{◌∙◌}
use Rattle.paths.specs.View.{hit-any}
use Rattle.paths.proofs.any_deleted.Goals as goal

pub returns : goal.returns
returns c = c.is_some.ensures ∙ hit-any _ _ _ _ c.first_deleted.ensures.hits
