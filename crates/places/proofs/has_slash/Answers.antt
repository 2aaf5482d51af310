use mathlib.Core.Path.{◌∙◌}
use Rattle.places.specs.Slashes.{any-slash}
use Rattle.places.proofs.has_slash.Goals as goal

pub returns : goal.returns
returns c = c.contains.ensures.value ∙ any-slash c.args.path.now
