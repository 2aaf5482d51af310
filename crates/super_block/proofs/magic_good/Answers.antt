use mathlib.Core.Path.{◌∙◌}
use Rattle.super_block.specs.Tests.{magic-starts}
use Rattle.super_block.proofs.magic_good.Goals as goal

pub returns : goal.returns
returns c = c.starts_with.ensures.value ∙ magic-starts _ _ _ (c.index-start.ensures ∙ c.place.ensures.0)
