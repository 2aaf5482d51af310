use mathlib.Core.Path.{ap, ◌∙◌}
use Rattle.rules.specs.Editions.{version_read}
use Rattle.super_block.specs.Tests.{version-read}
use Rattle.rules.specs.Refusals.{version_good}
use Rattle.super_block.proofs.version_good.Goals as goal

pub returns : goal.returns
unfolding version_good
returns c = c.reads.ensures ∙ ap (version_read _) (c.byte_at.ensures ∙ version-read _ _)
