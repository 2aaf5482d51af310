use mathlib.Core.Path.{◌∙◌}
use Rattle.paths.specs.Entries.{of-directory, any-directory}
use borrow.Author.Rules.{rules}
use Rattle.paths.proofs.directory_live.Goals as goal

pub returns : goal.returns
returns c = c.any_passes.ensures ∙ any-directory _ _

pub any_passes-requires : goal.any_passes-requires
any_passes-requires c = search (rules, of-directory)
