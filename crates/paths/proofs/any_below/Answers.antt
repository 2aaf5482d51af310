use Rattle.rules.specs.Lists.{pick}
use Rattle.rules.specs.Index.{live_type}
use Rattle.rules.specs.Paths.{any_below, is_live}
use Rattle.paths.specs.View.{sought_kind, reaches, passes}
use Rattle.paths.specs.Entries.{of-below}
use borrow.Author.Rules.{rules}
use Rattle.paths.proofs.any_below.Goals as goal

pub returns : goal.returns
unfolding any_below is_live live_type sought_kind reaches passes pick
returns c = c.any_passes.ensures

pub any_passes-requires : goal.any_passes-requires
any_passes-requires c = search (rules, of-below)
