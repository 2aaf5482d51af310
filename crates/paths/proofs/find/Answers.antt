use Rattle.rules.specs.Lists.{pick}
use Rattle.rules.specs.Index.{live_type}
use Rattle.rules.specs.Paths.{lookup, live_at, is_live}
use Rattle.paths.specs.View.{sought_kind, reaches, passes, compares}
use Rattle.paths.specs.Entries.{of_live}
use borrow.Author.Rules.{rules}
use Rattle.paths.proofs.find.Goals as goal

pub returns : goal.returns
unfolding lookup live_at is_live live_type sought_kind reaches passes compares pick
returns c = record {
  searched = c.seek.ensures.searched;
  counted = c.seek.ensures.counted;
  edition = c.seek.ensures.edition;
}

pub seek-requires : goal.seek-requires
seek-requires c = search (rules, of_live)
