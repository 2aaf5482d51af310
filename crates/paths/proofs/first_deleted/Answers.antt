use mathlib.Core.Path.{sym, ◌∙◌}
use Rattle.rules.specs.Lists.{pick}
use Rattle.rules.specs.Index.{deleted_type}
use Rattle.rules.specs.Paths.{deleted_at, is_deleted}
use Rattle.paths.specs.View.{sought_kind, reaches, passes, hits-none, no-hit-of}
use Rattle.paths.specs.Entries.{of-deleted, none-deleted, all-undeleted}
use Rattle.paths.proofs.first_deleted.Goals as goal

pub returns-then-not-keeps_deleted : goal.returns-then-not-keeps_deleted
returns-then-not-keeps_deleted c =
    record {
      hits = hits-none _ _ _ (none-deleted _ _ (all-undeleted _ (sym c.keeps_deleted.ensures ∙ c.if-not-keeps_deleted.true) _ _ _));
      place = no-hit-of _;
    }

pub next_hit-requires : goal.next_hit-requires
next_hit-requires c = (
  c.requires.0,
  of-deleted _ (sym c.keeps_deleted.ensures ∙ c.if-not-keeps_deleted.false),
  c.requires.1,
)

pub returns : goal.returns
unfolding deleted_at is_deleted deleted_type sought_kind reaches passes pick
returns c =
    record {
      hits = c.next_hit.ensures.hits;
      place = c.next_hit.ensures.edition;
    }
