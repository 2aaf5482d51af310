use mathlib.Core.Path.{refl, ◌∙◌}
use Rattle.editions.specs.View.{edition_view}
use Rattle.path_rules.specs.Gathering.{key-path, key-kind, read-follows}
use Rattle.path_rules.specs.Shared.{names-common}
use Rattle.path_rules.proofs.may_follow.Goals as goal

pub name_follows-requires : goal.name_follows-requires
name_follows-requires c =
    names-common (edition_view c.args.from.edition) c.args.img.now c.args.from.at.0 c.args.a c.args.b _ _ _ c.name_of.ensures c.name_of-2.ensures c.shared_of.ensures c.requires.1

pub returns : goal.returns
returns c =
    c.name_follows.ensures
    ∙ read-follows _ _ _ _ _ (c.byte_at-directory.ensures ∙ key-kind c.args.img.now c.args.from c.args.a _ refl _ (c.index.ensures ∙ c.after_slots-run.ensures))
    (key-path c.args.img.now c.args.from c.args.a _ refl _ c.name_of.ensures) (key-path c.args.img.now c.args.from c.args.b _ refl _ c.name_of-2.ensures)
