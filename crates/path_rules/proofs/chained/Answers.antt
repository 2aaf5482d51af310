use mathlib.Core.Path.{◌≡◌, refl, sym, ap, ◌∙◌}
use Rattle.ordering.specs.Paths.{no_slash}
use Rattle.path_rules.specs.Gathering.{key_entry, chain-nothing, chain-above, chain_first, key-path}
use Rattle.path_rules.proofs.chained.Goals as goal
use Rattle.path_rules.proofs.chained.Goals.{After-no_slash}

pub returns-in_default : goal.returns-in_default
returns-in_default c = let a = c.args in chain-nothing (key_entry a.img.now a.from) a.keys.now c.in_default.ensures.cases

-- the first entry's path
path : (c : After-no_slash) → let a = c.args in no_slash (key_entry a.img.now a.from c.in-Some.field-0-0.now).path ≡ c.no_slash.result
path c = sym (ap no_slash (key-path _ _ _ _ refl _ c.name_of.ensures)) ∙ sym c.no_slash.ensures

pub returns-then-not-no_slash : goal.returns-then-not-no_slash
returns-then-not-no_slash c =
    let a = c.args in
    chain-above (key_entry a.img.now a.from) a.keys.now _ _ c.in-Some.ensures.cases.0 (path (goal.at.returns-then-not-no_slash c).After-no_slash ∙ c.if-not-no_slash.true)

pub chained_behind-requires : goal.chained_behind-requires
chained_behind-requires c = (c.requires.0, rw c.in-Some.ensures.cases.0 at c.requires.1)

pub returns : goal.returns
returns c =
    let a = c.args in
    c.chained_behind.ensures ∙ chain_first (key_entry a.img.now a.from) a.keys.now _ _ c.in-Some.ensures.cases.0 (path (goal.at.returns c).After-no_slash ∙ c.if-not-no_slash.false)
