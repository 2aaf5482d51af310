use mathlib.Core.Path.{refl, sym, ◌∙◌}
use native.Mathlib.Omega.{arith}
use borrow.Author.Rules.{rules}
use Rattle.path_rules.specs.Gathering.{key_entry, chain-end, chain-stop, chain_next}
use Rattle.path_rules.specs.Shared.{pivoted-two, pivoted-next}
use Rattle.path_rules.proofs.chained_behind.Goals as goal

pub may_follow-requires : goal.may_follow-requires
may_follow-requires c =
    let a = c.args in
    (search rules, pivoted-two _ _ _ a.keys.now c.loop-key.key-index _ (omega arith) refl _ c.loop-key.invariant.1)

pub returns-then-not-may_follow : goal.returns-then-not-may_follow
returns-then-not-may_follow c =
    let a = c.args in
    chain-stop (key_entry a.img.now a.from) a.keys.now c.loop-key.key-index _ (omega arith) refl _ (sym c.may_follow.ensures ∙ c.if-not-may_follow.true) ∙ c.loop-key.invariant.0

pub loop-key-preserved : goal.loop-key-preserved
loop-key-preserved c =
    let a = c.args in (
      chain_next (key_entry a.img.now a.from) a.keys.now c.loop-key.key-index _ (omega arith) refl _ (sym c.may_follow.ensures ∙ c.if-not-may_follow.false) ∙ c.loop-key.invariant.0,
      pivoted-next _ _ _ a.keys.now c.loop-key.key-index _ (omega arith) refl _ c.loop-key.invariant.1,
    )

pub returns : goal.returns
returns c =
    let a = c.args in
    chain-end (key_entry a.img.now a.from) a.keys.now c.loop-key.key-index _ (omega arith) ∙ c.loop-key.invariant.0
