use Rattle.std.proofs.Common.{rules}
use mathlib.Core.Path.{sym, ap, ◌∙◌}
use mathlib.Core.List.{List, map}
use Prim.Native.Nat.{ℕ}
use Rattle.std.proofs.lemmas.List.{take_rest}
use Rattle.ordering.specs.Paths.{chain}
use Rattle.path_rules.specs.Gathering.{key_entry, sound-at-once, sound-sorted}
use Rattle.path_rules.specs.Shared.{pivoted-small, pivoted-sorted}
use Rattle.path_rules.proofs.paths_sound.Goals as goal

pub chained-requires : goal.chained-requires
chained-requires c = (search rules, rw take_rest (pivoted-small _ _ _ _ c.gather-i.ensures.small))

pub returns-then-chained : goal.returns-then-chained
returns-then-chained c =
    sound-at-once _ _ _ _ c.gather-i.ensures
    (ap (λ (ks : List ℕ). chain (map (key_entry c.args.img.now c.args.from) ks)) (sym (take_rest c.gather-i.new.keys c.gather-i.result)) ∙ sym c.chained.ensures ∙ c.if-chained.true)

pub chained-requires-2 : goal.chained-requires-2
chained-requires-2 c = (search rules, rw take_rest (pivoted-sorted _ _ _ (λ i. (c.type_inv.img i).fits) _ _ _ c.number.ensures c.sort_from.ensures))

pub returns : goal.returns
returns c =
    c.chained-2.ensures ∙ ap (λ (ks : List ℕ). chain (map (key_entry c.args.img.now c.args.from) ks)) (take_rest c.sort_from.new.keys c.gather-i.result)
    ∙ sound-sorted _ _ _ _ c.gather-i.ensures (λ i. (c.type_inv.img i).fits) _ c.number.ensures.few _ _ c.number.ensures.keys c.sort_from.ensures
