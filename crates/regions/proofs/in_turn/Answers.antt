use Rattle.std.proofs.Common.{rules, leb}
use Rattle.std.proofs.lemmas.List.Sorted.{answers_always}
use Rattle.ordering.specs.Regions.{key_start, key_end}
use Rattle.regions.proofs.Turns.{in-turn-compared}
use Rattle.regions.proofs.in_turn.Goals as goal

-- the closure compares the end of a region with the start of the next
pub returns : goal.returns
returns c = in-turn-compared _ _ (c.is_sorted_by.ensures.cases (λ x y. leb (key_end x) (key_start y)) (answers_always _ _ _ (λ f a r g h. search rules)))
