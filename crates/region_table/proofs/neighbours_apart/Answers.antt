use Rattle.std.proofs.Common.{ℕ, zero, suc, ◌≡◌, ◌&&◌, Bool, List, [], ◌∷◌, map, take, leb, refl, ap, ◌∙◌, rules}
use Rattle.std.proofs.lemmas.List.Sorted.{answers_always}
use Rattle.ordering.specs.Regions.{extents_in_turn}
use Rattle.regions.proofs.Turns.{turns, turns-compared}
use Rattle.region_table.specs.declared.Region.{Region}
use Rattle.region_table.specs.View.{extent_view}
use Rattle.region_table.proofs.neighbours_apart.Goals as goal

abbrev start_of : Region → ℕ
start_of r = r.start.0

abbrev end_of : Region → ℕ
end_of r = r.end.0

regions-turn : (b n : ℕ) (rs : List Region) → turns start_of end_of b (take n rs) ≡ extents_in_turn b (take n (map extent_view rs))
unfolding turns extents_in_turn
regions-turn b zero rs = refl
regions-turn b (suc n) [] = refl
regions-turn b (suc n) (r ∷ rs) = ap (λ (t : Bool). leb b r.start.0 && t) (regions-turn r.end.0 n rs)

-- the closure compares the end of a region with the start of the next
pub returns : goal.returns
returns c =
    turns-compared start_of end_of _ _ (c.is_sorted_by.ensures.cases (λ a b. leb (end_of a) (start_of b)) (answers_always _ _ _ (λ f a r g h. search rules)))
    ∙ regions-turn 0 c.args.n c.args.table.now
