use Rattle.std.specs.Prelude.{◌≡◌, option_map}
use Rattle.std.proofs.Common.{rules}
use Rattle.paths.specs.View.{hit-searched, found-of-hit}
use Rattle.paths.proofs.seek.Goals as goal
use Rattle.paths.proofs.seek.Goals.{After-map}

-- the closure takes the entry
mapped : (c : After-map) → c.map.result ≡ option_map (λ x. x.0) c.next_hit-met.result.hit
mapped c = search rules

pub returns-clause-searched : goal.returns-clause-searched
returns-clause-searched c = rw (mapped (goal.at.returns-clause-searched c).After-map) (hit-searched _ _ _ _ c.next_hit-met.ensures.hits)

pub returns-clause-edition : goal.returns-clause-edition
returns-clause-edition c = rw (mapped (goal.at.returns-clause-edition c).After-map) (found-of-hit _ _ c.next_hit-met.ensures.edition)
