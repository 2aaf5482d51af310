use mathlib.Core.Path.{◌≡◌}
use mathlib.Core.List.{◌∷◌, map}
use lib.ListN.{drop}
use Rattle.ordering.specs.Paths.{chain_from}
use Rattle.editions.specs.View.{edition_view}
use Rattle.path_rules.specs.Gathering.{key_entry}
use Rattle.path_rules.specs.Shared.{Pivoted}
use Rattle.path_rules.proofs.chained_behind.Given as goal

abbrev pub invariant-loop-key : goal.invariant-loop-key
invariant-loop-key l =
    (chain_from (key_entry l.img l.from l.before) (map (key_entry l.img l.from) (drop l.key-index l.keys)) ≡ chain_from (key_entry l.img l.from l.initial.before) (map (key_entry l.img l.from) l.keys))
    × Pivoted (edition_view l.from.edition) l.img l.from.at.0 (l.before ∷ drop l.key-index l.keys)
