use mathlib.Core.Path.{◌≡◌}
use lib.ListN.{drop}
use Rattle.rules.specs.Fields.{up_to_zero}
use Rattle.ordering.specs.Paths.{no_slash}
use Rattle.path_rules.proofs.no_slash.Given as goal

abbrev pub invariant-loop-b : goal.invariant-loop-b
invariant-loop-b l = no_slash (up_to_zero (drop l.b-index l.name)) ≡ no_slash (up_to_zero l.name)
