use Rattle.std.proofs.Common.{rules, sym, ◌∙◌}
use Rattle.path_rules.specs.Turns.{last-slash, slashless}
use Rattle.path_rules.proofs.nearest_live.Goals as goal

pub returns-in-Some : goal.returns-in-Some
returns-in-Some c = c.directory_live.ensures ∙ sym (last-slash _ c.args.path.now c.in-Some.end (search rules) (search rules) (search rules))

pub returns-in-None : goal.returns-in-None
returns-in-None c = slashless _ c.args.path.now (search rules)
