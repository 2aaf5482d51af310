use Rattle.comparing.specs.Last.{untested, tested-parts}
use Rattle.comparing.proofs.compare_last.Goals as goal

pub returns-in_default : goal.returns-in_default
returns-in_default c =
    let t = untested c.args.name.now c.args.path.now c.in_default.ensures.cases in
    record { same_value = t.0; counted = t.1 }

pub returns : goal.returns
returns c =
    let t = tested-parts c.args.name.now c.args.path.now c.in-Some.before.now c.in-Some.last.now c.in-Some.ensures.cases.0 c.requires in
    record { same_value = t.0; counted = t.1 }
