use Rattle.std.proofs.Common.{refl, arith}
use Rattle.rules.specs.Report.{entry_kind}
use Rattle.rules.specs.Lists.{pick}
use Rattle.report.specs.Rows.{kind-other}
use Rattle.report.proofs.kind_of.Goals as goal

pub returns-in-18 : goal.returns-in-18
unfolding entry_kind pick
returns-in-18 c = rw c.in-18.is refl

pub returns-in-26 : goal.returns-in-26
unfolding entry_kind pick
returns-in-26 c = rw c.in-26.is refl

pub returns-in-17 : goal.returns-in-17
unfolding entry_kind pick
returns-in-17 c = rw c.in-17.is refl

pub returns-in-25 : goal.returns-in-25
unfolding entry_kind pick
returns-in-25 c = rw c.in-25.is refl

pub returns-in_default : goal.returns-in_default
returns-in_default c = kind-other _ (omega arith) (omega arith) (omega arith) (omega arith)
