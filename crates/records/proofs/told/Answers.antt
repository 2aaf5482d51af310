use mathlib.Core.Path.{sym, ◌∙◌}
use Rattle.records.specs.View.{told-left, told_none, told-some}
use Rattle.records.proofs.told.Goals as goal
use Rattle.records.proofs.told.Goals.{else-is_some-via-then-is_some+else-put-eq0, else-is_some-via-else-is_some}

pub returns-then-put-eq0 : goal.returns-then-put-eq0
returns-then-put-eq0 c s out after g p = told_none s g out _ after p (sym c.is_some.ensures ∙ c.if-is_some.true) c.if-put-eq0.true

pub returns : goal.returns
returns c s out after g p =
    let e = c.records_of.ensures in
    elim c.else-is_some.branch [
      | else-is_some-via-then-is_some+else-put-eq0 w ↦ told-some s g out _ after p _ w.if-put-eq0.false e.0 e.1 e.2 e.3
      | else-is_some-via-else-is_some w ↦ told-left s g out _ after p _ (sym c.is_some.ensures ∙ w.if-is_some.false) e.0 e.1 e.2 e.3
    ]
