use mathlib.Core.Path.{sym, ◌∙◌}
use Rattle.rules.specs.Refusals.Laws.{read_short}
use Rattle.judging.specs.View.{said-long}
use Rattle.judging.proofs.judge_read.Goals as goal

pub returns : goal.returns
returns c = c.judge.ensures ∙ sym (read_short _ c.if-img-gt-LONGEST.false)

pub returns-then-img-gt-LONGEST : goal.returns-then-img-gt-LONGEST
returns-then-img-gt-LONGEST c = said-long _ c.if-img-gt-LONGEST.true
