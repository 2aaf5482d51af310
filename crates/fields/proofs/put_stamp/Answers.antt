use mathlib.Core.Path.{ap, ◌∙◌}
use native.Mathlib.Omega.{arith}
use Rattle.rules.specs.Fields.{splice}
use Rattle.fields.specs.Written.{stamp-bits}
use Rattle.fields.proofs.put_stamp.Goals as goal

pub returns : goal.returns
returns c =
    let a = c.args in
    c.put_le.ensures ∙ ap (splice a.s.now a.at.0) (stamp-bits a.bits (omega arith))
