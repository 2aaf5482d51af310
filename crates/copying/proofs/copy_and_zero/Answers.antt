use Prim.Native.Nat.{ℕ, ◌-◌}
use mathlib.Core.List.{List}
use mathlib.Core.Path.{ap}
use lib.ListN.{replicate}
use Rattle.rules.specs.Fields.{splice}
use Rattle.rules.specs.Fields.Laws.{padded-splice, length-splice}
use mathlib.Core.Path.{◌∙◌}
use native.Mathlib.Omega.{arith}
use lib.ListN.{length}
use Rattle.copying.specs.Front.{copied}
use Rattle.copying.proofs.copy_and_zero.Goals as goal

pub returns : goal.returns
returns c =
    let d = c.args.dst.now in
    let s = c.args.src.now in
    let e = copied d s _ c.copy_into.ensures in
    c.zero_from.ensures
    ∙ ap (λ (x : List ℕ). splice x (length s) (replicate (length x - length s) 0)) e
    ∙ rw (length-splice d 0 s (omega arith)) (padded-splice d s c.requires)
