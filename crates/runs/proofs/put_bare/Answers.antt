use Prim.Native.Nat.{◌-◌}
use mathlib.Core.Path.{◌≡◌, ◌∙◌}
use native.Mathlib.Omega.{arith}
use Rattle.editions.specs.View.{edition_view}
use Rattle.runs.specs.Sealed.{bare-sealed}
use Rattle.runs.proofs.put_bare.Goals as goal

pub returns : goal.returns
returns c =
    let a = c.args in
    let w : c.after_slots.result.0 - a.at.0 ≡ 64 = omega arith in
    bare-sealed (edition_view a.ed) a.img.now a.at.0 a.kind c.requires _ _ (c.write_part.ensures ∙ rw w) c.seal.ensures
