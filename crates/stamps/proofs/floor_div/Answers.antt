use mir.Syntax.{w64}
use mir.ValLaws.{to_z-of_z}
use Rattle.stamps.proofs.Signed.{quotient-by}
use Rattle.stamps.proofs.floor_div.Goals as goal

pub returns : goal.returns
returns c =
    quotient-by _ _ _ c.args.b _ c.div_euclid.type_inv (to_z-of_z w64 c.args.a c.ranges.a) c.requires (to_z-of_z w64 c.args.b c.ranges.b) c.div_euclid.ensures
