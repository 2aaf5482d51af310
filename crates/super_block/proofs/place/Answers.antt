use native.Mathlib.Omega.{arith}
use Rattle.editions.specs.View.{edition_view}
use Rattle.rules.specs.Editions.Laws.{super-bounds}
use Rattle.super_block.proofs.place.Goals as goal

pub after-requires : goal.after-requires
after-requires c = omega (arith, c.super_block.ensures, super-bounds (edition_view c.args.ed), c.requires)

pub returns : goal.returns
returns c = omega (arith, c.after.ensures, c.super_block.ensures, super-bounds (edition_view c.args.ed))
