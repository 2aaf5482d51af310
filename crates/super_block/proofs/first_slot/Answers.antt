use mathlib.Core.Path.{◌≡◌, refl}
use native.Mathlib.Omega.{arith}
use Rattle.geometry.specs.View.{geometry_view}
use Prim.Native.Nat.{◌+◌, ◌-◌, ◌/◌}
use lib.ListN.{length}
use Rattle.super_block.specs.Ends.{first-items, first-inside}
use Rattle.laws.proofs.Index.Slots.{slot-at}
use Rattle.super_block.proofs.first_slot.Goals as goal

pub returns : goal.returns
returns c =
    let s = c.args.img.now in
    let g = geometry_view c.args.g in
    let at : c.offset-at.result.0 ≡ length s - g.index_bytes + 64 = omega arith in
    let left : c.slots_in-left.result - 2 ≡ g.index_bytes / 64 - 2 = omega arith in
    let one = c.at-slot.ensures in (
      first-items s g _ refl at one left,
      first-inside s g _ c.requires.0.good c.requires.0.short at one left,
      omega (arith, at, one, slot-at s g c.at-slot.result.0),
      omega (arith, left, c.requires.0.good.index-high),
      omega (arith, left),
      refl,
      c.take.ensures,
    )

pub take-requires : goal.take-requires
take-requires c =
    let one = c.at-slot.ensures in
    let g = c.requires.0.good in
    (omega (arith, g.index-high, g.index-fits), c.requires.0.short, omega (arith, one, g.index-high, c.requires.1))
