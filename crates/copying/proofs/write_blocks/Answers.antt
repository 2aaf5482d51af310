use Prim.Native.Nat.{◌+◌, ◌-◌, ◌*◌}
use mathlib.Core.Path.{◌≡◌}
use native.Mathlib.Omega.{arith}
use Rattle.copying.specs.Blocks.{region-bytes, blocks-put}
use Rattle.copying.proofs.write_blocks.Goals as goal
use Rattle.copying.proofs.write_blocks.Goals.{After-shared_slice_known-1}

-- the bytes of the region
bytes : (c : After-shared_slice_known-1) → let a = c.args in
    a.end.0 * a.len ≡ a.start.0 * a.len + (a.end.0 - a.start.0) * a.len
bytes c = region-bytes c.args.start.0 c.args.end.0 c.args.len c.requires.1

pub offset-first-requires : goal.offset-first-requires
offset-first-requires c = omega (arith, bytes c, c.requires)

pub write_part-requires : goal.write_part-requires
write_part-requires c =
    let p = c.requires in
    (omega (arith, bytes (goal.at.write_part-requires c).After-shared_slice_known-1, p.3, c.offset-first.ensures.0, c.offset-past.ensures.0), omega (arith, p.2, c.offset-past.ensures.0))

pub returns : goal.returns
returns c =
    blocks-put c.args.img.now _ c.args.src.now c.args.start.0 c.args.end.0 c.args.len _ _ c.requires.1
    c.offset-first.ensures.0 c.offset-past.ensures.0 c.write_part.ensures
