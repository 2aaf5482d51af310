use mathlib.Core.List.{[]}
use native.Mathlib.Omega.{arith}
use Rattle.erasing.specs.Delete.{blocks-in, blocks-cleared}
use Rattle.erasing.proofs.clear_region.Goals as goal

pub write_blocks-requires : goal.write_blocks-requires
write_blocks-requires c =
    let f = blocks-in _ _ _ c.requires _ _ _ c.block_length-len.ensures.0 (c.past_end-past.ensures []) in
    (c.requires.short, f.0, f.1, omega arith)

pub returns : goal.returns
returns c s = blocks-cleared _ _ _ c.requires s _ _ c.block_length-len.ensures.0 (c.past_end-past.ensures s) _ _ c.write_blocks.ensures
