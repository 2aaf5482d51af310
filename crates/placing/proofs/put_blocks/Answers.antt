use Rattle.placing.specs.Site.{site_view}
use Rattle.placing.specs.Placed.{blocks-fit, blocks-put}
use Rattle.placing.proofs.put_blocks.Goals as goal

pub write_blocks-requires : goal.write_blocks-requires
write_blocks-requires c =
    let f = blocks-fit (site_view c.args.p) _ c.block_length-len.ensures.0 _ _ c.requires.1 in
    (c.requires.0, f.0, f.1, f.2)

pub returns : goal.returns
returns c = blocks-put (site_view c.args.p) _ c.block_length-len.ensures.0 _ _ _ c.write_blocks.ensures
