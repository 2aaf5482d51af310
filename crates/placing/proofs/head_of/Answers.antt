use Rattle.placing.specs.Placed.{head-is}
use Rattle.placing.proofs.head_of.Goals as goal

pub returns : goal.returns
returns c = head-is _ c.args.p _ _ _ _ _ _ _ c.kind.ensures c.bytes.ensures c.index_start-index.ensures c.offset.ensures.0 c.stored_end.ensures
