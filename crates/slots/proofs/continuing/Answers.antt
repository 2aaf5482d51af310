use Rattle.editions.specs.View.{edition_view}
use native.Mathlib.Omega.{arith}
use Rattle.rules.specs.Index.Laws.{continuing-parts}
use Rattle.slots.proofs.continuing.Goals as goal

pub returns : goal.returns
returns c = (omega (arith, continuing-parts (edition_view c.args.ed) c.args.kind c.args.n), omega arith)
