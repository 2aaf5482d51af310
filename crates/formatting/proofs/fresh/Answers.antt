use Rattle.rules.specs.Writing.{fresh_geometry}
use Rattle.formatting.proofs.fresh.Goals as goal

pub returns : goal.returns
unfolding fresh_geometry
returns c = rw (c.block_bytes.ensures.0, c.version-version.ensures)
