use Rattle.rules.specs.Index.{marker_bytes}
use Rattle.runs.proofs.put_marker.Goals as goal

pub returns : goal.returns
unfolding marker_bytes
returns c = c.put_bare.ensures
