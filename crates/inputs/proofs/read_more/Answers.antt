use Rattle.inputs.proofs.Reading.{read_once}
use Rattle.inputs.proofs.read_more.Goals as goal

pub returns-clause-read : goal.returns-clause-read
returns-clause-read g c a first = read_once _ _ _ c.requires a _ _ _ _ c.ok.ensures.value c.read.ensures.bound c.read.ensures.bytes first
