use Rattle.retyping.specs.Planned.{planned-clear}
use Rattle.retyping.proofs.clear_at.Goals as goal

pub returns : goal.returns
returns c = λ call is. planned-clear _ call _ c.requires.0 _ _ c.place_of-at.ensures _ c.requires.2 is
