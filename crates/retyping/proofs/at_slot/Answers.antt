use Rattle.retyping.specs.Planned.{planned-retype}
use Rattle.retyping.proofs.at_slot.Goals as goal

pub returns : goal.returns
returns c = λ call is. planned-retype _ call _ c.requires.0 _ _ c.place_of-at.ensures _ c.requires.1 is
