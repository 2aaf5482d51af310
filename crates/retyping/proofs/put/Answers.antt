use native.Mathlib.Omega.{arith}
use Rattle.std.specs.Prelude.{Ok}
use Rattle.std.proofs.Common.{ap}
use Rattle.rules.specs.Outcome.{done}
use Rattle.judging.specs.View.{opened-super, opened-sound}
use Rattle.retyping.specs.Planned.{fits-retype, fits-clear, planned-retyped, planned-cleared}
use Rattle.retyping.proofs.put.Goals as goal

pub tidy-requires : goal.tidy-requires
tidy-requires c = let o = (fits-retype _ _ c.requires _ _ _ c.in-Retype.is).0 in (opened-super _ _ o, opened-sound _ _ o)

pub retype-requires : goal.retype-requires
retype-requires c = let t = c.tidy in omega (arith, (fits-retype _ _ c.requires _ _ _ c.in-Retype.is).1, t.auto)

pub tidy-requires-in-Clear : goal.tidy-requires-in-Clear
tidy-requires-in-Clear c = let o = (fits-clear _ _ c.requires _ _ _ c.in-Clear.is).0 in (opened-super _ _ o, opened-sound _ _ o)

pub clear_run-requires : goal.clear_run-requires
clear_run-requires c = let t = c.tidy-in-Clear in omega (arith, (fits-clear _ _ c.requires _ _ _ c.in-Clear.is).1, t.auto)

pub returns-in-Retype : goal.returns-in-Retype
unfolding done
returns-in-Retype c = λ call p. planned-retyped _ call _ p _ _ _ _ (ap Ok c.in-Retype.is) _ _ c.tidy.ensures c.retype.ensures

pub returns-in-Clear : goal.returns-in-Clear
unfolding done
returns-in-Clear c = λ call p. planned-cleared _ call _ p _ _ _ _ (ap Ok c.in-Clear.is) _ _ c.tidy-in-Clear.ensures c.clear_run.ensures
