use Rattle.std.proofs.Common.{length}
use Rattle.places.specs.Leads.{LeadsAt}
use Rattle.places.proofs.leads_to.Given as goal

abbrev pub invariant-loop-x : goal.invariant-loop-x
invariant-loop-x l = LeadsAt l.name l.path (length l.yielded)
