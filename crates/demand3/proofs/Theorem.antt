-- DEMAND 3: after every list of the eleven calls, with any arguments, from any accepted format of either edition, the image holds what the history says.
use Rattle.rules.specs.History.{Demand3}
use Rattle.after.proofs.Format.Left.{format-left}
use Rattle.after.proofs.Create.Left.{create-left}
use Rattle.after.proofs.Delete.{delete-left}
use Rattle.after.proofs.DeleteKeep.{delete-keep-left}
use Rattle.after.proofs.Restore.{restore-left}
use Rattle.after.proofs.Reclaim.Left.{reclaim-left}
use Rattle.demand3.proofs.Demand.{demand-3}

pub demand3 : Demand3
demand3 = demand-3 format-left create-left delete-left delete-keep-left restore-left reclaim-left
