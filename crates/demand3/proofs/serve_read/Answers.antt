use mathlib.Core.Path.{refl}
use Rattle.demand3.proofs.OfCode.{bytes_back}
use Rattle.demand3.proofs.serve_read.Goals as goal

pub returns : goal.returns
returns c =
    let e = c.sfs_read.ensures in
    record {
      answered = (_, _, e, refl);
      back = λ h holds. bytes_back _ h holds _ _ _ _ e;
    }
