use Rattle.demand3.proofs.OfCode.{listing-counts}
use Rattle.demand3.proofs.serve_listing.Goals as goal

pub returns : goal.returns
returns c =
    let e = c.sfs_listing.ensures in record {
      writes_listing = e;
      counts = λ h holds. listing-counts _ h holds _ _ _ e;
    }
