use Rattle.two_images.proofs.Same.{same-found}
use Rattle.two_images.proofs.find_on_both.Goals as goal

pub returns : goal.returns
returns c agree = same-found _ _ agree _ _ _ c.sfs_find-a.ensures c.sfs_find-b.ensures
