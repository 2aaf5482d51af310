use Rattle.two_images.proofs.Same.{same-records}
use Rattle.two_images.proofs.list_all_on_both.Goals as goal

pub returns : goal.returns
returns c agree outs = same-records _ _ agree _ _ _ _ _ _ c.sfs_list_all-a.ensures (rw (← outs) at c.sfs_list_all-b.ensures)
