use Rattle.two_images.proofs.Same.{same-listed}
use Rattle.two_images.proofs.list_on_both.Goals as goal

pub returns : goal.returns
returns c agree outs = same-listed _ _ agree _ _ _ _ _ _ c.sfs_list-a.ensures (rw (← outs) at c.sfs_list-b.ensures)
