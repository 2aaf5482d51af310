use Rattle.two_images.proofs.Same.{same-content}
use Rattle.two_images.proofs.read_on_both.Goals as goal

pub returns : goal.returns
returns c agree outs = same-content _ _ agree _ _ _ _ _ _ c.sfs_read-a.ensures (rw (← outs) at c.sfs_read-b.ensures)
