use Rattle.judging.specs.View.{opened-super, opened-sound}
use Rattle.erasing.specs.Least.{least-index}
use Rattle.erasing.specs.Reclaim.{tidied-opened, reclaimed-put}
use Rattle.erasing.proofs.write_reclaimed.Goals as goal

pub tidy-requires : goal.tidy-requires
tidy-requires c = let x = c.requires in (opened-super _ _ x, opened-sound _ _ x)

pub write_least-requires : goal.write_least-requires
write_least-requires c =
    let x = c.requires in
    (tidied-opened _ _ x _ c.tidy.ensures, least-index _ _ _ _ _ c.least_sizes-least.ensures)

pub returns : goal.returns
returns c = reclaimed-put _ _ c.requires _ _ c.least_sizes-least.ensures _ _ c.tidy.ensures c.write_least.ensures
