use mathlib.Core.Path.{sym, ◌∙◌}
use native.Mathlib.Omega.{arith}
use Rattle.judging.specs.View.{opened-super, opened-long}
use Rattle.erasing.specs.Reclaim.{put-sound, put-cleared, put_alone}
use Rattle.erasing.proofs.write_least.Goals as goal

pub put_sizes-requires : goal.put_sizes-requires
put_sizes-requires c = omega (arith, opened-long _ _ c.requires.0)

pub clear_all-requires : goal.clear_all-requires
clear_all-requires c =
    let x = c.requires in
    put-sound _ _ x.0 _ x.1 _ c.put_sizes.ensures

pub returns-then-keeps_deleted : goal.returns-then-keeps_deleted
returns-then-keeps_deleted c =
    let x = c.requires in
    put-cleared _ _ (opened-super _ _ x.0).good _ x.1 _ c.put_sizes.ensures _ c.clear_all.ensures

pub returns-else-keeps_deleted : goal.returns-else-keeps_deleted
returns-else-keeps_deleted c =
    let x = c.requires in
    put_alone _ _ (opened-super _ _ x.0).good _ x.1 _ c.put_sizes.ensures (sym c.keeps_deleted.ensures ∙ c.if-keeps_deleted.false)
