use native.Mathlib.Omega.{arith}
use Rattle.judging.specs.View.{opened-super, opened-sound, opened-long}
use Rattle.erasing.specs.Delete.{tidied-held, wiped-written}
use Rattle.erasing.proofs.write_wiped.Goals as goal

pub place_of-at-requires : goal.place_of-at-requires
place_of-at-requires c = let p = c.requires in (p.0, omega (arith, p.1.0, p.1.1))

pub tidy-requires : goal.tidy-requires
tidy-requires c = let x = c.requires.0 in (opened-super _ _ x, opened-sound _ _ x)

pub put_wiped-requires : goal.put_wiped-requires
put_wiped-requires c =
    let x = c.requires in
    let k = tidied-held _ _ x.0 _ x.2 _ c.tidy.ensures in
    (k.1, omega (arith, k.0, opened-long _ _ x.0), omega (arith, k.0, c.place_of-at.ensures, x.1.1))

pub returns : goal.returns
returns c path found =
    wiped-written _ _ c.requires.0 path _ found c.requires.2 _ _ _ _ c.least_sizes-least.ensures c.place_of-at.ensures _ c.tidy.ensures (c.put_wiped.ensures c.args.img.now)
