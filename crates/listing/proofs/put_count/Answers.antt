use native.Mathlib.Omega.{arith}
use Rattle.rules.specs.Text.{text}
use Rattle.text.specs.Wrote.{wrote-both}
use Rattle.listing.specs.Volume.{count-length}
use Rattle.listing.proofs.put_count.Goals as goal

pub put_counted-end-requires : goal.put_counted-end-requires
put_counted-end-requires c = let a = c.args in omega (arith, count-length a.live a.held)

pub put_counted-last-requires : goal.put_counted-last-requires
put_counted-last-requires c = let a = c.args in omega (arith, count-length a.live a.held)

pub put_byte-requires : goal.put_byte-requires
put_byte-requires c = let a = c.args in omega (arith, count-length a.live a.held)

pub shape_of-out : goal.shape_of-out
shape_of-out c = omega arith

pub returns : goal.returns
returns c =
    let a = c.args in
    let n = count-length a.live a.held in
    wrote-both _ _ _ _ _ _ _ _ (omega arith) c.put_counted-end.ensures
    (wrote-both _ _ _ _ _ _ _ (text "\n") (omega arith) c.put_counted-last.ensures c.put_byte.ensures)
