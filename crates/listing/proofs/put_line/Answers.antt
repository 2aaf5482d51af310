use native.Mathlib.Omega.{arith}
use Rattle.text.specs.Wrote.{wrote-both}
use Rattle.listing.specs.Lines.{line-parts, line-length}
use Rattle.listing.proofs.put_line.Goals as goal

pub put_numbers-numbers-requires : goal.put_numbers-numbers-requires
put_numbers-numbers-requires c = let a = c.args in omega (arith, line-length a.img.now a.h)

pub put_date-date-requires : goal.put_date-date-requires
put_date-date-requires c = let a = c.args in omega (arith, line-length a.img.now a.h)

pub put_path-requires : goal.put_path-requires
put_path-requires c = (c.requires.0, c.requires.1, omega (arith, line-length c.args.img.now c.args.h))

pub shape_of-out : goal.shape_of-out
shape_of-out c = omega arith

pub returns : goal.returns
returns c =
    let a = c.args in
    let n = line-length a.img.now a.h in
    rw (line-parts a.img.now a.h)
    (wrote-both _ _ _ _ _ _ _ _ (omega arith) c.put_numbers-numbers.ensures
    (wrote-both _ _ _ _ _ _ _ _ (omega arith) c.put_date-date.ensures c.put_path.ensures))
