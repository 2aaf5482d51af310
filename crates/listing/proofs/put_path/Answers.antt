use native.Mathlib.Omega.{arith}
use mathlib.Core.Path.{ap}
use lib.ListN.{length, length-append}
use Rattle.slots.specs.View.{head_view}
use Rattle.rules.specs.Text.{text}
use Rattle.text.specs.Wrote.{wrote-both}
use Rattle.listing.proofs.put_path.Goals as goal

pub put_byte-space-requires : goal.put_byte-space-requires
put_byte-space-requires c = omega arith

pub path_of-requires : goal.path_of-requires
path_of-requires c = (c.requires.0, c.requires.1)

pub put_bytes-end-requires : goal.put_bytes-end-requires
put_bytes-end-requires c =
    let a = c.args in
    omega (arith, length-append (head_view a.img.now a.h).path (text "\n"), ap length c.path_of.ensures)

pub put_byte-requires : goal.put_byte-requires
put_byte-requires c =
    let a = c.args in
    omega (arith, length-append (head_view a.img.now a.h).path (text "\n"), ap length c.path_of.ensures)

pub shape_of-out : goal.shape_of-out
shape_of-out c = omega arith

pub returns : goal.returns
returns c =
    let a = c.args in
    let p = (head_view a.img.now a.h).path in
    let n = length-append p (text "\n") in
    let w = rw c.path_of.ensures at c.put_bytes-end.ensures in
    wrote-both _ _ _ _ _ _ (text " ") _ (omega arith) c.put_byte-space.ensures
    (wrote-both _ _ _ _ _ _ p (text "\n") (omega arith) w c.put_byte.ensures)
