use mathlib.Core.Path.{ap}
use native.Mathlib.Omega.{arith}
use lib.ListN.{length, length-append}
use Rattle.rules.specs.Index.{volume_name}
use Rattle.rules.specs.Text.{text}
use Rattle.text.specs.Wrote.{wrote-both}
use Rattle.listing.proofs.put_name.Goals as goal

pub put_bytes-end-requires : goal.put_bytes-end-requires
put_bytes-end-requires c = omega (arith, ap length c.volume_name.ensures, length-append (volume_name c.args.img.now) (text "\n"))

pub put_byte-requires : goal.put_byte-requires
put_byte-requires c = omega (arith, ap length c.volume_name.ensures, length-append (volume_name c.args.img.now) (text "\n"))

pub returns : goal.returns
returns c =
    let name = volume_name c.args.img.now in
    let w = rw c.volume_name.ensures at c.put_bytes-end.ensures in
    let n = length-append name (text "\n") in
    wrote-both _ _ _ _ _ _ name (text "\n") (omega arith) w c.put_byte.ensures
