use Prim.Native.Nat.{◌-◌, ◌+◌}
use mathlib.Core.Path.{◌≡◌, ◌∙◌}
use native.Mathlib.Omega.{arith}
use Rattle.rules.specs.Refusals.{checksum_good}
use Rattle.rules.specs.Lists.{part}
use Rattle.rules.specs.Editions.{super_block_at}
use Rattle.editions.specs.View.{edition_view}
use Rattle.super_block.proofs.checksum_good.Goals as goal

pub returns : goal.returns
unfolding checksum_good part
returns c =
    let ed = edition_view c.args.ed in
    let a : c.index-start.result ≡ super_block_at ed + 24 = omega (arith, c.index-start.ensures, c.place.ensures.0) in
    let n : c.index-end.result - c.index-start.result ≡ 18 = omega (arith, a, c.index-end.ensures, c.place-2.ensures.0) in
    c.sums_to_zero.ensures ∙ rw (n, a)
