use Prim.Native.Nat.{ℕ, ◌+◌, ◌-◌}
use mathlib.Core.Path.{◌≡◌, ap, ◌∙◌}
use mathlib.Core.List.{List}
use native.Mathlib.Omega.{arith}
use Rattle.rules.specs.Lists.{part}
use Rattle.rules.specs.Fields.{splice}
use Rattle.rules.specs.Editions.{super_block_at}
use Rattle.rules.specs.SuperBlock.{magic_at, summed_bytes}
use Rattle.geometry.specs.View.{geometry_view}
use Rattle.super_block.specs.Written.{super-put}
use Rattle.super_block.proofs.put_super.Goals as goal

pub returns : goal.returns
unfolding part
returns c =
    let g = geometry_view c.args.g in
    let w = c.wide.ensures in
    let e = c.place-at in
    let a : c.index-start.result ≡ super_block_at g.edition + 24 = omega (arith, c.index-start.ensures, c.place.ensures.0) in
    let n : c.index-end.result - c.index-start.result ≡ 17 = omega (arith, a, c.index-end.ensures, e.ensures.0) in
    let t = c.put_summed.ensures ∙ ap (λ (u : List ℕ). splice u (magic_at g.edition) (summed_bytes g)) c.put_sizes.ensures in
    super-put c.args.img.now c.requires g _ t _ e.result.0 _ e.ensures.0 (w.0 ∙ c.checksum-sum.ensures ∙ rw (n, a)) w.1 c.put_le.ensures
