use Prim.Native.Nat.{ℕ}
use mathlib.Core.Path.{ap, ◌∙◌}
use mathlib.Core.List.{[]}
use native.Mathlib.Omega.{arith}
use Rattle.rules.specs.Regions.{extent_of}
use Rattle.ordering.specs.Regions.{extent_key, region_key}
use Rattle.slots.specs.View.{head_view, end-near}
use Rattle.regions.proofs.key_of.Goals as goal

pub past_end-requires : goal.past_end-requires
unfolding head_view
past_end-requires c = omega (arith, c.requires.0, end-near [] c.args.h)

pub key_at-requires : goal.key_at-requires
unfolding head_view
key_at-requires c =
    let e = c.past_end.ensures [] in
    record { some = omega (arith, e, c.requires.1); below = omega (arith, e, c.requires.0) }

pub returns : goal.returns
unfolding region_key extent_of head_view
returns c s = c.key_at.ensures ∙ ap (λ (e : ℕ). extent_key (record { start = c.args.h.start.0; end = e })) (c.past_end.ensures s)
