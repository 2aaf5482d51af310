use native.Mathlib.Omega.{arith}
use Rattle.index.specs.Steps.{Stops, Told, Arrives, step-read}
use Rattle.index.proofs.next_entry.Goals as goal
use Rattle.index.proofs.next_entry.Goals.{In_ok-here}

met : (c : In_ok-here) → Arrives c.args.img.now c.args.from c.in_ok-here.field-0.here c.in_ok-here.field-0.rest
unfolding Stops
met c = c.in_ok-here.ensures

pub returns-in_err-here : goal.returns-in_err-here
unfolding Stops Told
returns-in_err-here c = rw c.from_residual.ensures c.in_err-here.ensures

pub head_at-head-requires : goal.head_at-head-requires
head_at-head-requires c = let r = met (goal.at.head_at-head-requires c).In_ok-here in omega (arith, r.spot.fits, r.spot.low)

pub returns : goal.returns
unfolding Told
returns c =
    step-read _ _ _ _ (met (goal.at.returns c).In_ok-here) _ c.head_at-head.ensures.place.0 c.head_at-head.ensures.result_value c.head_at-head.ensures.place.1
