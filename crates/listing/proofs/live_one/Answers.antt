use Rattle.std.specs.Prelude.{◌≡◌, ℕ, ◌≤◌, Bool, true, false}
use Rattle.std.proofs.Common.{refl, ap, ◌∙◌, arith}
use Rattle.rules.specs.Lists.{pick}
use Rattle.rules.specs.Paths.{is_live}
use Rattle.slots.specs.View.{head_view}
use Rattle.listing.specs.Lines.{live_one}
use Rattle.listing.proofs.live_one.Goals as goal

-- a test as a number
one-zero : (b : Bool) → (mir.Val.bool_byte b ≡ pick b 1 0) × (mir.Val.bool_byte b ≤ 1)
unfolding pick
one-zero true = (refl, omega arith)
one-zero false = (refl, omega arith)

pub returns : goal.returns
unfolding live_one is_live head_view
returns c =
    let k = one-zero c.is_live.result in
    (λ s. c.from.ensures ∙ k.0 ∙ ap (λ (b : Bool). pick b 1 0) c.is_live.ensures, omega (arith, c.from.ensures, k.1))
