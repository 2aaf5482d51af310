use Prim.Native.Nat.{ℕ}
use mathlib.Core.Path.{sym, ap, ◌∙◌}
use lib.ListN.{get_or}
use borrow.Author.Tests.{eqb-true}
use Rattle.slots.specs.View.{one-by-count}
use Rattle.slots.proofs.is_single.Goals as goal

pub returns : goal.returns
returns c =
    let a = c.args in
    let place = c.index-i.ensures ∙ c.after.ensures in
    λ e left. one-by-count _ a.img.now a.at.0 _ c.sum_length.ensures.0 (sym (ap (λ (j : ℕ). get_or a.img.now j 0) place) ∙ eqb-true _ 0 e) left
