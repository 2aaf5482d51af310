use mathlib.Core.Path.{sym, ◌∙◌}
use mathlib.Core.Logic.{inl, inr}
use Rattle.geometry.specs.View.{areas_fit}
use Rattle.rules.specs.SuperBlock.{data_end}
use Prim.Native.Nat.{◌<◌}
use borrow.Author.Tests.{lt-leb, le-leb}
use Rattle.geometry.proofs.Geometry.areas_fit.Goals as goal
use Rattle.geometry.proofs.Geometry.areas_fit.Goals.{then-index_good, else-index_good}

pub returns-then-self-n : goal.returns-then-self-n
unfolding areas_fit data_end
returns-then-self-n c =
    let p = c.if-self-n.true in
    rw (sym c.index_good.ensures ∙ p.0, le-leb _ _ p.1, ← c.ceiling.ensures, ← c.data_start.ensures) c.has_room.ensures.value

pub returns-else-self-n : goal.returns-else-self-n
unfolding areas_fit
returns-else-self-n c =
    elim c.if-index_good.branch [
      | then-index_good w ↦
          let g = sym c.index_good.ensures ∙ w.if-index_good.true in
          let h : c.args.n < c.args.self.index_bytes = elim c.if-self-n.either [ inl p ↦ p.1 | inr e ↦ absurd (cc) ] in
          rw (w.t-4-is, g, lt-leb _ _ h)
      | else-index_good w ↦ let e = w.if-index_good.false in rw (w.t-4-is, e, sym c.index_good.ensures ∙ e)
    ]
