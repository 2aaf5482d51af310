use mathlib.Core.Path.{◌≡◌, sym, ◌∙◌}
use mathlib.Core.Bool.{true, false}
use lib.Dec.{leb}
use Rattle.std.proofs.Common.{rules, leb-true, leb-false, lt-ltb, le-ltb}
use Rattle.rules.specs.Regions.{within_data}
use Rattle.slots.specs.View.{head_view}
use Rattle.regions.proofs.within_data.Goals as goal
use Rattle.regions.proofs.within_data.Goals.{then-le, else-le}

pub returns-then-not-ends_by : goal.returns-then-not-ends_by
unfolding within_data head_view
returns-then-not-ends_by c s = elim c.if-le.branch [
  | then-le w ↦
      let a : leb c.args.g.reserved c.args.h.start.0 ≡ true = rw (← c.data_start.ensures) (search rules) in
      let b : w.ends_by.result ≡ false = search rules in
      rw (a, lt-ltb _ _ (leb-false _ _ (sym (w.ends_by.ensures s) ∙ b)), ← c.data_end.ensures) (c.ends_by-then-not-ends_by.ensures s)
  | else-le w ↦ search rules
]

pub returns-else-not-ends_by : goal.returns-else-not-ends_by
unfolding within_data head_view
returns-else-not-ends_by c s = elim c.if-le.branch [
  | then-le w ↦
      let a : leb c.args.g.reserved c.args.h.start.0 ≡ true = rw (← c.data_start.ensures) (search rules) in
      let b : w.ends_by.result ≡ true = search rules in
      rw (a, le-ltb _ _ (leb-true _ _ (sym (w.ends_by.ensures s) ∙ b))) c.if-not-ends_by.false
  | else-le w ↦
      let a : leb c.args.g.reserved c.args.h.start.0 ≡ false = rw (← c.data_start.ensures) (search rules) in
      rw a c.if-not-ends_by.false
]
