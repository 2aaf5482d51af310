use Rattle.std.proofs.Common.{◌≡◌, ℕ, ◌+◌, ◌≤◌, ◌<◌, ◌^◌, List, [], ◌∷◌, slice_index, ap₂, subst, sym, length, arith}
use Rattle.rules.specs.Lists.{part}
use Rattle.rules.specs.Report.{report_in}
use Rattle.report.specs.Numbers.{part-three, part-nine, stored-in, part-below}
use Rattle.report.specs.Stored.{HeldTable}
use Rattle.report.specs.View.{as_report}
use Rattle.report.proofs.held.Report.of.Goals as goal

-- three numbers, written out
abbrev row : List ℕ → ℕ → List ℕ
row s k = slice_index s k ∷ slice_index s (k + 1) ∷ slice_index s (k + 2) ∷ []

rows : (s : List ℕ) → 27 ≤ length s → row s 0 ∷ row s 3 ∷ row s 6 ∷ row s 9 ∷ row s 12 ∷ row s 15 ∷ [] ≡ (report_in s).table
unfolding report_in
rows s h =
    rw (
      part-three s 0 (omega arith),
      part-three s 3 (omega arith),
      part-three s 6 (omega arith),
      part-three s 9 (omega arith),
      part-three s 12 (omega arith),
      part-three s 15 (omega arith),
    )

pub invariant_of-result : goal.invariant_of-result
unfolding part
invariant_of-result c =
    let s = c.args.numbers.now in
    let fits : (i : ℕ) → slice_index s i < 2 ^ 64 = λ i. (c.type_inv.numbers i).fits in
    record {
      stored = subst HeldTable (sym (rows s c.requires)) (stored-in s fits c.requires);
      fit = subst (λ (xs : List ℕ). (i : ℕ) → slice_index xs i < 2 ^ 64) (sym (part-nine s c.requires)) (part-below s fits 18 9);
    }

pub returns : goal.returns
unfolding report_in
returns c = ap₂ as_report (rows c.args.numbers.now c.requires) (part-nine c.args.numbers.now c.requires)
