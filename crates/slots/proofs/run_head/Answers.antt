use mathlib.Core.Path.{refl, ap, ◌∙◌}
use Prim.Native.Nat.{ℕ, ◌+◌}
use Rattle.rules.specs.Fields.{le}
use Rattle.rules.specs.Index.{file_field}
use lib.ListN.{drop}
use Rattle.slots.specs.View.{run-view}
use Rattle.slots.proofs.run_head.Goals as goal

pub returns : goal.returns
returns c =
    let s = c.args.img.now in
    let m = c.sum_length-sum.ensures.0 in
    let a = drop c.args.at.0 s in record {
      result_value = run-view _ s c.args.at.0 c.args.slot.0 _ refl refl refl c.requires.1 c.kind_at.ensures c.slots_at.ensures.0
          (c.le64_at.ensures ∙ ap (le 8 s) c.after.ensures ∙ ap (λ (z : ℕ). le 8 s (c.args.at.0 + (z + 2))) m)
          (c.at.ensures ∙ c.file_field.ensures ∙ ap (λ (z : ℕ). file_field a (z + 10)) m)
          (c.at-2.ensures ∙ c.file_field-2.ensures ∙ ap (λ (z : ℕ). file_field a (z + 18)) m)
          (c.file_field-3.ensures ∙ ap (λ (z : ℕ). file_field a (z + 26)) m);
      place = (refl, refl, c.slots_at.ensures.2);
    }
