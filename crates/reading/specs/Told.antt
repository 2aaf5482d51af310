-- What a reading call comes to inside the crate: its answer, or a refusal, which is its number and zeros.
use Rattle.std.specs.Prelude.{ℕ, ◌≡◌, List, Result, Ok, Err}
use Rattle.rules.specs.Outcome.{Outcome}
use Rattle.rules.specs.Outcome.Laws.{denied}
use Rattle.refusals.specs.declared.Refusal.{Refusal}
use Rattle.refusals.specs.View.{number_of}

abbrev pub told_as : {A R : Type 0} → (List ℕ → List ℕ → R → Outcome A) → A → List ℕ → List ℕ → Result R Refusal → Outcome A
told_as view zeros s out (Ok r) = view s out r
told_as view zeros s out (Err e) = denied zeros s out (number_of e)
