-- Laws of outcomes: what a call comes to, by its verdict.
use Rattle.std.specs.Prelude.{ℕ, ◌≡◌, List}
use Rattle.std.proofs.Math.Path.{ap}
use Rattle.std.proofs.Common.{◌∙◌}
use Rattle.rules.specs.Refusals.{Verdict, refused, accepted, Volume, judge}
use Rattle.rules.specs.Refusals.Laws.{then-refused, then_next}
use Rattle.rules.specs.Outcome.{Outcome, conclude, on_volume}

-- a refusal: its number, zeros, and everything as it was
abbrev pub denied : {A : Type 0} → A → List ℕ → List ℕ → ℕ → Outcome A
denied zeros s out n = record { refusal = n; answer = zeros; image = s; output = out }

module _ {A : Type 0} (zeros : A) (s out : List ℕ) where
  pub conclude-refused : {v : Verdict (Outcome A)} (n : ℕ) → v ≡ refused n → conclude zeros s out v ≡ denied zeros s out n
  unfolding conclude
  conclude-refused n e = rw e

  pub conclude-accepted : {v : Verdict (Outcome A)} (o : Outcome A) → v ≡ accepted o → conclude zeros s out v ≡ o
  unfolding conclude
  conclude-accepted o e = rw e

  module _ (call : Volume → Verdict (Outcome A)) where
    pub volume-refused : (n : ℕ) → judge s ≡ refused n → on_volume zeros s out call ≡ denied zeros s out n
    unfolding on_volume
    volume-refused n e = conclude-refused n (then-refused call e)

    pub volume-judged : (v : Volume) → judge s ≡ accepted v → on_volume zeros s out call ≡ conclude zeros s out (call v)
    unfolding on_volume
    volume-judged v e = ap (conclude zeros s out) (then_next call e)

    -- a call on a volume that is refused further on, or accepted
    pub volume-denied : (v : Volume) (n : ℕ) → judge s ≡ accepted v → call v ≡ refused n → on_volume zeros s out call ≡ denied zeros s out n
    volume-denied v n e d = volume-judged v e ∙ conclude-refused n d

    pub volume-done : (v : Volume) (o : Outcome A) → judge s ≡ accepted v → call v ≡ accepted o → on_volume zeros s out call ≡ o
    volume-done v o e d = volume-judged v e ∙ conclude-accepted o d
