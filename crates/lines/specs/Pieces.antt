-- ANY PIECES: whatever pieces an input is fed in, the names that are given are those of the whole input, in order.
use Rattle.std.specs.Prelude.{ℕ, ◌≡◌, refl, List, [], ◌∷◌}
use Rattle.std.proofs.Common.{ap, ◌∙◌}
use Rattle.rules.specs.Text.{joined}
use Rattle.rules.specs.Report.{names_of}
use Rattle.lines.specs.Feeding.{names_after, GoesOn, Ended}

-- a run over pieces, and the names that it gives: by what each feeding came to (the two cases of `FedTo`), a piece of which nothing is left, the end of the input (where
-- `LastLine` says what the names are), and pieces that are not fed, since no further line is used
pub data FedRun : ℕ → List ℕ → List (List ℕ) → List (List ℕ) → Type 0 where
  goes : {left : ℕ} {p bs : List ℕ} {n left' : ℕ} {buffer : List ℕ} {pieces names : List (List ℕ)}
      → (r : GoesOn left p bs n left' buffer) → FedRun left' r.read pieces names → FedRun left p (bs ∷ pieces) names
  ends : {left : ℕ} {p bs rest : List ℕ} {n left' : ℕ} {buffer : List ℕ} {pieces names : List (List ℕ)}
      → (r : Ended left p bs rest n left' buffer) → FedRun left' [] (rest ∷ pieces) names → FedRun left p (bs ∷ pieces) (r.line ∷ names)
  used : {left : ℕ} {p : List ℕ} {pieces names : List (List ℕ)} → FedRun left p pieces names → FedRun left p ([] ∷ pieces) names
  over : {left : ℕ} {p : List ℕ} {names : List (List ℕ)} → names_after left p [] ≡ names → FedRun left p [] names
  enough : {p : List ℕ} {pieces : List (List ℕ)} → FedRun 0 p pieces []

run-names : {left : ℕ} {p : List ℕ} {pieces names : List (List ℕ)} → FedRun left p pieces names → names_after left p (joined pieces) ≡ names
run-names (goes {pieces = pieces} r run) = r.same (joined pieces) ∙ run-names run
run-names (ends {pieces = pieces} r run) = r.first (joined pieces) ∙ ap (λ (ns : List (List ℕ)). r.line ∷ ns) (run-names run)
run-names (used run) = run-names run
run-names (over e) = e
run-names enough = refl

pub any-pieces : (pieces names : List (List ℕ)) → FedRun 1_000 [] pieces names → names_of (joined pieces) ≡ names
unfolding names_of
any-pieces pieces names run = run-names run
