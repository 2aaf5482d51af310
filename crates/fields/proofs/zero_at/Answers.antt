use Rattle.std.proofs.Common.{ℕ, ◌≡◌, ◌+◌, ◌≤◌, ◌<◌, ◌==◌, ◌∙◌, ap, cond, List, [], ◌∷◌, length, Some, None, rules, arith, eq-eqb, ne_eqb, lt-ltb}
use Rattle.std.proofs.Math.Decide.{ℕ_discrete, dec_lt}
use Rattle.std.proofs.Math.ListN.{length-take}
use Rattle.std.proofs.lemmas.Bool.{le-ltb}
use Rattle.std.specs.List.{position_or_len}
use Rattle.std.specs.Option.{unwrap_or}
use Rattle.std.proofs.lemmas.Iterator.{YieldsList-from_slice}
use Rattle.std.proofs.lemmas.Iterator.Search.{position_from_yields_List}
use Rattle.std.proofs.lemmas.List.Recursion.{is_position_or_len}
use borrow.Author.Tests.{tests}
use lib.Dec.{ltb}
use Rattle.rules.specs.Fields.{up_to_zero}
use Rattle.rules.specs.Fields.Laws.{up_to_zero-take, zero-here, zero-cons}
use Rattle.fields.proofs.zero_at.Goals as goal

-- what stands up to the first zero is as long as its place, or the whole where there is none
step : (b : ℕ) (bs : List ℕ) → length (up_to_zero (b ∷ bs)) ≡ cond (b == 0) 0 (1 + length (up_to_zero bs))
step b bs = by (ℕ_discrete b 0)
  where
    by : Dec (b ≡ 0) → length (up_to_zero (b ∷ bs)) ≡ cond (b == 0) 0 (1 + length (up_to_zero bs))
    by (yes h) = rw (zero-here b bs h, eq-eqb b 0 h)
    by (no h) = rw (zero-cons b bs h, ne_eqb b 0 h) (omega arith)

within : (s : List ℕ) → length (up_to_zero s) ≤ length s
within s = omega (arith, ap length (up_to_zero-take s), length-take (length (up_to_zero s)) s)

first : (s : List ℕ) → length (up_to_zero s) ≡ position_or_len (λ b. b == 0) s
first s = is_position_or_len (λ s. length (up_to_zero s)) (λ b. b == 0) (omega (arith, within [])) step s

place : (n k : ℕ) → n ≤ k → unwrap_or (cond (ltb n k) (Some n) None) k ≡ n
place n k h = by (dec_lt n k)
  where
    by : Dec (n < k) → unwrap_or (cond (ltb n k) (Some n) None) k ≡ n
    by (yes l) = rw (lt-ltb n k l)
    by (no l) = rw (le-ltb n k (omega arith)) (omega arith)

found : (s : List ℕ) (r : ℕ) → r ≡ unwrap_or (cond (ltb (position_or_len (λ b. b == 0) s) (length s)) (Some (position_or_len (λ b. b == 0) s)) None) (length s)
    → (r ≡ length (up_to_zero s)) × (r ≤ length s)
found s r e =
    let w = within s in
    let q : r ≡ length (up_to_zero s) = (rw (← first s) at e) ∙ place (length (up_to_zero s)) (length s) w in
    (q, omega arith)

pub returns : goal.returns
returns c =
    let s = c.args.s.now in
    let p = position_from_yields_List (λ b. b == 0) _ _ c.position.result c.position.ensures.ran (YieldsList-from_slice s cc) (λ x b q k. search (rules, tests)) in
    found s c.unwrap_or.result (rw p at c.unwrap_or.ensures)
