-- The sum of an entry, written last over a zero in its place.
use Rattle.std.specs.Prelude.{ℕ, ◌+◌, ◌-◌, ◌*◌, ◌%◌, ◌≤◌, ◌<◌, ◌≡◌, refl, List, [], ◌∷◌, ◌++◌, length, take, drop, replicate}
use Rattle.std.proofs.Common.{sym, ◌∙◌, append_assoc, arith, length-append, take_at, drop_at, length-take-le}
use Rattle.std.proofs.Math.Path.{ap}
use Rattle.rules.specs.Lists.{padded, part}
use Rattle.rules.specs.Lists.Laws.{length-padded, padded-behind}
use Rattle.rules.specs.Fields.{le_bytes, splice, byte_sum, checksum_of}
use Rattle.rules.specs.Fields.Laws.{splice-nil, part-splice-in, byte_sum-cons, byte_sum-padded}
use Rattle.rules.specs.Editions.{Edition, edition10, edition110, by_edition, sum_length, sum_of}
use Rattle.rules.specs.Editions.Laws.{length-sum}
use Rattle.rules.specs.Index.{entry_bytes}
use Rattle.fields.specs.Written.{byte-alone}

-- ---- as a program writes it: n is the length of the edition's sum
sum-some : (ed : Edition) (bs : List ℕ) → 0 < sum_length ed → sum_of ed bs ≡ checksum_of bs ∷ []
unfolding sum_length sum_of by_edition
sum-some edition10 bs h = absurd (omega arith)
sum-some edition110 bs h = refl

sum-none : (ed : Edition) (bs : List ℕ) → sum_length ed ≡ 0 → sum_of ed bs ≡ []
unfolding sum_length sum_of by_edition
sum-none edition10 bs h = refl
sum-none edition110 bs h = absurd (omega arith)

module _ (ed : Edition) (s : List ℕ) (at m n : ℕ) (is : n ≡ sum_length ed) where
  pub seal-some : 0 < n → (b u : List ℕ) (c k p : ℕ) → b ≡ take (64 * m) (drop at s) → c ≡ checksum_of b → k ≡ c → k < 256 → p ≡ at + 1 → u ≡ splice s p (le_bytes 1 k)
      → u ≡ splice s (at + 1) (sum_of ed (part s at (64 * m)))
  unfolding part
  seal-some h b u c k p b-is c-is k-is low p-is e =
      let z : k ≡ checksum_of (take (64 * m) (drop at s)) = k-is ∙ c-is ∙ ap checksum_of b-is in
      e
      ∙ rw (p-is, byte-alone k low, sum-some ed (take (64 * m) (drop at s)) (omega arith))
      (ap (λ (x : ℕ). splice s (at + 1) (x ∷ [])) z)

  pub seal-none : n ≤ 0 → s ≡ splice s (at + 1) (sum_of ed (part s at (64 * m)))
  seal-none h = sym (ap (splice s (at + 1)) (sum-none ed (part s at (64 * m)) (omega arith)) ∙ splice-nil s (at + 1))

-- ---- what it comes to
-- the second byte of what was written, over it
byte-over : (s : List ℕ) (at t b c : ℕ) (rest : List ℕ) → at + 2 ≤ length s → splice (splice s at (t ∷ b ∷ rest)) (at + 1) (c ∷ []) ≡ splice s at (t ∷ c ∷ rest)
unfolding splice
byte-over s at t b c rest h =
    let d : List ℕ = drop (at + length (t ∷ b ∷ rest)) s in
    let a : List ℕ = take at s ++ (t ∷ []) in
    let l : length a ≡ at + 1 = omega (arith, length-append (take at s) (t ∷ []), length-take-le at s (omega arith)) in
    let l₂ : length (a ++ (b ∷ [])) ≡ at + 1 + 1 = omega (arith, length-append a (b ∷ [])) in
    let one : take at s ++ (t ∷ b ∷ (rest ++ d)) ≡ a ++ (b ∷ (rest ++ d)) = sym (append_assoc (take at s) (t ∷ []) (b ∷ (rest ++ d))) in
    let two : take at s ++ (t ∷ b ∷ (rest ++ d)) ≡ (a ++ (b ∷ [])) ++ (rest ++ d) = one ∙ sym (append_assoc a (b ∷ []) (rest ++ d)) in
    let front : take (at + 1) (take at s ++ (t ∷ b ∷ (rest ++ d))) ≡ a = ap (take (at + 1)) one ∙ take_at a (b ∷ (rest ++ d)) (at + 1) l in
    let back : drop (at + 1 + 1) (take at s ++ (t ∷ b ∷ (rest ++ d))) ≡ rest ++ d = ap (drop (at + 1 + 1)) two ∙ drop_at (a ++ (b ∷ [])) (rest ++ d) (at + 1 + 1) l₂ in
    rw (front, back) (append_assoc (take at s) (t ∷ []) (c ∷ (rest ++ d)))

-- the sum of what stands there, with a zero in its place, is that of the others, where the rest sums as they do
pub sealed : (ed : Edition) (s : List ℕ) (at t n : ℕ) (rest others : List ℕ) → byte_sum rest ≡ byte_sum others → 1 + (sum_length ed + length rest) ≡ n → 2 ≤ n → at + n ≤ length s → (u v : List ℕ)
    → u ≡ splice s at (t ∷ (replicate (sum_length ed) 0 ++ rest))
    → v ≡ splice u (at + 1) (sum_of ed (part u at n))
    → v ≡ splice s at (t ∷ (sum_of ed (t ∷ others) ++ rest))
unfolding sum_length sum_of by_edition checksum_of
sealed edition10 s at t n rest others sums l low room u v eu ev = ev ∙ splice-nil u (at + 1) ∙ eu
sealed edition110 s at t n rest others sums l low room u v eu ev =
    let bs : List ℕ = t ∷ 0 ∷ rest in
    let l₂ : n ≡ length bs = omega arith in
    let here : part u at n ≡ bs = rw (eu, l₂) (part-splice-in s at bs (omega arith)) in
    let same : byte_sum bs ≡ byte_sum (t ∷ others) = omega (arith, byte_sum-cons t (0 ∷ rest), byte_sum-cons 0 rest, byte_sum-cons t others) in
    let c : ℕ = (256 - byte_sum (t ∷ others) % 256) % 256 in
    ev
    ∙ rw (here, same, eu) (byte-over s at t 0 c rest (omega arith))

-- an entry: m bytes behind the sum
pub entry-sealed : (ed : Edition) (s : List ℕ) (at t n m : ℕ) (body : List ℕ) → 1 + (sum_length ed + m) ≡ n → length body ≤ m → 2 ≤ n → at + n ≤ length s → (u v : List ℕ)
    → u ≡ splice s at (t ∷ (replicate (sum_length ed) 0 ++ padded body m))
    → v ≡ splice u (at + 1) (sum_of ed (part u at n))
    → v ≡ splice s at (entry_bytes ed t body n)
unfolding entry_bytes
entry-sealed ed s at t n m body l fits low room u v eu ev =
    let sum : List ℕ = sum_of ed (t ∷ body) in
    let whole : length (t ∷ sum) + m ≡ n = omega (arith, length-sum ed (t ∷ body)) in
    let parts : padded ((t ∷ sum) ++ body) n ≡ (t ∷ sum) ++ padded body m = ap (padded ((t ∷ sum) ++ body)) (sym whole) ∙ padded-behind (t ∷ sum) body m in
    sealed ed s at t n (padded body m) body (byte_sum-padded body m) (omega (arith, length-padded body m fits)) low room u v eu ev ∙ ap (splice s at) (sym parts)

-- a type alone
bare-length : (ed : Edition) → 1 + (sum_length ed + (63 - sum_length ed)) ≡ 64
unfolding sum_length by_edition
bare-length edition10 = refl
bare-length edition110 = refl

bare-zeros : (ed : Edition) → replicate {A = ℕ} 63 0 ≡ replicate (sum_length ed) 0 ++ padded [] (63 - sum_length ed)
unfolding sum_length by_edition padded
bare-zeros edition10 = refl
bare-zeros edition110 = refl

bare-is : (t : ℕ) → padded (t ∷ []) 64 ≡ t ∷ replicate 63 0
unfolding padded
bare-is t = refl

pub bare-sealed : (ed : Edition) (s : List ℕ) (at t : ℕ) → at + 64 ≤ length s → (u v : List ℕ)
    → u ≡ splice s at (padded (t ∷ []) 64)
    → v ≡ splice u (at + 1) (sum_of ed (part u at 64))
    → v ≡ splice s at (entry_bytes ed t [] 64)
bare-sealed ed s at t room u v eu ev =
    entry-sealed ed s at t 64 (63 - sum_length ed) [] (bare-length ed) (omega arith) (omega arith) room u v
    (eu ∙ ap (splice s at) (bare-is t ∙ ap (λ (x : List ℕ). t ∷ x) (bare-zeros ed))) ev
