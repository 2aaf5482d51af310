-- Free runs by the regions that reach into them, and the search for the lowest one taken further.
use Rattle.std.specs.Prelude.{ℕ, zero, suc, ◌+◌, ◌-◌, ◌≤◌, ◌<◌, max, ◌≡◌, refl, Bool, true, false, ◌&&◌, ◌||◌, not, List, [], ◌∷◌, ltb, leb}
use Rattle.std.proofs.Math.Path.{sym}
use Rattle.std.proofs.Common.{ap, ◌∙◌, ltb-true, leb-true, lt-ltb, le-ltb, le-leb}
use Rattle.std.proofs.Math.Option.{none, some}
use native.Mathlib.Omega.{arith}
use Rattle.std.proofs.Math.Decide.{dec_le}
use Rattle.rules.specs.Lists.{any, first_if}
use Rattle.rules.specs.Lists.Laws.{and-true, and_both, and_left, or_right}
use Rattle.rules.specs.Index.{Entry}
use Rattle.rules.specs.Regions.{holds, busy, run_free, lowest_from, lowest_free}
use Rattle.laws.proofs.Lists.Every.{or_left, same_test, all_of, any_none}

-- ---- a region reaches into k blocks from b on: the first block at or past both starts lies before both ends
unfoldable pub meets : ℕ → ℕ → Entry → Bool
meets b k e = ltb (max b e.start) (b + k) && ltb (max b e.start) e.end

meets-says : (b k : ℕ) (e : Entry) → meets b k e ≡ true → (max b e.start < b + k) × (max b e.start < e.end)
unfolding meets
meets-says b k e h =
    let p = and-true (ltb (max b e.start) (b + k)) _ h in
    (ltb-true _ _ p.0, ltb-true _ _ p.1)

says_meets : (b k : ℕ) (e : Entry) → max b e.start < b + k → max b e.start < e.end → meets b k e ≡ true
unfolding meets
says_meets b k e h l = and_both _ _ (lt-ltb _ _ h) (lt-ltb _ _ l)

meets-none : (b : ℕ) (e : Entry) → meets b 0 e ≡ false
unfolding meets
meets-none b e = and_left _ _ (le-ltb (max b e.start) (b + 0) (omega arith))

or_cases : {X : Type 0} (a b : Bool) → (a || b) ≡ true → (a ≡ true → X) → (b ≡ true → X) → X
or_cases true b e f g = f refl
or_cases false b e f g = g e

-- one block more: the first is held, or the rest is reached into
meets-suc : (b k : ℕ) (e : Entry) → meets b (suc k) e ≡ (holds b e || meets (suc b) k e)
unfolding holds
meets-suc b k e = same_test _ _ (λ h. go (meets-says b (suc k) e h) (dec_le e.start b)) (λ h. or_cases (holds b e) (meets (suc b) k e) h held later)
  where
    go : (max b e.start < b + suc k) × (max b e.start < e.end) → Dec (e.start ≤ b) → (holds b e || meets (suc b) k e) ≡ true
    go p (yes l) = or_left (holds b e) (meets (suc b) k e) (and_both (leb e.start b) (ltb b e.end) (le-leb e.start b l) (lt-ltb b e.end (omega arith)))
    go p (no l) = or_right (holds b e) (meets (suc b) k e) (says_meets (suc b) k e (omega arith) (omega arith))

    held : holds b e ≡ true → meets b (suc k) e ≡ true
    held h =
        let p = and-true (leb e.start b) (ltb b e.end) h in
        let l = leb-true e.start b p.0 in
        let u = ltb-true b e.end p.1 in
        says_meets b (suc k) e (omega arith) (omega arith)

    later : meets (suc b) k e ≡ true → meets b (suc k) e ≡ true
    later h = let p = meets-says (suc b) k e h in says_meets b (suc k) e (omega arith) (omega arith)

-- ---- over all entries
or-mix : (a b c d : Bool) → ((a || b) || (c || d)) ≡ ((a || c) || (b || d))
or-mix true b c d = refl
or-mix false b true d = or_right b true refl
or-mix false true false d = refl
or-mix false false false d = refl

any-or : {A : Type 0} (p q r : A → Bool) → ((x : A) → p x ≡ (q x || r x)) → (xs : List A) → any p xs ≡ (any q xs || any r xs)
unfolding any
any-or p q r h [] = refl
any-or p q r h (x ∷ xs) = rw (h x, any-or p q r h xs) (or-mix (q x) (r x) (any q xs) (any r xs))

not-or : (a b : Bool) → (not a && not b) ≡ not (a || b)
not-or true b = refl
not-or false b = refl

-- k blocks are free when no region reaches into them
pub run-free : (es : List Entry) (b k : ℕ) → run_free es b k ≡ not (any (meets b k) es)
unfolding run_free busy
run-free es b zero = ap not (sym (any_none (meets b 0) es (all_of _ (meets-none b) es)))
run-free es b (suc k) =
    rw (run-free es (suc b) k) (not-or (any (holds b) es) (any (meets (suc b) k) es))
    ∙ ap not (sym (any-or (meets b (suc k)) (holds b) (meets (suc b) k) (meets-suc b k) es))

-- ---- the lowest run: the answer from a later start is the answer from the start
module _ (es : List Entry) (k c : ℕ) where
  pub lowest-none : (b : ℕ) → c < b + k → lowest_free es k b c ≡ none
  unfolding lowest_free lowest_from
  lowest-none b h = let z : c + 1 - (b + k) ≡ 0 = omega arith in rw z

  one_more : (b : ℕ) → b + k ≤ c → c + 1 - (b + k) ≡ suc (c + 1 - (suc b + k))
  one_more b h = omega arith

  pub lowest-here : (b : ℕ) → b + k ≤ c → run_free es b k ≡ true → lowest_free es k b c ≡ some b
  unfolding lowest_free lowest_from first_if
  lowest-here b h f = rw (one_more b h, f)

  lowest-past : (b : ℕ) → run_free es b k ≡ false → lowest_free es k (suc b) c ≡ lowest_free es k b c
  unfolding lowest_free lowest_from first_if
  lowest-past b f = go (dec_le (b + k) c)
    where
      go : Dec (b + k ≤ c) → lowest_free es k (suc b) c ≡ lowest_free es k b c
      go (yes h) = rw (one_more b h, f)
      go (no h) = lowest-none (suc b) (omega arith) ∙ sym (lowest-none b (omega arith))

  skip : (n b : ℕ) → ((v : ℕ) → b ≤ v → v < b + n → run_free es v k ≡ false) → lowest_free es k (b + n) c ≡ lowest_free es k b c
  skip zero b h = ap (λ (x : ℕ). lowest_free es k x c) (omega arith)
  skip (suc n) b h =
      ap (λ (x : ℕ). lowest_free es k x c) (omega arith)
      ∙ skip n (suc b) (λ v l u. h v (omega arith) (omega arith))
      ∙ lowest-past b (h b (omega arith) (omega arith))

  pub lowest-skip : (b d : ℕ) → b ≤ d → ((v : ℕ) → b ≤ v → v < d → run_free es v k ≡ false) → lowest_free es k d c ≡ lowest_free es k b c
  lowest-skip b d l h =
      ap (λ (x : ℕ). lowest_free es k x c) (omega arith)
      ∙ skip (d - b) b (λ v m u. h v m (omega arith))
