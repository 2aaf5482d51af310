-- The last digit is written behind those of n / 10, which a call of itself writes. Assumes nothing.
use Prim.Native.Nat.{ℕ, ◌+◌, ◌-◌, ◌/◌, ◌≤◌, ◌<◌}
use mathlib.Core.List.{[], ◌∷◌, ◌++◌}
use mathlib.Core.Path.{◌≡◌, ap}
use native.Mathlib.Decide.{dec_lt}
use native.Mathlib.Omega.{arith}
use lib.ListN.{length, length-append}
use Rattle.rules.specs.Text.{digit, decimal, widened}
use Rattle.rules.specs.Text.Laws.{wide_low, wide_high}
use Rattle.text.specs.Wrote.{wrote-both}
use Rattle.text.proofs.+put_number.Goals as goal
use Rattle.text.proofs.+put_number.Goals.{else-n-lt10-via-then-n-lt10+else-w-lt2, else-n-lt10-via-else-n-lt10, After-saturating_sub}

shrinks : (n w : ℕ) → (n < 10 → 2 ≤ w) → n / 10 + (w - 1) < n + w
shrinks n w h = go (dec_lt n 10)
  where
    go : Dec (n < 10) → n / 10 + (w - 1) < n + w
    go (yes l) = omega (arith, h l)
    go (no l) = omega arith

pub put_byte-requires : goal.put_byte-requires
put_byte-requires t c =
    let a = c.args in
    omega (arith, ap length (wide_low a.w a.n c.if-n-lt10.true (omega arith)))

pub returns-then-w-lt2 : goal.returns-then-w-lt2
returns-then-w-lt2 t c =
    let a = c.args in
    rw (wide_low a.w a.n c.if-n-lt10.true (omega arith), ← c.digit_of-last.ensures) c.put_byte.ensures

more : (t : ℕ) (c : After-saturating_sub t) → c.args.n < 10 → 2 ≤ c.args.w
more t c h = elim c.else-n-lt10.branch [ else-n-lt10-via-then-n-lt10+else-w-lt2 w ↦ omega arith | else-n-lt10-via-else-n-lt10 w ↦ absurd (omega arith) ]

-- the last digit behind the others
high : (t : ℕ) (c : After-saturating_sub t) → widened c.args.w (decimal c.args.n) ≡ widened c.saturating_sub.result (decimal (c.args.n / 10)) ++ (digit c.args.n ∷ [])
high t c = rw c.saturating_sub.ensures (wide_high c.args.w c.args.n (more t c))

room : (t : ℕ) (c : After-saturating_sub t) → c.args.at + (length (widened c.saturating_sub.result (decimal (c.args.n / 10))) + 1) ≤ length c.args.out.now
room t c = omega (arith, simp length-append at (ap length (high t c)))

pub put_number-end-requires : goal.put_number-end-requires
put_number-end-requires t c =
    let b = (goal.at.put_number-end-requires t c).After-saturating_sub in
    (omega (arith, shrinks c.args.n c.args.w (more t b)), omega (arith, room t b))

pub put_byte-requires-2 : goal.put_byte-requires-2
put_byte-requires-2 t c = omega (arith, room t (goal.at.put_byte-requires-2 t c).After-saturating_sub)

pub returns : goal.returns
returns t c =
    let b = (goal.at.returns t c).After-saturating_sub in
    rw (high t b, ← c.digit_of-last.ensures)
    (wrote-both _ _ _ _ _ _ _ _ (omega (arith, room t b)) c.put_number-end.ensures c.put_byte-2.ensures)
