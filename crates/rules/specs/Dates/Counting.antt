-- Laws of counting off: it comes to the one place that n days come to.
use Prim.Native.Nat.{ℕ, zero, suc, ◌+◌, ◌-◌, ◌≤◌, ◌<◌}
use Rattle.std.proofs.Math.Path.{◌≡◌, refl, ap}
use Rattle.std.proofs.Common.{◌∙◌, lt-ltb, le-ltb}
use Rattle.std.proofs.Math.Decide.{dec_lt}
use native.Mathlib.Omega.{arith}
use Rattle.rules.specs.Lists.Laws.{pick_true, pick-false}
use Rattle.rules.specs.Dates.{total, Counted, count_off}

-- ---- sums, and the place that n days come to
module _ (f : ℕ → ℕ) where
  pub total-none : total f 0 ≡ 0
  unfolding total
  total-none = refl

  pub total-next : (n : ℕ) → total f (suc n) ≡ total f n + f n
  unfolding total
  total-next n = refl

  pub total-le : (k u : ℕ) → k ≤ u → total f k ≤ total f u
  unfolding total
  total-le k zero h = let e : k ≡ 0 = omega arith in rw e (omega arith)
  total-le k (suc u) h = go (λ l. total-le k u l) (dec_lt k (suc u))
    where
      go : (k ≤ u → total f k ≤ total f u) → Dec (k < suc u) → total f k ≤ total f (suc u)
      go r (yes l) = omega (arith, r (omega arith))
      go r (no l) = let e : k ≡ suc u = omega arith in rw e (omega arith)

  -- where n days come to: all units before this one, and what is left in it
  abbrev pub Placed : ℕ → ℕ → ℕ → Counted → Type 0
  Placed from to n c = (from ≤ c.unit) × (c.unit < to) × (total f c.unit + c.left ≡ n) × (c.left < f c.unit)

  some-place : (from to n : ℕ) → total f from ≤ n → n < total f to → (c : Counted) × Placed from to n c
  unfolding total
  some-place from zero n h k = absurd (omega arith)
  some-place from (suc to) n h k = go (λ l. some-place from to n h l) (dec_lt n (total f to))
    where
      go : (n < total f to → (c : Counted) × Placed from to n c) → Dec (n < total f to) → (c : Counted) × Placed from (suc to) n c
      go r (yes l) = let (c, p) = r l in (c, (p.0, omega arith, p.2, p.3))
      go r (no l) = (record { unit = to; left = n - total f to }, (low (dec_lt to from), omega arith, omega arith, omega arith))
        where
          low : Dec (to < from) → from ≤ to
          low (yes m) = absurd (omega (arith, total-le (suc to) from m))
          low (no m) = omega arith

  count-here : (steps k n : ℕ) → n < f k → count_off (suc steps) f k n ≡ record { unit = k; left = n }
  unfolding count_off
  count-here steps k n h = pick_true _ _ (lt-ltb n (f k) h)

  count_next : (steps k n : ℕ) → f k ≤ n → count_off (suc steps) f k n ≡ count_off steps f (suc k) (n - f k)
  unfolding count_off
  count_next steps k n h = pick-false _ _ (le-ltb n (f k) h)

  -- counting off comes to the one place
  count-only : (steps k n : ℕ) (c : Counted) → Placed k (k + steps) (total f k + n) c → count_off steps f k n ≡ c
  unfolding total
  count-only zero k n c p = absurd (omega arith)
  count-only (suc steps) k n c (a, b, d, e) = go (λ g. count-only steps (suc k) (n - f k) c g) (dec_lt k c.unit)
    where
      go : (Placed (suc k) (suc k + steps) (total f (suc k) + (n - f k)) c → count_off steps f (suc k) (n - f k) ≡ c) → Dec (k < c.unit)
          → count_off (suc steps) f k n ≡ c
      go r (yes l) =
          let m : f k ≤ n = omega (arith, total-le (suc k) c.unit l) in
          count_next steps k n m ∙ r (omega arith, omega arith, omega arith, e)
      go r (no l) =
          let w : k ≡ c.unit = omega arith in
          let t : total f k ≡ total f c.unit = ap (total f) w in
          let g : f k ≡ f c.unit = ap f w in
          let m : n ≡ c.left = omega arith in
          let q : ◌≡◌ {A = Counted} (record { unit = k; left = n }) (record { unit = c.unit; left = c.left }) = cc in
          count-here steps k n (omega arith) ∙ q

  -- there is one, so that is what is come to
  pub counted : (steps k n : ℕ) → total f k ≡ 0 → n < total f (k + steps) → Placed k (k + steps) n (count_off steps f k n)
  counted steps k n z h =
      let (c, p) = some-place k (k + steps) n (omega arith) h in
      let e : total f k + n ≡ n = omega arith in
      rw (count-only steps k n c (rw e p)) p

  pub counted-only : (steps k n : ℕ) (c : Counted) → total f k ≡ 0 → Placed k (k + steps) n c → count_off steps f k n ≡ c
  counted-only steps k n c z p =
      let e : total f k + n ≡ n = omega arith in
      count-only steps k n c (rw e p)
