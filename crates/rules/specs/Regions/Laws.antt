-- Laws of regions and free runs: what the tests say of the blocks, and what the search for a run says of its answer. Assumes nothing.
use Rattle.std.specs.Prelude.{ℕ, zero, suc, ◌+◌, ◌-◌, ◌*◌, max, ◌≤◌, ◌<◌, ◌≡◌, refl, Bool, true, false, ◌||◌, not, List, leb, ltb}
use Rattle.std.proofs.Common.{◌∙◌, arith, leb-true, leb-false, ltb-true, lt-ltb, le-leb}
use Rattle.std.proofs.Math.Option.{Option, none, some}
use Rattle.std.proofs.Math.Nat.{lt-div-mul-add, div-eq_of_lt}
use Rattle.std.proofs.Math.Decide.{dec_lt}
use Rattle.std.proofs.lemmas.Bool.{not-true}
use Rattle.rules.specs.Lists.{first_if}
use Rattle.rules.specs.Lists.Laws.{and-true, and_both, or-false}
use Rattle.rules.specs.Index.{Entry}
use Rattle.rules.specs.Regions.{holds, apart, busy, run_free, lowest_from, lowest_free, LowestRun, blocks_needed}

-- ---- the blocks of a region
pub holds-says : (b : ℕ) (e : Entry) → holds b e ≡ true → (e.start ≤ b) × (b < e.end)
unfolding holds
holds-says b e h = let p = and-true (leb e.start b) (ltb b e.end) h in (leb-true e.start b p.0, ltb-true b e.end p.1)

pub holds-in : (b : ℕ) (e : Entry) → e.start ≤ b → b < e.end → holds b e ≡ true
unfolding holds
holds-in b e p q = and_both (leb e.start b) (ltb b e.end) (le-leb e.start b p) (lt-ltb b e.end q)

-- ---- two regions
or_comm : (a b : Bool) → (a || b) ≡ (b || a)
or_comm true true = refl
or_comm true false = refl
or_comm false true = refl
or_comm false false = refl

pub apart-back : (e f : Entry) → apart e f ≡ apart f e
unfolding apart
apart-back e f = or_comm (leb e.end f.start) (leb f.end e.start)

-- a region that ends where the other one starts, or before
pub apart-before : (e f : Entry) → e.end ≤ f.start → apart e f ≡ true
unfolding apart
apart-before e f h = rw (le-leb e.end f.start h)

pub apart-behind : (e f : Entry) → f.end ≤ e.start → apart e f ≡ true
apart-behind e f h = apart-back e f ∙ apart-before f e h

not-apart : (e f : Entry) → apart e f ≡ false → (f.start < e.end) × (e.start < f.end)
unfolding apart
not-apart e f h =
    let p = or-false (leb e.end f.start) (leb f.end e.start) h in
    (leb-false e.end f.start p.0, leb-false f.end e.start p.1)

-- they share no block
pub apart_none : (e f : Entry) → apart e f ≡ true → (b : ℕ) → holds b e ≡ true → holds b f ≡ true → ⊥
unfolding apart
apart_none e f h b p q = go (leb e.end f.start) refl h
  where
    go : (t : Bool) → leb e.end f.start ≡ t → (t || leb f.end e.start) ≡ true → ⊥
    go true l r = omega (arith, leb-true e.end f.start l, holds-says b e p, holds-says b f q)
    go false l r = omega (arith, leb-true f.end e.start r, holds-says b e p, holds-says b f q)

-- and back, of two that have a block
pub none_apart : (e f : Entry) → e.start < e.end → f.start < f.end → ((b : ℕ) → holds b e ≡ true → holds b f ≡ true → ⊥) → apart e f ≡ true
none_apart e f p q h = go (apart e f) refl
  where
    go : (t : Bool) → apart e f ≡ t → t ≡ true
    go true l = refl
    go false l =
        let n = not-apart e f l in
        let b : ℕ = max e.start f.start in
        absurd (h b (holds-in b e (omega arith) (omega arith)) (holds-in b f (omega arith) (omega arith)))

-- ---- free runs
-- what holds at s and from suc s up holds from s up
from : (P : ℕ → Type 0) (s u : ℕ) → s ≤ u → P s → (suc s ≤ u → P u) → Dec (s < u) → P u
from P s u h e rec (yes g) = rec g
from P s u h e rec (no g) = let q : u ≡ s = omega arith in rw q e

pub run-says : (es : List Entry) (b k : ℕ) → run_free es b k ≡ true → (u : ℕ) → b ≤ u → u < b + k → busy es u ≡ false
unfolding run_free
run-says es b zero e u h l = absurd (omega arith)
run-says es b (suc k) e u h l =
    let p = and-true (not (busy es b)) (run_free es (suc b) k) e in
    from (λ v. busy es v ≡ false) b u h (not-true (busy es b) p.0) (λ g. run-says es (suc b) k p.1 u g (omega arith)) (dec_lt b u)

-- ---- the lowest free run
-- a turn: the test at `low`, and the answer from the next start on
turn : (es : List Entry) (k low ceiling : ℕ) (t : Bool) → run_free es low k ≡ t → low + k ≤ ceiling → (r : Option ℕ) → LowestRun es k (suc low) ceiling r
    → LowestRun es k low ceiling (first_if t low r)
unfolding LowestRun first_if
turn es k low ceiling true e m r h = (omega arith, m, e, λ u p q. absurd (omega arith))
turn es k low ceiling false e m none h =
    λ u p q. from (λ v. run_free es v k ≡ false) low u p e (λ g. h u g q) (dec_lt low u)
turn es k low ceiling false e m (some b) h = (
  omega (arith, h.0),
  h.1,
  h.2,
  λ u p q. from (λ v. run_free es v k ≡ false) low u p e (λ g. h.3 u g q) (dec_lt low u),
)

search-run : (es : List Entry) (k ceiling n low : ℕ) → n ≡ ceiling + 1 - (low + k) → LowestRun es k low ceiling (lowest_from es k n low)
unfolding lowest_from LowestRun
search-run es k ceiling zero low e = λ u p q. absurd (omega arith)
search-run es k ceiling (suc n) low e =
    turn es k low ceiling (run_free es low k) refl (omega arith) (lowest_from es k n (suc low)) (search-run es k ceiling n (suc low) (omega arith))

pub lowest-run : (es : List Entry) (k low ceiling : ℕ) → LowestRun es k low ceiling (lowest_free es k low ceiling)
unfolding lowest_free
lowest-run es k low ceiling = search-run es k ceiling (ceiling + 1 - (low + k)) low refl

pub lowest-is : (es : List Entry) (k low ceiling : ℕ) (r : Option ℕ) → lowest_free es k low ceiling ≡ r → LowestRun es k low ceiling r
lowest-is es k low ceiling r e = rw e at (lowest-run es k low ceiling)

-- ---- the blocks of so many bytes
pub needed-covers : (block bytes : ℕ) → 0 < block → bytes ≤ blocks_needed block bytes * block
unfolding blocks_needed
needed-covers block bytes h = omega (arith, lt-div-mul-add {a = bytes + block - 1} h)

pub needed-none : (block : ℕ) → 0 < block → blocks_needed block 0 ≡ 0
unfolding blocks_needed
needed-none block h = div-eq_of_lt (omega arith)
