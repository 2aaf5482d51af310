-- What the refusal number 0 of a writing call says: each of its tests passed.
use Prim.Native.Nat.{ℕ, ◌<◌}
use mathlib.Core.Path.{◌≡◌, refl, sym, ap, ◌∙◌}
use mathlib.Core.Bool.{Bool, true, false}
use mathlib.Core.List.{List, []}
use mathlib.Core.Option.{Option, none, some}
use native.Mathlib.Omega.{arith}
use Rattle.rules.specs.SuperBlock.{writable}
use Rattle.rules.specs.Refusals.{Verdict, refused, accepted, need, need_found, and_then, Volume, judge_index, judge_super, judge_geometry, judge, judge_read}
use Rattle.rules.specs.Refusals.Laws.{then_next}
use Rattle.rules.specs.Outcome.{done, conclude, on_volume}
use Rattle.rules.specs.Writing.{Written}

-- ---- the refusals of opening are 1 to 8
abbrev pub Low : {A : Type 0} → Verdict A → Type 0
Low (refused n) = (0 < n) × (n < 9)
Low (accepted x) = Unit {0}

pub need-low : {A : Type 0} (b : Bool) (n : ℕ) (v : Verdict A) → (0 < n) × (n < 9) → Low v → Low (need b n v)
unfolding need
need-low true n v h l = l
need-low false n v h l = h

found-low : {A B : Type 0} (o : Option B) (n : ℕ) (next : B → Verdict A) → (0 < n) × (n < 9) → ((x : B) → Low (next x)) → Low (need_found o n next)
unfolding need_found
found-low none n next h l = h
found-low (some x) n next h l = l x

then-low : {A B : Type 0} (v : Verdict A) (next : A → Verdict B) → Low v → ((x : A) → Low (next x)) → Low (and_then v next)
unfolding and_then
then-low (refused n) next l r = l
then-low (accepted x) next l r = r x

pub judge-low : (s : List ℕ) → Low (judge s)
unfolding judge judge_geometry judge_super judge_index
judge-low s =
    then-low _ _
    (need-low _ 1 _ (omega arith, omega arith)
    (found-low _ 2 _ (omega arith, omega arith)
    (λ ed. need-low _ 3 _ (omega arith, omega arith)
    (need-low _ 4 _ (omega arith, omega arith)
    (need-low _ 5 _ (omega arith, omega arith) tt)))))
    (λ g.
    need-low _ 6 _ (omega arith, omega arith)
    (need-low _ 7 _ (omega arith, omega arith)
    (need-low _ 8 _ (omega arith, omega arith) tt)))

pub read_low : (s : List ℕ) → Low (judge_read s)
unfolding judge_read
read_low s = need-low _ 1 _ (omega arith, omega arith) (judge-low s)

-- ---- what a verdict of a writing call comes to
abbrev pub ending : List ℕ → Verdict Written → Written
ending s d = conclude tt s [] d

-- an outcome without refusal, and what it came of
module _ (s : List ℕ) (w : Written) (success : w.refusal ≡ 0) where
  pub passed-need : (b : Bool) (n : ℕ) (d : Verdict Written) → 0 < n → w ≡ ending s (need b n d) → (b ≡ true) × (w ≡ ending s d)
  unfolding need conclude
  passed-need true n d p e = (refl, e)
  passed-need false n d p e = let z : n ≡ 0 = sym (ap (λ (o : Written). o.refusal) e) ∙ success in absurd (omega arith)

  pub passed-found : {B : Type 0} (o : Option B) (n : ℕ) (next : B → Verdict Written) → 0 < n → w ≡ ending s (need_found o n next)
      → (y : B) × (o ≡ some y) × (w ≡ ending s (next y))
  unfolding need_found conclude
  passed-found none n next p e = let z : n ≡ 0 = sym (ap (λ (o : Written). o.refusal) e) ∙ success in absurd (omega arith)
  passed-found (some y) n next p e = (y, refl, e)

-- a call that may write goes on where the image opens and its version may be written; `on_writable` is this, with the tidied image
abbrev pub writing : List ℕ → (Volume → Verdict Written) → Written
writing s next = on_volume tt s [] (λ u. need (writable u.geometry) 9 (next u))

-- the image opens as v, its version may be written, and the call went on
module _ (s : List ℕ) (v : Volume) (next : Volume → Verdict Written) (o : judge s ≡ accepted v) (z : (writing s next).refusal ≡ 0) where
  passed-nine : (writable v.geometry ≡ true) × (writing s next ≡ ending s (next v))
  unfolding on_volume
  passed-nine =
      let step : Volume → Verdict Written = λ u. need (writable u.geometry) 9 (next u) in
      passed-need s (writing s next) z (writable v.geometry) 9 (next v) (omega arith) (ap (ending s) (then_next step o))

  pub passed-may : writable v.geometry ≡ true
  passed-may = passed-nine.0

  pub passed-writable : writing s next ≡ ending s (next v)
  passed-writable = passed-nine.1

-- so where a call answered 0 the image opens
pub passed-opens : (s : List ℕ) (next : Volume → Verdict Written) → (writing s next).refusal ≡ 0 → (v : Volume) × (judge s ≡ accepted v)
unfolding on_volume and_then conclude
passed-opens s next z = by (judge s) refl (judge-low s)
  where
    by : (r : Verdict Volume) → judge s ≡ r → Low r → (v : Volume) × (judge s ≡ accepted v)
    by (refused n) e l = let q : n ≡ 0 = rw e at z in absurd (omega arith)
    by (accepted v) e l = (v, e)

-- what is left then
pub passed-done : (s t : List ℕ) (w : Written) → w ≡ ending s (accepted (done tt t [])) → w.image ≡ t
unfolding conclude done
passed-done s t w e = ap (λ (o : Written). o.image) e
