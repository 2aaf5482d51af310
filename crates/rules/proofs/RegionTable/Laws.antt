-- Laws of the test over a table: regions in order are one list, and what the test comes to by cases.
use Rattle.std.specs.Prelude.{ℕ, ◌≤◌, ◌<◌, ◌≡◌, Bool, List, [], ◌∷◌, ◌++◌, length, drop, eqb, ltb, leb}
use Rattle.std.proofs.Math.Path.{refl, ap}
use Rattle.std.proofs.Common.{sym, ap₂, ◌∙◌, arith, lt-ltb, le-ltb, ltb-true, ltb-false, leb-true, leb-false, le-leb, eq-eqb, eqb-true}
use Rattle.std.proofs.Math.Bool.{true, false}
use Rattle.std.proofs.lemmas.Bool.{eqb-false}
use Rattle.rules.specs.Lists.{pick, all, every_two, All, Pairs, Perm, same, keep, swap, thus}
use Rattle.rules.specs.Lists.Laws.{clash, pick_true, pick-false, and-true}
use Rattle.rules.specs.SuperBlock.{Geometry}
use Rattle.rules.specs.Index.{Entry, items_of, entries_of, index_sound}
use Rattle.rules.specs.Regions.{Extent, region_good, regions_sound, apart}
use Rattle.rules.specs.Refusals.{refused, accepted, judge_geometry}
use Rattle.rules.specs.Refusals.Laws.{need-true, need-false, then-refused, then_next}
use Rattle.rules.specs.RegionTable.{regions_of, extent_le, inserted, in_order, apart_number, untabled, tabled, judge_bounds, table_by, table_of, sharing_by, sharing_of}

-- ---- the order of regions is one
extent-is : (x y : Extent) → x.start ≡ y.start → x.end ≡ y.end → x ≡ y
extent-is x y e f = ap₂ (λ (a b : ℕ). record { start = a; end = b }) e f

le_same : (x y : Extent) → x.start ≡ y.start → extent_le x y ≡ leb x.end y.end
unfolding extent_le
le_same x y e = pick_true _ _ (eq-eqb x.start y.start e)

le-other : (x y : Extent) → (x.start ≡ y.start → ⊥) → extent_le x y ≡ ltb x.start y.start
unfolding extent_le
le-other x y d = by (eqb x.start y.start) refl
  where
    by : (t : Bool) → eqb x.start y.start ≡ t → pick (eqb x.start y.start) (leb x.end y.end) (ltb x.start y.start) ≡ ltb x.start y.start
    by true e = absurd (d (eqb-true _ _ e))
    by false e = pick-false _ _ e

-- what the test says: a lower start, or the same start and no higher end
pub data Comes (x y : Extent) : Type 0 where
  lower : x.start < y.start → Comes x y
  level : x.start ≡ y.start → x.end ≤ y.end → Comes x y

pub le-says : (x y : Extent) → extent_le x y ≡ true → Comes x y
unfolding extent_le
le-says x y h = by (eqb x.start y.start) refl
  where
    by : (t : Bool) → eqb x.start y.start ≡ t → Comes x y
    by true e = level (eqb-true _ _ e) (leb-true _ _ (sym (pick_true _ _ e) ∙ h))
    by false e = lower (ltb-true _ _ (sym (pick-false _ _ e) ∙ h))

pub le-holds : (x y : Extent) → Comes x y → extent_le x y ≡ true
le-holds x y (lower l) = le-other x y (λ e. omega arith) ∙ lt-ltb x.start y.start l
le-holds x y (level e l) = le_same x y e ∙ le-leb x.end y.end l

le_total : (x y : Extent) → extent_le x y ≡ false → Comes y x
unfolding extent_le
le_total x y h = by (eqb x.start y.start) refl
  where
    by : (t : Bool) → eqb x.start y.start ≡ t → Comes y x
    by true e = level (sym (eqb-true x.start y.start e)) (omega (arith, leb-false x.end y.end (sym (pick_true _ _ e) ∙ h)))
    by false e = by-other (eqb-false x.start y.start e) (ltb-false x.start y.start (sym (pick-false _ _ e) ∙ h))
      where
        by-other : (x.start ≡ y.start → ⊥) → y.start ≤ x.start → Comes y x
        by-other d l = lower (omega (arith, d, l))

both_ways : (x y : Extent) → Comes x y → Comes y x → x ≡ y
both_ways x y (lower l) (lower m) = absurd (omega arith)
both_ways x y (lower l) (level e m) = absurd (omega arith)
both_ways x y (level e l) (lower m) = absurd (omega arith)
both_ways x y (level e l) (level f m) = extent-is x y e (omega arith)

carried : (x y z : Extent) → Comes x y → Comes y z → Comes x z
carried x y z (lower l) (lower m) = lower (omega arith)
carried x y z (lower l) (level e m) = lower (omega arith)
carried x y z (level e l) (lower m) = lower (omega arith)
carried x y z (level e l) (level f m) = level (e ∙ f) (omega arith)

-- ---- insertion
put-none : (x : Extent) → inserted x [] ≡ x ∷ []
unfolding inserted
put-none x = refl

put_front : (x y : Extent) (ys : List Extent) → extent_le x y ≡ true → inserted x (y ∷ ys) ≡ x ∷ y ∷ ys
unfolding inserted
put_front x y ys e = pick_true _ _ e

put-behind : (x y : Extent) (ys : List Extent) → extent_le x y ≡ false → inserted x (y ∷ ys) ≡ y ∷ inserted x ys
unfolding inserted
put-behind x y ys e = pick-false _ _ e

-- two that both come before the rest, in either order
front-either : (x y : Extent) (rest : List Extent) → inserted x rest ≡ x ∷ rest → inserted y rest ≡ y ∷ rest → inserted x (y ∷ rest) ≡ inserted y (x ∷ rest)
front-either x y rest p q = by (extent_le x y) refl (extent_le y x) refl
  where
    by : (t : Bool) → extent_le x y ≡ t → (u : Bool) → extent_le y x ≡ u → inserted x (y ∷ rest) ≡ inserted y (x ∷ rest)
    by true e true f = let i = both_ways x y (le-says x y e) (le-says y x f) in rw i
    by true e false f = put_front x y rest e ∙ sym (put-behind y x rest f ∙ ap (λ (l : List Extent). x ∷ l) q)
    by false e true f = put-behind x y rest e ∙ ap (λ (l : List Extent). y ∷ l) p ∙ sym (put_front y x rest f)
    by false e false f = clash (sym (le-holds y x (le_total x y e)) ∙ f)

-- one that comes before the first, and one that does not
one-front : (x y z : Extent) (zs : List Extent) → extent_le x z ≡ true → extent_le y z ≡ false → inserted x (z ∷ inserted y zs) ≡ inserted y (x ∷ z ∷ zs)
one-front x y z zs a b = put_front x z (inserted y zs) a ∙ sym (by (extent_le y x) refl)
  where
    by : (t : Bool) → extent_le y x ≡ t → inserted y (x ∷ z ∷ zs) ≡ x ∷ z ∷ inserted y zs
    by true e = clash (sym (le-holds y z (carried y x z (le-says y x e) (le-says x z a))) ∙ b)
    by false e = put-behind y x (z ∷ zs) e ∙ ap (λ (l : List Extent). x ∷ l) (put-behind y z zs b)

-- two are inserted in either order
either_first : (x y : Extent) (zs : List Extent) → inserted x (inserted y zs) ≡ inserted y (inserted x zs)
either_first x y [] = none
  where
    none : inserted x (inserted y []) ≡ inserted y (inserted x [])
    none = rw (put-none x, put-none y) (front-either x y [] (put-none x) (put-none y))
either_first x y (z ∷ zs) = by (extent_le x z) refl (extent_le y z) refl (either_first x y zs)
  where
    by : (t : Bool) → extent_le x z ≡ t → (u : Bool) → extent_le y z ≡ u → inserted x (inserted y zs) ≡ inserted y (inserted x zs)
        → inserted x (inserted y (z ∷ zs)) ≡ inserted y (inserted x (z ∷ zs))
    by true a true b r = rw (put_front y z zs b, put_front x z zs a) (front-either x y (z ∷ zs) (put_front x z zs a) (put_front y z zs b))
    by true a false b r = rw (put-behind y z zs b, put_front x z zs a) (one-front x y z zs a b)
    by false a true b r = rw (put_front y z zs b, put-behind x z zs a) (sym (one-front y x z zs b a))
    by false a false b r =
        rw (put-behind y z zs b, put-behind x z zs a, put-behind x z (inserted y zs) a, put-behind y z (inserted x zs) b)
        (ap (λ (l : List Extent). z ∷ l) r)

-- ---- REGIONS IN ORDER ARE ONE LIST
-- whatever order they come in
pub perm-order : {xs ys : List Extent} → Perm xs ys → in_order xs ≡ in_order ys
unfolding in_order
perm-order same = refl
perm-order (keep {x = x} p) = ap (inserted x) (perm-order p)
perm-order (swap {x = x} {y = y} {xs = xs}) = either_first x y (in_order xs)
perm-order (thus p q) = perm-order p ∙ perm-order q

abbrev pub Ascends : List Extent → Type 0
Ascends xs = Pairs (λ x y. extent_le x y ≡ true) xs

-- what ascends stays as it is
first-stays : (x : Extent) (ys : List Extent) → All (λ y. extent_le x y ≡ true) ys → inserted x ys ≡ x ∷ ys
first-stays x [] h = put-none x
first-stays x (y ∷ ys) h = put_front x y ys h.0

order-stays : (xs : List Extent) → Ascends xs → in_order xs ≡ xs
unfolding in_order
order-stays [] h = refl
order-stays (x ∷ xs) h = ap (inserted x) (order-stays xs h.1) ∙ first-stays x xs h.0

pub in-order-only : (xs ys : List Extent) → Perm xs ys → Ascends ys → in_order xs ≡ ys
in-order-only xs ys p h = perm-order p ∙ order-stays ys h

-- and it has the same regions, and ascends
put-perm : (x : Extent) (ys : List Extent) → Perm (x ∷ ys) (inserted x ys)
unfolding inserted pick
put-perm x [] = same
put-perm x (y ∷ ys) = by (extent_le x y) (put-perm x ys)
  where
    by : (t : Bool) → Perm (x ∷ ys) (inserted x ys) → Perm (x ∷ y ∷ ys) (pick t (x ∷ y ∷ ys) (y ∷ inserted x ys))
    by true p = same
    by false p = thus swap (keep p)

pub in-order-same : (xs : List Extent) → Perm xs (in_order xs)
unfolding in_order
in-order-same [] = same
in-order-same (x ∷ xs) = thus (keep (in-order-same xs)) (put-perm x (in_order xs))

put_all : (P : Extent → Type 0) (x : Extent) (ys : List Extent) → P x → All P ys → All P (inserted x ys)
unfolding inserted pick
put_all P x [] p h = (p, tt)
put_all P x (y ∷ ys) p h = by (extent_le x y) (put_all P x ys p h.1)
  where
    by : (t : Bool) → All P (inserted x ys) → All P (pick t (x ∷ y ∷ ys) (y ∷ inserted x ys))
    by true r = (p, h)
    by false r = (h.0, r)

-- before the first of what ascends, before all of it
before-all : (x y : Extent) (ys : List Extent) → Comes x y → All (λ z. extent_le y z ≡ true) ys → All (λ z. extent_le x z ≡ true) ys
before-all x y [] c h = tt
before-all x y (z ∷ zs) c h = (le-holds x z (carried x y z c (le-says y z h.0)), before-all x y zs c h.1)

put-ascends : (x : Extent) (ys : List Extent) → Ascends ys → Ascends (inserted x ys)
unfolding inserted pick
put-ascends x [] h = (tt, tt)
put-ascends x (y ∷ ys) h = by (extent_le x y) refl (put-ascends x ys h.1)
  where
    by : (t : Bool) → extent_le x y ≡ t → Ascends (inserted x ys) → Ascends (pick t (x ∷ y ∷ ys) (y ∷ inserted x ys))
    by true e r = ((e, before-all x y ys (le-says x y e) h.0), h)
    by false e r = (put_all (λ z. extent_le y z ≡ true) x ys (le-holds y x (le_total x y e)) h.0, r)

pub in-order-ascends : (xs : List Extent) → Ascends (in_order xs)
unfolding in_order
in-order-ascends [] = tt
in-order-ascends (x ∷ xs) = put-ascends x (in_order xs) (in-order-ascends xs)

-- ---- the judgement of the bounds, test by test
module _ (s : List ℕ) where
  pub bounds-refused : {n : ℕ} → judge_geometry s ≡ refused n → judge_bounds s ≡ refused n
  unfolding judge_bounds
  bounds-refused e = then-refused _ e

  module _ (g : Geometry) (super : judge_geometry s ≡ accepted g) where
    pub bounds-bad-slots : index_sound s g (items_of s g) ≡ false → judge_bounds s ≡ refused 6
    unfolding judge_bounds
    bounds-bad-slots e = then_next _ super ∙ need-false _ _ e

    module _ (sound : index_sound s g (items_of s g) ≡ true) where
      pub bounds-bad-regions : all (region_good g) (entries_of (items_of s g)) ≡ false → judge_bounds s ≡ refused 7
      unfolding judge_bounds
      bounds-bad-regions e = then_next _ super ∙ need-true _ _ sound ∙ need-false _ _ e

      pub bounds-good : all (region_good g) (entries_of (items_of s g)) ≡ true → judge_bounds s ≡ accepted (entries_of (items_of s g))
      unfolding judge_bounds
      bounds-good e = then_next _ super ∙ need-true _ _ sound ∙ need-true _ _ e

-- ---- what the test comes to, by cases
module _ (s : List ℕ) where
  pub sharing-refused : (n : ℕ) → judge_bounds s ≡ refused n → sharing_of s ≡ n
  unfolding sharing_of sharing_by
  sharing-refused n e = rw e

  pub sharing-told : (es : List Entry) → judge_bounds s ≡ accepted es → sharing_of s ≡ apart_number (every_two apart es)
  unfolding sharing_of sharing_by
  sharing-told es e = rw e

  module _ (table : List Extent) where
    pub table-refused : (n : ℕ) → judge_bounds s ≡ refused n → table_of s table ≡ untabled n table
    unfolding table_of table_by
    table-refused n e = rw e

    module _ (es : List Entry) (bounded : judge_bounds s ≡ accepted es) where
      pub table-short : length table < length (in_order (regions_of es)) → table_of s table ≡ untabled 18 table
      unfolding table_of table_by tabled
      table-short h = rw (bounded) (pick_true _ _ (lt-ltb _ _ h))

      pub table-told : length (in_order (regions_of es)) ≤ length table
          → table_of s table ≡ record { answer = apart_number (every_two apart es); regions = length (in_order (regions_of es)); table = in_order (regions_of es) ++ drop (length (in_order (regions_of es))) table }
      unfolding table_of table_by tabled
      table-told h = rw (bounded) (pick-false _ _ (le-ltb _ _ h))

-- ---- AS 01 JUDGES: an image that opens, or that is refused for its paths alone, has regions that share no block, and the test says no of one that is refused for its regions
module _ (s : List ℕ) (g : Geometry) (super : judge_geometry s ≡ accepted g) (sound : index_sound s g (items_of s g) ≡ true) where
  pub sharing-sound : regions_sound g (entries_of (items_of s g)) ≡ true → sharing_of s ≡ 0
  unfolding regions_sound apart_number
  sharing-sound e =
      let p = and-true (all (region_good g) (entries_of (items_of s g))) (every_two apart (entries_of (items_of s g))) e in
      sharing-told s _ (bounds-good s g super sound p.0) ∙ ap apart_number p.1

  pub sharing-unsound : regions_sound g (entries_of (items_of s g)) ≡ false → sharing_of s ≡ 7
  unfolding regions_sound apart_number
  sharing-unsound e = by (all (region_good g) (entries_of (items_of s g))) refl
    where
      by : (t : Bool) → all (region_good g) (entries_of (items_of s g)) ≡ t → sharing_of s ≡ 7
      by true a = sharing-told s _ (bounds-good s g super sound a) ∙ ap apart_number (rw a at e)
      by false a = sharing-refused s 7 (bounds-bad-regions s g super sound a)
