-- NO SUM WRAPS: over any list of files the table of a report is the sum of the images' own tables, 64 bits of each sum; over 1,000 it is that sum itself. Assumes nothing.
use Prim.Native.Nat.{ℕ, zero, suc, ◌+◌, ◌-◌, ◌*◌, ◌%◌, ◌^◌, ◌≤◌, ◌<◌}
use mathlib.Core.Path.{◌≡◌, refl, sym, ap, ap₂, ◌∙◌}
use mathlib.Core.Bool.{Bool, true}
use mathlib.Core.List.{List, [], ◌∷◌}
use mathlib.Core.Logic.{◌⊎◌, inl, inr}
use native.Mathlib.Nat.{mod-eq_of_lt, zero-add, add-zero, mul-le-mul_left}
use native.Mathlib.Omega.{arith}
use lib.ListN.{length, drop, replicate}
use lib.Dec.{eqb}
use Rattle.rules.specs.Lists.{both, only, sum, All}
use Rattle.rules.specs.Editions.{Edition}
use Rattle.rules.specs.SuperBlock.{block_length}
use Rattle.rules.specs.SuperBlock.Laws.{block-low}
use Rattle.rules.specs.Index.{Entry, Item, unused, stale, entry, fault, item_at, items_of, followed, walk, walk_all, inner_slots, entries_of, slot_at, slot_bytes}
use Rattle.rules.specs.Index.Items.{stale-fits}
use Rattle.rules.specs.Regions.{blocks_of, region_good}
use Rattle.rules.specs.Refusals.{Verdict, refused, accepted, Volume, entries, judge_read}
use Rattle.rules.specs.Refusals.Laws.{Opens, judge-opens, read-opens}
use Rattle.rules.specs.Report.{item_kind, slots_in, blocks_in, bytes_in, sums_of_kind, Table, sums_of, opened_sums, image_sums, plus64, added, Source, unread, image, Report, no_report, with_image, with_source, report_from, source_sums, totals, TableSums, NoWrap}
use Rattle.laws.proofs.Lists.Every.{all-and, all-weaken, sum-only}
use Rattle.laws.proofs.Index.Slots.{inner-slots}
use Rattle.laws.proofs.Index.Entries.{item-cases, run-within, unusable-slots, few-entries}
use Rattle.laws.proofs.Entries.Regions.{Regionless, Within, Settled, sound-says, placed}
use Rattle.laws.proofs.Entries.Walked.{Bare, settled-entries, bare-entries}
use Rattle.laws.proofs.Images.Areas.{within_in, bytes-in}
use Rattle.laws.proofs.Report.Table.{table-thrice}

-- ---- the sums of one image
-- slots
slots-followed : (left : ℕ) (i : Item) (rest : ℕ → List Item) → 0 < left → slots_in i ≤ left
    → ((n : ℕ) → sum slots_in (rest n) ≤ left - n) → sum slots_in (followed i rest) ≤ left
unfolding followed sum slots_in
slots-followed left (unused k) rest more h r = omega (arith, r 1)
slots-followed left (stale k n) rest more h r = omega (arith, r n)
slots-followed left (entry e) rest more h r = omega (arith, r e.slots)
slots-followed left (fault k) rest more h r = omega arith

module _ (ed : Edition) where
  item-fits : (left k : ℕ) (a : List ℕ) → 0 < left → slots_in (item_at ed left k a) ≤ left
  unfolding slots_in
  item-fits left k a more =
      item-cases ed left k a (λ i. slots_in i ≤ left) (λ e r. run-within ed left k a e r) (λ e u. omega (arith, unusable-slots ed k a e u))
      (omega arith) (stale-fits ed left a more) (omega arith)

  slots-walk : (steps left k : ℕ) (a : List ℕ) → sum slots_in (walk ed steps left k a) ≤ left
  unfolding walk sum
  slots-walk zero left k a = omega arith
  slots-walk (suc steps) zero k a = omega arith
  slots-walk (suc steps) (suc left) k a =
      slots-followed (suc left) (item_at ed (suc left) k a) _ (omega arith) (item-fits (suc left) k a (omega arith))
      (λ n. slots-walk steps (suc left - n) (k + n) (drop (slot_bytes * n) a))

-- blocks and bytes are those of the entries
blocks-entries : (is : List Item) → sum blocks_in is ≡ sum blocks_of (entries_of is)
unfolding sum blocks_in entries_of
blocks-entries [] = refl
blocks-entries (unused k ∷ is) = zero-add _ ∙ blocks-entries is
blocks-entries (stale k n ∷ is) = zero-add _ ∙ blocks-entries is
blocks-entries (entry e ∷ is) = ap (λ (n : ℕ). blocks_of e + n) (blocks-entries is)
blocks-entries (fault k ∷ is) = zero-add _ ∙ blocks-entries is

bytes-entries : (is : List Item) → sum bytes_in is ≡ sum (λ e. e.length) (entries_of is)
unfolding sum bytes_in entries_of
bytes-entries [] = refl
bytes-entries (unused k ∷ is) = zero-add _ ∙ bytes-entries is
bytes-entries (stale k n ∷ is) = zero-add _ ∙ bytes-entries is
bytes-entries (entry e ∷ is) = ap (λ (n : ℕ). e.length + n) (bytes-entries is)
bytes-entries (fault k ∷ is) = zero-add _ ∙ bytes-entries is

sum-most : (f : Entry → ℕ) (es : List Entry) → All (λ e. f e ≤ 65_536) es → sum f es ≤ 65_536 * length es
unfolding sum
sum-most f [] h = omega arith
sum-most f (e ∷ es) h = omega (arith, h.0, sum-most f es h.1)

-- every number is at most m
abbrev pub AtMost : ℕ → Table → Type 0
AtMost m t = All (λ row. All (λ n. n ≤ m) row) t

-- 1,024 × 65,536
abbrev pub most : ℕ
most = 67_108_864

module _ (s : List ℕ) (v : Volume) (o : Opens s v) (small : length s ≤ 65_536) where
  few : inner_slots v.geometry ≤ 1_022
  few = omega (arith, inner-slots v.geometry, o.geometry-good.index-fits)

  module _ (e : Entry) where
    within-few : Within v.geometry e → (blocks_of e ≤ 65_536) × (blocks_of e * block_length v.geometry ≤ 65_536)
    within-few w =
        let r = within_in (length s) v.geometry e o.geometry-good w in
        (omega (arith, r.order, r.high, small, mul-le-mul_left (blocks_of e) (block-low (length s) v.geometry o.geometry-good)), omega (arith, r.order, r.high))

    blocks-few : Settled e → region_good v.geometry e ≡ true → blocks_of e ≤ 65_536
    unfolding blocks_of
    blocks-few t h = by (placed v.geometry e t h)
      where
        by : Regionless e ⊎ Within v.geometry e → e.end - e.start ≤ 65_536
        by (inl n) = omega (arith, n.end)
        by (inr w) = (within-few w).0

    bytes-few : Bare e → region_good v.geometry e ≡ true → e.length ≤ 65_536
    bytes-few b h = by (bytes-in v.geometry e b h)
      where
        by : (e.length ≡ 0) ⊎ (Within v.geometry e × (e.length ≤ blocks_of e * block_length v.geometry)) → e.length ≤ 65_536
        by (inl z) = omega arith
        by (inr (w, l)) = omega (arith, (within-few w).1)

  count-few : length (entries v) ≤ 1_022
  unfolding items_of walk_all
  count-few = rw o.items-are (omega (arith, few, few-entries v.geometry.edition (inner_slots v.geometry) (inner_slots v.geometry) 1 (drop (slot_at s v.geometry 1) s)))

  slots-most : sum slots_in v.items ≤ most
  unfolding items_of walk_all
  slots-most = rw o.items-are (omega (arith, few, slots-walk v.geometry.edition (inner_slots v.geometry) (inner_slots v.geometry) 1 (drop (slot_at s v.geometry 1) s)))

  good-entries : All (λ e. region_good v.geometry e ≡ true) (entries v)
  good-entries = (sound-says v.geometry (entries v) o.regions-sound).each

  blocks-most : sum blocks_in v.items ≤ most
  blocks-most =
      omega (
        arith,
        blocks-entries v.items,
        count-few,
        sum-most blocks_of (entries v) (all-weaken (λ e. Settled e × (region_good v.geometry e ≡ true)) (λ e. blocks_of e ≤ 65_536) (λ e h. blocks-few e h.0 h.1) (entries v)
            (all-and Settled (λ e. region_good v.geometry e ≡ true) (entries v) (settled-entries s v o) good-entries)),
      )

  bytes_most : sum bytes_in v.items ≤ most
  bytes_most =
      omega (
        arith,
        bytes-entries v.items,
        count-few,
        sum-most (λ e. e.length) (entries v) (all-weaken (λ e. Bare e × (region_good v.geometry e ≡ true)) (λ e. e.length ≤ 65_536) (λ e h. bytes-few e h.0 h.1) (entries v)
            (all-and Bare (λ e. region_good v.geometry e ≡ true) (entries v) (bare-entries s v o) good-entries)),
      )

  kind-most : (k : ℕ) → All (λ n. n ≤ most) (sums_of_kind v.items k)
  unfolding sums_of_kind
  kind-most k =
      let p : Item → Bool = λ i. eqb (item_kind i) k in (
        omega (arith, slots-most, sum-only slots_in p v.items),
        (
          omega (arith, blocks-most, sum-only blocks_in p v.items),
          (omega (arith, bytes_most, sum-only bytes_in p v.items), tt),
        ),
      )

  sums-most : AtMost most (sums_of v.items)
  unfolding sums_of
  sums-most = (kind-most 0, (kind-most 1, (kind-most 2, (kind-most 3, (kind-most 4, (kind-most 5, tt))))))

-- a table with nothing in it
none-most : (m : ℕ) → AtMost m (sums_of [])
unfolding sums_of sums_of_kind only sum
none-most m =
    let z : 0 ≤ m = omega arith in
    let row : All (λ n. n ≤ m) (0 ∷ 0 ∷ 0 ∷ []) = (z, (z, (z, tt))) in
    (row, (row, (row, (row, (row, (row, tt))))))

pub image-most : (s : List ℕ) → AtMost most (image_sums s)
unfolding image_sums opened_sums
image-most s = by (judge_read s) refl
  where
    by : (r : Verdict Volume) → judge_read s ≡ r → AtMost most (opened_sums r)
    by (refused n) e = none-most most
    by (accepted v) e = let h = read-opens s v e in sums-most s v (judge-opens s v h.1) h.0

-- ---- many images
-- nothing adds nothing
none_right : (is : List Item) → both (both ◌+◌) (sums_of is) (sums_of []) ≡ sums_of is
unfolding sums_of sums_of_kind both only sum
none_right is = simp add-zero

source-none : (x : Source) → both (both ◌+◌) (source_sums x) (sums_of []) ≡ source_sums x
unfolding source_sums image_sums opened_sums
source-none unread = none_right []
source-none (image s) = by (judge_read s)
  where
    by : (r : Verdict Volume) → both (both ◌+◌) (opened_sums r) (sums_of []) ≡ opened_sums r
    by (refused n) = none_right []
    by (accepted v) = none_right v.items

source-adds : (x : Source) (r : Report) → added r.table (sums_of []) ≡ r.table → (with_source x r).table ≡ added r.table (source_sums x)
unfolding with_source with_image source_sums
source-adds unread r h = sym h
source-adds (image s) r h = refl

sums-from : (xs : List Source) (r : Report) → added r.table (sums_of []) ≡ r.table → (report_from r xs).table ≡ added r.table (totals xs)
unfolding report_from totals
sums-from [] r h = sym h
sums-from (x ∷ xs) r h =
    let step = source-adds x r h in
    sums-from xs (with_source x r) (rw step (table-thrice r.table (source_sums x) (sums_of []) ∙ ap (added r.table) (source-none x)))
    ∙ ap (λ (t : Table). added t (totals xs)) step ∙ table-thrice r.table (source_sums x) (totals xs)

none-added : added (sums_of []) (sums_of []) ≡ sums_of []
unfolding added both sums_of sums_of_kind only sum
none-added = refl

-- the table is the sum of theirs, 64 bits of each
pub table-sums : TableSums
unfolding no_report
table-sums xs = sums-from xs no_report none-added

-- ---- up to 1,000 of them
-- six kinds by three sums
abbrev pub Wide : List ℕ → Type 0
Wide row = length row ≡ 3

pub record Shaped (t : Table) : Type 0 where
  pub kinds : length t ≡ 6
  pub sums : All Wide t

pub both_long : {A : Type 0} (f : A → A → A) (n : ℕ) (xs ys : List A) → length xs ≡ n → length ys ≡ n → length (both f xs ys) ≡ n
unfolding both
both_long f n [] ys h k = h
both_long f n (x ∷ xs) [] h k = absurd (omega arith)
both_long f n (x ∷ xs) (y ∷ ys) h k = omega (arith, both_long f (length xs) xs ys refl (omega arith))

wide_both : (t u : Table) → All Wide t → All Wide u → All Wide (both (both ◌+◌) t u)
unfolding both
wide_both [] u h k = tt
wide_both (r ∷ t) [] h k = tt
wide_both (r ∷ t) (q ∷ u) h k = (both_long ◌+◌ 3 r q h.0 k.0, wide_both t u h.1 k.1)

pub sums-shaped : (is : List Item) → Shaped (sums_of is)
unfolding sums_of sums_of_kind
sums-shaped is = record { kinds = refl; sums = (refl, (refl, (refl, (refl, (refl, (refl, tt)))))) }

pub image-shaped : (s : List ℕ) → Shaped (image_sums s)
unfolding image_sums opened_sums
image-shaped s = by (judge_read s)
  where
    by : (r : Verdict Volume) → Shaped (opened_sums r)
    by (refused n) = sums-shaped []
    by (accepted v) = sums-shaped v.items

source-shaped : (x : Source) → Shaped (source_sums x)
unfolding source_sums
source-shaped unread = sums-shaped []
source-shaped (image s) = image-shaped s

totals-shaped : (xs : List Source) → Shaped (totals xs)
unfolding totals
totals-shaped [] = sums-shaped []
totals-shaped (x ∷ xs) =
    let p = source-shaped x in
    let q = totals-shaped xs in
    record { kinds = both_long (both ◌+◌) 6 (source_sums x) (totals xs) p.kinds q.kinds; sums = wide_both (source_sums x) (totals xs) p.sums q.sums }

row-most : (m n : ℕ) (r q : List ℕ) → All (λ a. a ≤ m) r → All (λ a. a ≤ n) q → All (λ a. a ≤ m + n) (both ◌+◌ r q)
unfolding both
row-most m n [] q h k = tt
row-most m n (a ∷ r) [] h k = tt
row-most m n (a ∷ r) (b ∷ q) h k = (omega (arith, h.0, k.0), row-most m n r q h.1 k.1)

both_most : (m n : ℕ) (t u : Table) → AtMost m t → AtMost n u → AtMost (m + n) (both (both ◌+◌) t u)
unfolding both
both_most m n [] u h k = tt
both_most m n (r ∷ t) [] h k = tt
both_most m n (r ∷ t) (q ∷ u) h k = (row-most m n r q h.0 k.0, both_most m n t u h.1 k.1)

source-most : (x : Source) → AtMost most (source_sums x)
unfolding source_sums
source-most unread = none-most most
source-most (image s) = image-most s

pub totals-most : (xs : List Source) → AtMost (most * length xs) (totals xs)
unfolding totals
totals-most [] = none-most 0
totals-most (x ∷ xs) =
    let e : most * length (x ∷ xs) ≡ most + most * length xs = omega arith in
    rw e (both_most most (most * length xs) (source_sums x) (totals xs) (source-most x) (totals-most xs))

-- zeros on the left
left-same : {A : Type 0} (f : A → A → A) (z : A) (n : ℕ) (t : List A) → length t ≡ n → All (λ x. f z x ≡ x) t → both f (replicate n z) t ≡ t
unfolding both
left-same f z zero [] h a = refl
left-same f z zero (x ∷ t) h a = absurd (omega arith)
left-same f z (suc n) [] h a = absurd (omega arith)
left-same f z (suc n) (x ∷ t) h a = ap₂ (λ y u. y ∷ u) a.0 (left-same f z n t (omega arith) a.1)

none-zeros : sums_of [] ≡ replicate 6 (replicate 3 0)
unfolding sums_of sums_of_kind only sum
none-zeros = refl

added_none : (t : Table) → Shaped t → AtMost (2 ^ 64 - 1) t → added (sums_of []) t ≡ t
unfolding added
added_none t h m =
    rw none-zeros
    (left-same (both plus64) (replicate 3 0) 6 t h.kinds
    (all-weaken (λ r. Wide r × All (λ n. n ≤ 2 ^ 64 - 1) r) (λ r. both plus64 (replicate 3 0) r ≡ r)
    (λ r w. left-same plus64 0 3 r w.0 (all-weaken (λ n. n ≤ 2 ^ 64 - 1) (λ n. plus64 0 n ≡ n) (λ n l. ap (λ (k : ℕ). k % 2 ^ 64) (zero-add n) ∙ mod-eq_of_lt (omega arith)) r w.1))
    t (all-and Wide (λ r. All (λ n. n ≤ 2 ^ 64 - 1) r) t h.sums m)))

most-weaken : (m n : ℕ) (t : Table) → m ≤ n → AtMost m t → AtMost n t
most-weaken m n t h = all-weaken (λ r. All (λ a. a ≤ m) r) (λ r. All (λ a. a ≤ n) r) (λ r. all-weaken (λ a. a ≤ m) (λ a. a ≤ n) (λ a l. omega arith) r) t

pub no_wrap : NoWrap
no_wrap xs h = table-sums xs ∙ added_none (totals xs) (totals-shaped xs) (most-weaken (most * length xs) (2 ^ 64 - 1) (totals xs) (omega arith) (totals-most xs))
