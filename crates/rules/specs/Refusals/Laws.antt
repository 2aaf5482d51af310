-- Laws of refusals: the chain of tests by cases, and what an image that opens says.
use Rattle.std.specs.Prelude.{ℕ, ◌+◌, ◌-◌, ◌*◌, ◌≤◌, ◌<◌, ◌≡◌, refl, Bool, true, false, get_or, length, leb, ℤ}
use Rattle.std.proofs.Math.Path.{sym, ap}
use Rattle.std.proofs.Common.{subst, ◌∙◌, le-leb, leb-true}
use mathlib.Core.List.{List, ◌∷◌, ◌++◌, append_assoc}
use Rattle.std.proofs.Math.Option.{Option, none, some}
use native.Mathlib.Omega.{arith}
use Rattle.std.proofs.Math.ListN.{length-append}
use Rattle.std.proofs.lemmas.Bool.{lt-leb}
use Rattle.rules.specs.Lists.{part, eq_list, padded}
use Rattle.rules.specs.Lists.Laws.{pick_true, pick-false, and-true, eq_list-refl, eq_list-true, part-part, length-padded, padded-behind}
use Rattle.rules.specs.Fields.{byte_at, le, splice, stamp_bytes}
use Rattle.rules.specs.Fields.Laws.{byte_le, le-part, length-le_bytes, length-splice, part-splice-in}
use Rattle.rules.specs.Editions.{Edition, edition10, edition110, by_edition, version_of, super_block_at, version_read, sum_of}
use Rattle.rules.specs.Editions.Laws.{super-bounds, length-sum, sum-short}
use Rattle.rules.specs.SuperBlock.{Geometry, geometry_of, geometry_good, length_good, block_bytes, block_length, magic_at, total_at, sealed_length, magic, super_block_bytes}
use Rattle.rules.specs.SuperBlock.Laws.{GoodGeometry, FieldsFit, few-blocks, le-here, written-total, geometry-good, good-geometry, length-super, super-frame, sealed-same, sealed-checks, written-version, written-magic, written-sealed}
use Rattle.rules.specs.Names.{volume_text_good, volume_name_good}
use Rattle.rules.specs.Index.{Item, items_of, entries_of, index_sound, type_marker, type_identifier, slot_bytes, marker_bytes, identifier_bytes}
use Rattle.rules.specs.Index.Laws.{length-bare}
use Rattle.rules.specs.Regions.{regions_sound}
use Rattle.rules.specs.Paths.{paths_sound}
use Rattle.rules.specs.Refusals.{Verdict, refused, accepted, need, need_found, and_then, Volume, entries, magic_good, edition_of, version_good, checksum_good, judge_super, judge_geometry, judge_index, judge, judge_read, judge_as, OneEdition}
use Rattle.rules.specs.Writing.{fresh_geometry, formatted}

-- ---- a chain of tests
-- a refusal accepts nothing, and one thing is accepted
pub not-accepted : {A : Type 0} {X : Type 0} {n : ℕ} {x : A} → refused n ≡ accepted x → X
not-accepted e = let z : ◌≡◌ {A = ℕ} 0 1 = cc in absurd (omega arith)

pub accepted-is : {A : Type 0} {x y : A} → accepted x ≡ accepted y → x ≡ y
accepted-is e = cc

pub need-true : {A : Type 0} {b : Bool} (n : ℕ) (v : Verdict A) → b ≡ true → need b n v ≡ v
unfolding need
need-true n v e = rw e

pub need-false : {A : Type 0} {b : Bool} (n : ℕ) (v : Verdict A) → b ≡ false → need b n v ≡ refused n
unfolding need
need-false n v e = rw e

pub need-accepted : {A : Type 0} {x : A} (b : Bool) (n : ℕ) (v : Verdict A) → need b n v ≡ accepted x → (b ≡ true) × (v ≡ accepted x)
unfolding need
need-accepted true n v e = (refl, e)
need-accepted false n v e = not-accepted e

pub found_none : {A B : Type 0} {o : Option B} (n : ℕ) (next : B → Verdict A) → o ≡ none → need_found o n next ≡ refused n
unfolding need_found
found_none n next e = rw e

pub found_some : {A B : Type 0} {o : Option B} {y : B} (n : ℕ) (next : B → Verdict A) → o ≡ some y → need_found o n next ≡ next y
unfolding need_found
found_some n next e = rw e

-- ---- as the programs judge
module _ (s : List ℕ) where
  pub read-long : 65_536 < length s → judge_read s ≡ refused 1
  unfolding judge_read
  read-long h = need-false 1 (judge s) (lt-leb (length s) 65_536 h)

  pub read_short : length s ≤ 65_536 → judge_read s ≡ judge s
  unfolding judge_read
  read_short h = need-true 1 (judge s) (le-leb (length s) 65_536 h)

  pub read-opens : (v : Volume) → judge_read s ≡ accepted v → (length s ≤ 65_536) × (judge s ≡ accepted v)
  unfolding judge_read
  read-opens v e = let h = need-accepted (leb (length s) 65_536) 1 (judge s) e in (leb-true (length s) 65_536 h.0, h.1)

pub then-refused : {A B : Type 0} {v : Verdict A} {n : ℕ} (next : A → Verdict B) → v ≡ refused n → and_then v next ≡ refused n
unfolding and_then
then-refused next e = rw e

pub then_next : {A B : Type 0} {v : Verdict A} {y : A} (next : A → Verdict B) → v ≡ accepted y → and_then v next ≡ next y
unfolding and_then
then_next next e = rw e

pub then-accepted : {A B : Type 0} {x : B} (v : Verdict A) (next : A → Verdict B)
    → and_then v next ≡ accepted x → (y : A) × (v ≡ accepted y) × (next y ≡ accepted x)
unfolding and_then
then-accepted (refused n) next e = not-accepted e
then-accepted (accepted y) next e = (y, refl, e)

-- ---- the eight tests, each where the earlier ones passed
module _ (s : List ℕ) where
  pub super-bad-length : length_good (length s) ≡ false → judge_geometry s ≡ refused 1
  unfolding judge_geometry
  super-bad-length e = need-false _ _ e

  module _ (a : length_good (length s) ≡ true) where
    pub super-bad-magic : edition_of s ≡ none → judge_geometry s ≡ refused 2
    unfolding judge_geometry
    super-bad-magic e = need-true _ _ a ∙ found_none _ _ e

    module _ (ed : Edition) (b : edition_of s ≡ some ed) where
      -- the rest is judged by the edition
      pub super-of : judge_geometry s ≡ judge_super s ed
      unfolding judge_geometry
      super-of = need-true _ _ a ∙ found_some _ _ b

      pub super-good : version_good ed s ≡ true → checksum_good ed s ≡ true → geometry_good (length s) (geometry_of ed s) ≡ true → judge_geometry s ≡ accepted (geometry_of ed s)
      unfolding judge_super
      super-good c d e = super-of ∙ need-true _ _ c ∙ need-true _ _ d ∙ need-true _ _ e

module _ (s : List ℕ) (g : Geometry) (is : List Item) where
  pub index-bad-slots : index_sound s g is ≡ false → judge_index s g is ≡ refused 6
  unfolding judge_index
  index-bad-slots e = need-false _ _ e

  module _ (a : index_sound s g is ≡ true) where
    pub index-bad-regions : regions_sound g (entries_of is) ≡ false → judge_index s g is ≡ refused 7
    unfolding judge_index
    index-bad-regions e = need-true _ _ a ∙ need-false _ _ e

    module _ (b : regions_sound g (entries_of is) ≡ true) where
      pub index-bad-paths : paths_sound (entries_of is) ≡ false → judge_index s g is ≡ refused 8
      unfolding judge_index
      index-bad-paths e = need-true _ _ a ∙ need-true _ _ b ∙ need-false _ _ e

      pub index-good : paths_sound (entries_of is) ≡ true → judge_index s g is ≡ accepted (record { geometry = g; items = is })
      unfolding judge_index
      index-good e = need-true _ _ a ∙ need-true _ _ b ∙ need-true _ _ e

-- the whole judgement: 1 to 5 refuse at once, then the index is judged
pub judge-refused : (s : List ℕ) {n : ℕ} → judge_geometry s ≡ refused n → judge s ≡ refused n
unfolding judge
judge-refused s e = then-refused _ e

pub judge-index : (s : List ℕ) {g : Geometry} → judge_geometry s ≡ accepted g → judge s ≡ judge_index s g (items_of s g)
unfolding judge
judge-index s e = then_next _ e

-- ---- an image whose super-block is good
pub record GoodSuper (s : List ℕ) (g : Geometry) : Type 0 where
  pub length-low : 512 ≤ length s
  pub length_high : length s ≤ 16_777_216
  pub edition-is : edition_of s ≡ some g.edition
  pub version-good : version_good g.edition s ≡ true
  pub checksum-good : checksum_good g.edition s ≡ true
  pub geometry-is : g ≡ geometry_of g.edition s
  pub geometry-good : GoodGeometry (length s) g

pub length-bounds : (n : ℕ) → length_good n ≡ true → (512 ≤ n) × (n ≤ 16_777_216)
unfolding length_good
length-bounds n e = let p = and-true (leb 512 n) (leb n 16_777_216) e in (leb-true _ _ p.0, leb-true _ _ p.1)

pub bounds-length : (n : ℕ) → 512 ≤ n → n ≤ 16_777_216 → length_good n ≡ true
unfolding length_good
bounds-length n a b = rw (le-leb 512 n a, le-leb n 16_777_216 b)

pub needed-found : {A B : Type 0} {x : A} (o : Option B) (n : ℕ) (next : B → Verdict A) → need_found o n next ≡ accepted x → (y : B) × (o ≡ some y) × (next y ≡ accepted x)
unfolding need_found
needed-found none n next e = not-accepted e
needed-found (some y) n next e = (y, refl, e)

pub edition-read : (ed : Edition) (s : List ℕ) → (geometry_of ed s).edition ≡ ed
unfolding geometry_of
edition-read ed s = refl

pub judge-super : (s : List ℕ) (g : Geometry) → judge_geometry s ≡ accepted g → GoodSuper s g
unfolding judge_geometry judge_super
judge-super s g e =
    let p₁ = need-accepted _ _ _ e in
    let (ed, f, r) = needed-found _ _ _ p₁.1 in
    let p₃ = need-accepted _ _ _ r in
    let p₄ = need-accepted _ _ _ p₃.1 in
    let p₅ = need-accepted _ _ _ p₄.1 in
    let l = length-bounds (length s) p₁.0 in
    let i : g ≡ geometry_of ed s = sym (accepted-is p₅.1) in
    let d : g.edition ≡ ed = ap (λ (x : Geometry). x.edition) i ∙ edition-read ed s in
    record {
      length-low = l.0;
      length_high = l.1;
      edition-is = f ∙ ap some (sym d);
      version-good = ap (λ (x : Edition). version_good x s) d ∙ p₃.0;
      checksum-good = ap (λ (x : Edition). checksum_good x s) d ∙ p₄.0;
      geometry-is = i ∙ ap (λ (x : Edition). geometry_of x s) (sym d);
      geometry-good = rw i (geometry-good (length s) (geometry_of ed s) p₅.0);
    }

pub super-judge : (s : List ℕ) (g : Geometry) → GoodSuper s g → judge_geometry s ≡ accepted g
super-judge s g o =
    let e = o.geometry-is in
    let h : geometry_good (length s) (geometry_of g.edition s) ≡ true = ap (geometry_good (length s)) (sym e) ∙ good-geometry (length s) g o.geometry-good in
    super-good s (bounds-length (length s) o.length-low o.length_high) g.edition o.edition-is o.version-good o.checksum-good h
    ∙ ap accepted (sym e)

-- ---- an image that opens
pub record Opens (s : List ℕ) (v : Volume) : Type 0 where
  pub length-low : 512 ≤ length s
  pub length_high : length s ≤ 16_777_216
  pub edition-is : edition_of s ≡ some v.geometry.edition
  pub version-good : version_good v.geometry.edition s ≡ true
  pub checksum-good : checksum_good v.geometry.edition s ≡ true
  pub geometry-is : v.geometry ≡ geometry_of v.geometry.edition s
  pub geometry-good : GoodGeometry (length s) v.geometry
  pub items-are : v.items ≡ items_of s v.geometry
  pub index-sound : index_sound s v.geometry v.items ≡ true
  pub regions-sound : regions_sound v.geometry (entries v) ≡ true
  pub paths-sound : paths_sound (entries v) ≡ true

pub opens-super : (s : List ℕ) (v : Volume) → Opens s v → GoodSuper s v.geometry
opens-super s v o = record {
  length-low = o.length-low;
  length_high = o.length_high;
  edition-is = o.edition-is;
  version-good = o.version-good;
  checksum-good = o.checksum-good;
  geometry-is = o.geometry-is;
  geometry-good = o.geometry-good;
}

pub super-opens : (s : List ℕ) (v : Volume) → GoodSuper s v.geometry → v.items ≡ items_of s v.geometry
    → index_sound s v.geometry v.items ≡ true → regions_sound v.geometry (entries v) ≡ true → paths_sound (entries v) ≡ true → Opens s v
super-opens s v o i a b c = record {
  length-low = o.length-low;
  length_high = o.length_high;
  edition-is = o.edition-is;
  version-good = o.version-good;
  checksum-good = o.checksum-good;
  geometry-is = o.geometry-is;
  geometry-good = o.geometry-good;
  items-are = i;
  index-sound = a;
  regions-sound = b;
  paths-sound = c;
}

pub index-accepted : (s : List ℕ) (g : Geometry) (is : List Item) (v : Volume) → judge_index s g is ≡ accepted v
    → (v ≡ record { geometry = g; items = is }) × (index_sound s g is ≡ true) × (regions_sound g (entries_of is) ≡ true) × (paths_sound (entries_of is) ≡ true)
unfolding judge_index
index-accepted s g is v e =
    let p₁ = need-accepted _ _ _ e in
    let p₂ = need-accepted _ _ _ p₁.1 in
    let p₃ = need-accepted _ _ _ p₂.1 in
    (sym (accepted-is p₃.1), p₁.0, p₂.0, p₃.0)

pub judge-opens : (s : List ℕ) (v : Volume) → judge s ≡ accepted v → Opens s v
unfolding judge
judge-opens s v e =
    let (g, eg, ei) = then-accepted (judge_geometry s) (λ h. judge_index s h (items_of s h)) e in
    let (ev, a, b, c) = index-accepted s g (items_of s g) v ei in
    rw ev (super-opens s (record { geometry = g; items = items_of s g }) (judge-super s g eg) refl a b c)

pub opens-judge : (s : List ℕ) (v : Volume) → Opens s v → judge s ≡ accepted v
opens-judge s v o =
    let e : judge s ≡ judge_index s v.geometry (items_of s v.geometry) = judge-index s (super-judge s v.geometry (opens-super s v o)) in
    e ∙ rw (← o.items-are) (index-good s v.geometry v.items o.index-sound o.regions-sound o.paths-sound)

-- ---- what these tests depend on: the bytes that the checksum seals, and with the sizes the whole super-block
pub two-editions : {X : Type 0} → edition10 ≡ edition110 → X
two-editions e = let z : ◌≡◌ {A = ℕ} 0 1 = cc in absurd (omega arith)

found-is : {x y : Edition} → some x ≡ some y → x ≡ y
found-is f = cc

not_found : {X : Type 0} {y : Edition} → none ≡ some y → X
not_found f = let z : ◌≡◌ {A = ℕ} 0 1 = cc in absurd (omega arith)

-- a magic that is found is at its edition's place, and 1.0's comes first
pub edition-magic : (s : List ℕ) (ed : Edition) → edition_of s ≡ some ed → (magic_good ed s ≡ true) × (ed ≡ edition110 → magic_good edition10 s ≡ false)
unfolding edition_of
edition-magic s ed e = by (magic_good edition10 s) refl (magic_good edition110 s) refl
  where
    by : (a : Bool) → magic_good edition10 s ≡ a → (b : Bool) → magic_good edition110 s ≡ b → (magic_good ed s ≡ true) × (ed ≡ edition110 → magic_good edition10 s ≡ false)
    by true m b n =
        let f : edition10 ≡ ed = found-is (sym (pick_true _ _ m) ∙ e) in
        (subst (λ (x : Edition). magic_good x s ≡ true) f m, λ q. two-editions (f ∙ q))
    by false m true n =
        let f : edition110 ≡ ed = found-is (sym (pick-false _ _ m ∙ pick_true _ _ n) ∙ e) in
        (subst (λ (x : Edition). magic_good x s ≡ true) f n, λ q. m)
    by false m false n = not_found (sym (pick-false _ _ m ∙ pick-false _ _ n) ∙ e)

pub magic-edition : (s : List ℕ) (ed : Edition) → magic_good ed s ≡ true → (ed ≡ edition110 → magic_good edition10 s ≡ false) → edition_of s ≡ some ed
unfolding edition_of
magic-edition s edition10 m f = pick_true _ _ m
magic-edition s edition110 m f = pick-false _ _ (f refl) ∙ pick_true _ _ m

module _ (ed : Edition) (s t : List ℕ) (same : part s (magic_at ed) sealed_length ≡ part t (magic_at ed) sealed_length) where
  pub magic-same : magic_good ed s ≡ magic_good ed t
  unfolding magic_good
  magic-same =
      let here : (x : List ℕ) → part (part x (magic_at ed) 18) 0 3 ≡ part x (magic_at ed) 3 = λ x. part-part x (magic_at ed) 18 0 3 (omega arith) ∙ place x in
      ap (λ (p : List ℕ). eq_list p magic) (sym (here s) ∙ ap (λ (p : List ℕ). part p 0 3) same ∙ here t)
    where
      place : (x : List ℕ) → part x (magic_at ed + 0) 3 ≡ part x (magic_at ed) 3
      place x = let e : magic_at ed + 0 ≡ magic_at ed = omega arith in ap (λ (n : ℕ). part x n 3) e

  pub version-same : version_good ed s ≡ version_good ed t
  unfolding version_good geometry_of
  version-same = rw (sealed-same ed s t same).version-same

  pub checksum-same : checksum_good ed s ≡ checksum_good ed t
  unfolding checksum_good
  checksum-same = rw same

-- 1.0's magic would lie among the bytes that 1.10's checksum seals
pub first-magic-same : (s t : List ℕ) → part s (magic_at edition110) sealed_length ≡ part t (magic_at edition110) sealed_length → magic_good edition10 s ≡ magic_good edition10 t
unfolding magic_good super_block_at by_edition
first-magic-same s t same =
    ap (λ (p : List ℕ). eq_list p magic)
    (sym (part-part s 0x1A6 18 6 3 (omega arith)) ∙ ap (λ (p : List ℕ). part p 6 3) same ∙ part-part t 0x1A6 18 6 3 (omega arith))

-- the bytes of a magic
magic-byte : (ed : Edition) (s : List ℕ) → magic_good ed s ≡ true → byte_at s (magic_at ed) ≡ 0x53
unfolding magic_good le
magic-byte ed s m =
    let e : part s (magic_at ed) 3 ≡ magic = eq_list-true (part s (magic_at ed) 3) magic m in
    byte_le s (magic_at ed) ∙ le-here 1 s (magic_at ed) ∙ sym (le-part 1 s (magic_at ed) 3 0 (omega arith)) ∙ ap (λ (p : List ℕ). le 1 p 0) e

-- a number of eight bytes whose third is 0x53
third-byte : (s : List ℕ) (at : ℕ) → byte_at s (at + 2) ≡ 0x53 → 0x53 * 65_536 ≤ le 8 s at
unfolding le byte_at
third-byte s at e =
    let p : at + 1 + 1 ≡ at + 2 = omega arith in
    let q : get_or s (at + 1 + 1) 0 ≡ 0x53 = ap (λ (i : ℕ). get_or s i 0) p ∙ e in
    omega (arith, q)

-- 1.0's magic lies in 1.10's total
total-large : (s : List ℕ) → magic_good edition10 s ≡ true → 0x53 * 65_536 ≤ le 8 s (total_at edition110)
unfolding super_block_at by_edition
total-large s m = third-byte s 0x1AA (magic-byte edition10 s m)

pub not_first : (t : List ℕ) → le 8 t (total_at edition110) ≤ 65_536 → magic_good edition10 t ≡ false
not_first t few = by (magic_good edition10 t) refl
  where
    by : (b : Bool) → magic_good edition10 t ≡ b → magic_good edition10 t ≡ false
    by false e = e
    by true e = absurd (omega (arith, few, total-large t e))

-- ---- a super-block that was written is good
module _ (t : List ℕ) (g : Geometry) (here : part t (super_block_at g.edition) 42 ≡ super_block_bytes g) where
  pub written-magic-good : magic_good g.edition t ≡ true
  unfolding magic_good
  written-magic-good = rw (written-magic t g here) (eq_list-refl magic)

  pub written-version-good : version_read g.edition g.version ≡ true → version_good g.edition t ≡ true
  unfolding version_good
  written-version-good v = rw (written-version t g here) v

  pub written-checksum-good : checksum_good g.edition t ≡ true
  unfolding checksum_good
  written-checksum-good = rw (written-sealed t g here) (sealed-checks g)

  -- in 1.10 a total of so few blocks has no 0x53 where 1.0's magic begins
  pub written-first : g.edition ≡ edition110 → FieldsFit g → g.total ≤ 65_536 → magic_good edition10 t ≡ false
  written-first e fit few =
      let total : le 8 t (total_at edition110) ≡ g.total = subst (λ (x : Edition). le 8 t (total_at x) ≡ g.total) e (written-total t g here fit.total-fit) in
      not_first t (omega (arith, total, few))

-- ---- format
pub length-marker : (ed : Edition) → length (marker_bytes ed) ≡ 64
unfolding marker_bytes
length-marker ed = length-bare ed type_marker

-- the three bytes before the stamp
pub length-lead : (ed : Edition) (bs : List ℕ) → length (padded (sum_of ed bs) 3) ≡ 3
length-lead ed bs = length-padded (sum_of ed bs) 3 (omega (arith, length-sum ed bs, sum-short ed))

-- type, sum and stamp: what an identifier has before its name
unfoldable pub identifier_head : Edition → ℤ → List ℕ → List ℕ
identifier_head ed z name = (type_identifier ∷ padded (sum_of ed (type_identifier ∷ stamp_bytes z ++ name)) 3) ++ stamp_bytes z

pub length-identifier_head : (ed : Edition) (z : ℤ) (name : List ℕ) → length (identifier_head ed z name) ≡ 12
unfolding identifier_head stamp_bytes
length-identifier_head ed z name = simp (length-append, length-le_bytes, length-lead)

-- 12 bytes before the name
pub identifier-parts : (ed : Edition) (z : ℤ) (name : List ℕ) → identifier_bytes ed z name ≡ identifier_head ed z name ++ padded name 52
unfolding identifier_bytes identifier_head
identifier-parts ed z name =
    let lead : List ℕ = type_identifier ∷ padded (sum_of ed (type_identifier ∷ stamp_bytes z ++ name)) 3 in
    ap (λ (xs : List ℕ). padded xs slot_bytes) (sym (append_assoc lead (stamp_bytes z) name))
    ∙ (rw (length-identifier_head ed z name) at (padded-behind (lead ++ stamp_bytes z) name 52))

-- the identifier's name has 52 bytes
pub length-identifier : (ed : Edition) (z : ℤ) (name : List ℕ) → length name ≤ 52 → length (identifier_bytes ed z name) ≡ 64
length-identifier ed z name h =
    ap length (identifier-parts ed z name)
    ∙ length-append (identifier_head ed z name) (padded name 52)
    ∙ omega (arith, length-identifier_head ed z name, length-padded name 52 h)

pub volume-name : (name : List ℕ) → volume_name_good name ≡ true → length name ≤ 51
unfolding volume_name_good
volume-name name e = leb-true (length name) 51 (and-true (volume_text_good name) (leb (length name) 51) e).1

-- the super-block's place and the last 128 bytes are apart, as two blocks are not reserved
module _ (s : List ℕ) (g : Geometry) (name : List ℕ) (room : 1024 ≤ length s) (short : length name ≤ 51) where
  begun : List ℕ
  begun = splice s (super_block_at g.edition) (super_block_bytes g)

  super-room : (super_block_at g.edition) + length (super_block_bytes g) ≤ length s
  super-room = omega (arith, length-super g, super-bounds g.edition)

  length-begun : length begun ≡ length s
  unfolding begun
  length-begun = length-splice s (super_block_at g.edition) (super_block_bytes g) super-room

  ends : List ℕ
  ends = marker_bytes g.edition ++ identifier_bytes g.edition g.stamp name

  length-ends : length ends ≡ 128
  unfolding ends
  length-ends = omega (arith, length-append (marker_bytes g.edition) (identifier_bytes g.edition g.stamp name), length-marker g.edition, length-identifier g.edition g.stamp name (omega arith))

  ends-room : length s - 128 + length ends ≤ length begun
  ends-room = omega (arith, length-begun, length-ends)

  pub length-formatted : length (formatted s g name) ≡ length s
  unfolding formatted begun ends
  length-formatted = length-splice begun (length s - 128) ends ends-room ∙ length-begun

  pub formatted-super : part (formatted s g name) (super_block_at g.edition) 42 ≡ super_block_bytes g
  unfolding formatted begun ends
  formatted-super =
      super-frame g.edition begun (length s - 128) ends (omega (arith, super-bounds g.edition)) ends-room
      ∙ (rw length-super at (part-splice-in s (super_block_at g.edition) (super_block_bytes g) super-room))

  -- the last 128 bytes
  pub formatted-ends : part (formatted s g name) (length s - 128) 128 ≡ marker_bytes g.edition ++ identifier_bytes g.edition g.stamp name
  unfolding formatted begun ends
  formatted-ends = rw length-ends at (part-splice-in begun (length s - 128) ends ends-room)

pub fresh-edition : (ed : Edition) (n b reserved : ℕ) (z : ℤ) → (fresh_geometry ed n b reserved z).edition ≡ ed
unfolding fresh_geometry
fresh-edition ed n b reserved z = refl

pub fresh-version : (ed : Edition) (n b reserved : ℕ) (z : ℤ) → version_read (fresh_geometry ed n b reserved z).edition (fresh_geometry ed n b reserved z).version ≡ true
unfolding fresh_geometry version_read version_of by_edition
fresh-version edition10 n b reserved z = refl
fresh-version edition110 n b reserved z = refl

pub fresh-block : (ed : Edition) (n b reserved : ℕ) (z : ℤ) → block_length (fresh_geometry ed n b reserved z) ≡ block_bytes b
unfolding block_length fresh_geometry
fresh-block ed n b reserved z = refl

-- ---- an image that opens has one magic: 1.10's lies in 1.0's index size and 1.0's in 1.10's total, and makes it too large
index-large : (s : List ℕ) → magic_good edition110 s ≡ true → 0x53 * 65_536 ≤ (geometry_of edition10 s).index_bytes
unfolding geometry_of super_block_at by_edition
index-large s m = third-byte s 0x1A4 (magic-byte edition110 s m)

-- what an edition that opens an image by itself has found
pub alone-good : (s : List ℕ) (v : Volume) (ed : Edition) → judge_as ed s ≡ accepted v
    → (length s ≤ 16_777_216) × (magic_good ed s ≡ true) × GoodGeometry (length s) (geometry_of ed s)
unfolding judge_as judge_super
alone-good s v ed a =
    let l = need-accepted _ _ _ a in
    let m = need-accepted _ _ _ l.1 in
    let (g, r, x) = then-accepted (judge_super s ed) _ m.1 in
    let c = need-accepted _ _ _ (need-accepted _ _ _ (need-accepted _ _ _ r).1).1 in
    ((length-bounds (length s) l.0).1, m.0, geometry-good (length s) (geometry_of ed s) c.0)

pub alone-few : (s : List ℕ) (v : Volume) → judge_as edition110 s ≡ accepted v → le 8 s (total_at edition110) ≤ 65_536
unfolding geometry_of
alone-few s v a = let good = alone-good s v edition110 a in few-blocks (length s) (geometry_of edition110 s) good.2 good.0

pub one-magic : (s : List ℕ) (v : Volume) (ed other : Edition) → judge_as ed s ≡ accepted v → magic_good other s ≡ true → other ≡ ed
one-magic s v edition10 edition10 a m = refl
one-magic s v edition10 edition110 a m = absurd (omega (arith, index-large s m, (alone-good s v edition10 a).2.index-high))
one-magic s v edition110 edition10 a m = absurd (omega (arith, total-large s m, alone-few s v a))
one-magic s v edition110 edition110 a m = refl

pub one-edition : OneEdition
one-edition s v w a b = two-editions (sym (one-magic s v edition10 edition110 a (alone-good s w edition110 b).1))

pub then-need : {A B : Type 0} (b : Bool) (n : ℕ) (v : Verdict A) (next : A → Verdict B) → and_then (need b n v) next ≡ need b n (and_then v next)
unfolding need and_then
then-need true n v next = refl
then-need false n v next = refl
