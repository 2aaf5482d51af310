-- Laws that go by the magic that is found: what it depends on, that a super-block that was written is good, and that the order of the magics does not matter.
use Rattle.std.specs.Prelude.{ℕ, ◌+◌, ◌≤◌, ◌≡◌, refl, true, length}
use Rattle.std.proofs.Math.Path.{sym, ap}
use Rattle.std.proofs.Common.{subst, ◌∙◌}
use mathlib.Core.List.{List}
use Rattle.std.proofs.Math.Option.{some}
use native.Mathlib.Omega.{arith}
use Rattle.rules.specs.Lists.{part}
use Rattle.rules.specs.Editions.{Edition, edition10, edition110, super_block_at, version_read}
use Rattle.rules.specs.Editions.Laws.{super-bounds}
use Rattle.rules.specs.SuperBlock.{Geometry, geometry_of, length_good, magic_at, sealed_length, super_block_bytes, with_stamp, put_sizes}
use Rattle.rules.specs.SuperBlock.Laws.{GoodGeometry, FieldsFit, few-blocks, as_stored, length-least, good-fit, good-stored, SameSealed, sealed-part, geometry-same, written-geometry, length-put_sizes, put_sizes-after, put_sizes-geometry}
use Rattle.rules.specs.Refusals.{accepted, need, need_found, Volume, edition_of, judge_super, judge_geometry, judge, judge_as, AnyOrder}
use Rattle.rules.specs.Writing.{formatted}
use Rattle.rules.specs.Refusals.Laws.{GoodSuper, checksum-same, version-same, magic-same, first-magic-same, edition-magic, magic-edition, two-editions, not_first, written-magic-good, written-version-good, written-checksum-good, written-first, length-formatted, formatted-super, alone-good, alone-few, one-magic, then-need, judge-opens, found_some}

pub edition-same : (ed : Edition) (s t : List ℕ) → part s (magic_at ed) sealed_length ≡ part t (magic_at ed) sealed_length → edition_of t ≡ some ed → edition_of s ≡ some ed
edition-same edition10 s t same e =
    let m = edition-magic t edition10 e in
    magic-edition s edition10 (magic-same edition10 s t same ∙ m.0) (λ q. two-editions q)
edition-same edition110 s t same e =
    let m = edition-magic t edition110 e in
    magic-edition s edition110 (magic-same edition110 s t same ∙ m.0) (λ q. first-magic-same s t same ∙ m.1 refl)

pub judge_geometry-same : (s t : List ℕ) (ed : Edition) → length s ≡ length t → part s (super_block_at ed) 42 ≡ part t (super_block_at ed) 42 → edition_of t ≡ some ed
    → judge_geometry s ≡ judge_geometry t
unfolding judge_geometry judge_super
judge_geometry-same s t ed l same f =
    let e = sealed-part ed s t same in
    let one : judge_super s ed ≡ judge_super t ed = rw (l, version-same ed s t e, checksum-same ed s t e, geometry-same ed s t same) in
    let both : need_found (edition_of s) 2 (judge_super s) ≡ need_found (edition_of t) 2 (judge_super t) =
    found_some 2 (judge_super s) (edition-same ed s t e f) ∙ one ∙ sym (found_some 2 (judge_super t) f) in
    rw (l, both)

-- ---- a super-block that was written is good
module _ (t : List ℕ) (g : Geometry) (here : part t (super_block_at g.edition) 42 ≡ super_block_bytes g) where
  pub written-edition : FieldsFit g → g.total ≤ 65_536 → edition_of t ≡ some g.edition
  written-edition fit few = magic-edition t g.edition (written-magic-good t g here) (λ e. written-first t g here e fit few)

  pub written-super : length t ≤ 16_777_216 → version_read g.edition g.version ≡ true → GoodGeometry (length t) g → GoodSuper t (as_stored g)
  unfolding as_stored with_stamp
  written-super high v good = record {
    length-low = omega (arith, length-least (length t) g good);
    length_high = high;
    edition-is = written-edition (good-fit (length t) g good high) (few-blocks (length t) g good high);
    version-good = written-version-good t g here v;
    checksum-good = written-checksum-good t g here;
    geometry-is = sym (written-geometry t g here (good-fit (length t) g good high));
    geometry-good = good-stored (length t) g good;
  }

-- and so is one whose sizes were written
pub sizes-super : (s : List ℕ) (g h : Geometry) → GoodSuper s h → SameSealed g h → GoodGeometry (length s) g → GoodSuper (put_sizes s g) (as_stored g)
unfolding as_stored with_stamp
sizes-super s g h o same good =
    let d = same.edition-same in
    let room : super_block_at g.edition + 42 ≤ length s = omega (arith, o.length-low, super-bounds g.edition) in
    let e = put_sizes-after s g room (magic_at g.edition) 18 (omega arith) in
    let l = length-put_sizes s g room in
    let fit = good-fit (length s) g good o.length_high in
    record {
      length-low = rw l o.length-low;
      length_high = rw l o.length_high;
      edition-is = edition-same g.edition (put_sizes s g) s e (o.edition-is ∙ ap some (sym d));
      version-good = version-same g.edition (put_sizes s g) s e ∙ rw d o.version-good;
      checksum-good = checksum-same g.edition (put_sizes s g) s e ∙ rw d o.checksum-good;
      geometry-is = sym (put_sizes-geometry s g room fit.data-fit fit.index-fit (subst (λ (x : Geometry). SameSealed g x) (o.geometry-is ∙ ap (λ (x : Edition). geometry_of x s) (sym d)) same));
      geometry-good = rw l (good-stored (length s) g good);
    }

-- a formatted image has the geometry that it was formatted to
pub format-super : (s : List ℕ) (g : Geometry) (name : List ℕ) → length s ≤ 16_777_216 → version_read g.edition g.version ≡ true → GoodGeometry (length s) g → length name ≤ 51
    → GoodSuper (formatted s g name) (as_stored g)
format-super s g name high v good short =
    let room = length-least (length s) g good in
    let l = length-formatted s g name room short in
    written-super (formatted s g name) g (formatted-super s g name room short) (omega arith) v (rw l good)

-- ---- so that the order in which the magics are sought does not matter
-- an image is judged as by the edition that is found
found-alone : (s : List ℕ) (ed : Edition) → edition_of s ≡ some ed → judge s ≡ judge_as ed s
unfolding judge judge_geometry judge_as need
found-alone s ed f =
    then-need (length_good (length s)) 1 (need_found (edition_of s) 2 (judge_super s)) _
    ∙ rw (found_some 2 (judge_super s) f, (edition-magic s ed f).0)

-- and the edition that opens it by itself is found
alone-found : (s : List ℕ) (v : Volume) (ed : Edition) → judge_as ed s ≡ accepted v → edition_of s ≡ some ed
alone-found s v edition10 a = magic-edition s edition10 (alone-good s v edition10 a).1 (λ e. two-editions e)
alone-found s v edition110 a = magic-edition s edition110 (alone-good s v edition110 a).1 (λ e. not_first s (alone-few s v a))

pub any_order : AnyOrder
any_order s v = (
  λ a. sym (found-alone s v.geometry.edition (judge-opens s v a).edition-is) ∙ a,
  λ ed a. found-alone s ed (alone-found s v ed a) ∙ a,
  one-magic s v,
)
