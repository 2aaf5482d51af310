-- The tests of the super-block as a program makes them: byte by byte.
use Rattle.std.specs.Prelude.{ℕ, suc, ◌+◌, ◌-◌, ◌≤◌, ◌≡◌, refl, ◌&&◌, List, [], ◌∷◌, length, take, drop, eqb}
use Rattle.std.specs.List.{starts_with}
use Rattle.std.proofs.Math.Path.{ap}
use Rattle.std.proofs.Common.{◌∙◌, drop-cons}
use Rattle.std.proofs.lemmas.List.{take_rest}
use lib.Pointwise.{pointwise}
use native.Mathlib.Omega.{arith}
use Rattle.std.proofs.Math.ListN.{get_or}
use Rattle.rules.specs.Lists.{part, eq_list}
use Rattle.rules.specs.Lists.Laws.{eqb_swap, and_last}
use Rattle.rules.specs.Editions.{Edition, super_block_at}
use Rattle.rules.specs.Editions.Laws.{super-bounds}
use Rattle.rules.specs.Fields.{byte_at, le, stamp_in}
use Rattle.rules.specs.SuperBlock.{geometry_of, magic_at, version_at, total_at, reserved_at, block_field_at}
use Rattle.editions.specs.View.{edition_view}
use Rattle.geometry.specs.View.{geometry_view}
use Rattle.geometry.specs.declared.Geometry.{Geometry as Held}
use Rattle.rules.specs.Refusals.{magic_good}

-- a comparison of two lists as a program makes it
same-lists : (xs ys : List ℕ) → pointwise eqb ys xs ≡ eq_list xs ys
unfolding eq_list
same-lists [] [] = refl
same-lists [] (y ∷ ys) = refl
same-lists (x ∷ xs) [] = refl
same-lists (x ∷ xs) (y ∷ ys) = rw (eqb_swap y x, same-lists xs ys)

pub magic-starts : (ed : Edition) (s : List ℕ) (at : ℕ) → at ≡ super_block_at ed + 24
    → starts_with eqb (take (length s - at) (drop at s)) (0x53 ∷ 0x46 ∷ 0x53 ∷ []) ≡ magic_good ed s
unfolding magic_good part
magic-starts ed s at e =
    rw (take_rest s at, same-lists (take 3 (drop at s)) (0x53 ∷ 0x46 ∷ 0x53 ∷ []), e)

-- the same byte by byte
part-cons : (s : List ℕ) (at n : ℕ) → at + 1 ≤ length s → part s at (suc n) ≡ get_or s at 0 ∷ part s (suc at) n
unfolding part
part-cons s at n h = rw (drop-cons s at 0 (omega arith))

part-nil : (s : List ℕ) (at : ℕ) → part s at 0 ≡ []
unfolding part
part-nil s at = refl

pub magic-bytes : (ed : Edition) (s : List ℕ) → 512 ≤ length s
    → magic_good ed s ≡ (eqb (get_or s (magic_at ed) 0) 0x53 && (eqb (get_or s (super_block_at ed + 25) 0) 0x46 && eqb (get_or s (super_block_at ed + 26) 0) 0x53))
unfolding magic_good eq_list
magic-bytes ed s h =
    let m : ℕ = super_block_at ed in
    let next : (n : ℕ) → suc (m + n) ≡ m + suc n = λ n. omega arith in
    let e : part s (magic_at ed) 3 ≡ get_or s (m + 24) 0 ∷ get_or s (m + 25) 0 ∷ get_or s (m + 26) 0 ∷ [] =
    part-cons s (m + 24) 2 (omega (arith, super-bounds ed))
    ∙ rw (next 24, part-cons s (m + 25) 1 (omega (arith, super-bounds ed)), next 25, part-cons s (m + 26) 0 (omega (arith, super-bounds ed)), part-nil) in
    rw (e, and_last)

-- ---- fields, by their places behind the super-block's start
module _ (ed : Edition) (s : List ℕ) where
  le-there : (w a b : ℕ) → a ≡ b → le w s a ≡ le w s b
  le-there w a b e = ap (le w s) e

  pub version-read : get_or s (super_block_at ed + 27) 0 ≡ byte_at s (version_at ed)
  unfolding byte_at
  version-read = let e : super_block_at ed + 27 ≡ version_at ed = omega arith in ap (λ (i : ℕ). get_or s i 0) e

  field-read : get_or s (super_block_at ed + 40) 0 ≡ byte_at s (block_field_at ed)
  unfolding byte_at
  field-read = let e : super_block_at ed + 40 ≡ block_field_at ed = omega arith in ap (λ (i : ℕ). get_or s i 0) e

  pub geometry-by : (g : Held) → edition_view g.edition ≡ ed
      → g.stamp ≡ le 8 s (super_block_at ed + 0) → g.data_blocks ≡ le 8 s (super_block_at ed + 8) → g.index_bytes ≡ le 8 s (super_block_at ed + 16)
      → g.version ≡ get_or s (super_block_at ed + 27) 0 → g.total ≡ le 8 s (super_block_at ed + 28) → g.reserved ≡ le 4 s (super_block_at ed + 36)
      → g.block_field ≡ get_or s (super_block_at ed + 40) 0
      → geometry_view g ≡ geometry_of ed s
  unfolding geometry_of stamp_in
  geometry-by g of a b c d e f h =
      let z : super_block_at ed + 0 ≡ super_block_at ed = omega arith in
      let m : super_block_at ed + 28 ≡ total_at ed = omega arith in
      let n : super_block_at ed + 36 ≡ reserved_at ed = omega arith in
      rw (of, a ∙ le-there 8 _ _ z, b, c, d ∙ version-read, e ∙ le-there 8 _ _ m, f ∙ le-there 4 _ _ n, h ∙ field-read)
