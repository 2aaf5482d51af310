use Prim.Native.Nat.{ℕ, ◌^◌, ◌≤◌}
use mathlib.Core.Path.{◌≡◌, sym, ap, ◌∙◌}
use mathlib.Core.Bool.{Bool, true}
use mathlib.Core.Option.{some}
use native.Mathlib.Omega.{arith}
use lib.ListN.{length}
use Rattle.std.proofs.lemmas.Grind.{common_steps}
use Rattle.std.specs.Prelude.{Some, None, is_some}
use Rattle.std.proofs.lemmas.Result.{err_from_is_err_and}
use Rattle.refusals.specs.declared.Refusal.TheVariants.{Geometry as BadGeometry}
use Rattle.rules.specs.Fields.{signed_of}
use Rattle.rules.specs.Editions.{version_named, edition_named}
use Rattle.rules.specs.SuperBlock.{Geometry, length_good, field_of, geometry_good}
use Rattle.rules.specs.SuperBlock.Laws.{field_is, geometry-good, length-least}
use Rattle.rules.specs.Names.{volume_name_good}
use Rattle.rules.specs.Outcome.{done}
use Rattle.rules.specs.Refusals.Laws.{length-bounds, volume-name}
use Rattle.rules.specs.Writing.{fresh_geometry, formatted}
use Rattle.contracts.specs.Promises.{written_as}
use Rattle.rules.specs.Writing.Laws.{format-length, format-version, format-block, format-geometry, format-name, format-done}
use Rattle.editions.specs.View.{edition_view}
use Rattle.geometry.specs.View.{geometry_view}
use Rattle.blocks.specs.View.{field_view}
use Rattle.formatting.specs.Fresh.{reserved-wide}
use Rattle.formatting.proofs.format.Goals as goal
use Rattle.formatting.proofs.format.Goals.{After-fresh-g, After-is_good, Else-not-is_good, Else-not-length_good, Else-not-volume_name_good, In_ok-ed, In_ok-field, In_ok-reserved, Start}

pub returns-then-not-length_good : goal.returns-then-not-length_good
returns-then-not-length_good c = sym (format-length _ _ _ _ _ _ (sym c.length_good.ensures ∙ c.if-not-length_good.true))

-- what each test that was passed says
length-is : (c : Else-not-length_good) → length_good (length c.args.img.now) ≡ true
length-is c = sym c.length_good.ensures ∙ c.if-not-length_good.false

edition-found : (c : In_ok-ed) → c.named.result ≡ Some c.in_ok-ed.ed
edition-found c = grind arith

version-is : (c : In_ok-ed) → version_named c.args.version ≡ true
version-is c = sym c.named.ensures.found ∙ ap is_some (edition-found c)

edition-is : (c : In_ok-ed) → edition_view c.in_ok-ed.ed ≡ edition_named c.args.version
edition-is c = rw (edition-found c) at c.named.ensures.edition

field-some : (c : In_ok-field) → field_of c.args.bytes ≡ some c.in_ok-field.field
field-some c =
    let found : c.block_field.result ≡ Some c.in_ok-field.field = grind arith in
    sym c.block_field.ensures ∙ ap field_view found

reserved-is : (c : In_ok-reserved) → c.in_ok-reserved.reserved ≡ c.args.reserved
reserved-is c = grind (arith, common_steps)

-- the fresh geometry with the block size field b
abbrev fresh_of : Start → ℕ → Geometry
fresh_of x b = fresh_geometry (edition_named x.args.version) (length x.args.img.now) b x.args.reserved (signed_of x.args.stamp)

made : (c : After-fresh-g) → geometry_view c.fresh-g.result ≡ fresh_of (goal.at.After-fresh-g c).Start c.in_ok-field.field
made c = rw (← edition-is (goal.at.After-fresh-g c).In_ok-ed, ← reserved-is (goal.at.After-fresh-g c).In_ok-reserved) c.fresh-g.ensures

abbrev fresh_good : Start → ℕ → Bool
fresh_good x b = geometry_good (length x.args.img.now) (fresh_of x b)

tested : (c : After-is_good) → fresh_good (goal.at.After-is_good c).Start c.in_ok-field.field ≡ c.is_good.result
tested c = ap (geometry_good _) (sym (made (goal.at.After-is_good c).After-fresh-g)) ∙ sym c.is_good.ensures

good : (c : Else-not-is_good) → fresh_good (goal.at.Else-not-is_good c).Start c.in_ok-field.field ≡ true
good c = tested (goal.at.Else-not-is_good c).After-is_good ∙ c.if-not-is_good.false

volume-named : (c : Else-not-volume_name_good) → volume_name_good c.args.name.now ≡ true
volume-named c = sym c.volume_name_good.ensures ∙ c.if-not-volume_name_good.false

pub returns-in_err-ed : goal.returns-in_err-ed
returns-in_err-ed c =
    let gone : c.named.result ≡ None = grind arith in
    let told : c.in_err-ed.field-0.0 ≡ BadGeometry = grind arith in
    let p = err_from_is_err_and c.from_residual.result c.from_residual.ensures.1 in
    rw (p.1, p.2, told)
    (sym (format-version _ _ _ _ _ _ (length-is (goal.at.returns-in_err-ed c).Else-not-length_good) (sym c.named.ensures.found ∙ ap is_some gone)))

pub returns-in_err-field : goal.returns-in_err-field
returns-in_err-field c =
    let gone : c.block_field.result ≡ None = grind arith in
    let told : c.in_err-field.field-0.0 ≡ BadGeometry = grind arith in
    let p = err_from_is_err_and c.from_residual-in_err-field.result c.from_residual-in_err-field.ensures.1 in
    rw (p.1, p.2, told)
    (sym (format-block _ _ _ _ _ _ (length-is (goal.at.returns-in_err-field c).Else-not-length_good) (version-is (goal.at.returns-in_err-field c).In_ok-ed) (sym c.block_field.ensures ∙ ap field_view gone)))

pub returns-in_err-reserved : goal.returns-in_err-reserved
returns-in_err-reserved c =
    let wide : 2 ^ 32 ≤ c.args.reserved = grind (arith, common_steps) in
    let told : c.in_err-reserved.field-0.0 ≡ BadGeometry = grind (arith, common_steps) in
    let l = length-is (goal.at.returns-in_err-reserved c).Else-not-length_good in
    let p = err_from_is_err_and c.from_residual-in_err-reserved.result c.from_residual-in_err-reserved.ensures.1 in
    rw (p.1, p.2, told)
    (sym (format-geometry _ _ _ _ _ _ l (version-is (goal.at.returns-in_err-reserved c).In_ok-ed) _ (field-some (goal.at.returns-in_err-reserved c).In_ok-field) (reserved-wide _ _ _ _ _ (length-bounds _ l).1 wide)))

pub fresh-g-requires : goal.fresh-g-requires
fresh-g-requires c = (field_is _ _ (field-some (goal.at.fresh-g-requires c).In_ok-field)).1

pub returns-then-not-is_good : goal.returns-then-not-is_good
returns-then-not-is_good c =
    sym (format-geometry _ _ _ _ _ _ (length-is (goal.at.returns-then-not-is_good c).Else-not-length_good) (version-is (goal.at.returns-then-not-is_good c).In_ok-ed) _ (field-some (goal.at.returns-then-not-is_good c).In_ok-field) (tested (goal.at.returns-then-not-is_good c).After-is_good ∙ c.if-not-is_good.true))

pub returns-then-not-volume_name_good : goal.returns-then-not-volume_name_good
returns-then-not-volume_name_good c =
    sym (format-name _ _ _ _ _ _ (length-is (goal.at.returns-then-not-volume_name_good c).Else-not-length_good) (version-is (goal.at.returns-then-not-volume_name_good c).In_ok-ed) _ (field-some (goal.at.returns-then-not-volume_name_good c).In_ok-field) (good (goal.at.returns-then-not-volume_name_good c).Else-not-is_good) (sym c.volume_name_good.ensures ∙ c.if-not-volume_name_good.true))

pub write_volume-requires : goal.write_volume-requires
write_volume-requires c =
    (length-least _ _ (geometry-good _ _ (good (goal.at.write_volume-requires c).Else-not-is_good)), volume-name _ (volume-named (goal.at.write_volume-requires c).Else-not-volume_name_good))

pub returns : goal.returns
unfolding done
returns c =
    let a = c.args in
    ap (written_as 0) (c.write_volume.ensures ∙ ap (λ (g : Geometry). formatted a.img.now g a.name.now) (made (goal.at.returns c).After-fresh-g))
    ∙ sym (format-done _ _ _ _ _ _ (length-is (goal.at.returns c).Else-not-length_good) (version-is (goal.at.returns c).In_ok-ed) _ (field-some (goal.at.returns c).In_ok-field) (good (goal.at.returns c).Else-not-is_good) (volume-named (goal.at.returns c).Else-not-volume_name_good))
