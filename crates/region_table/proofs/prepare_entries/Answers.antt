use Prim.Native.Nat.{◌≤◌}
use mathlib.Core.Path.{◌≡◌}
use mathlib.Core.Bool.{true}
use native.Mathlib.Omega.{arith}
use lib.ListN.{length, drop}
use Rattle.std.specs.Prelude.{Some, None}
use Rattle.std.proofs.lemmas.Result.{err_from_is_err_and}
use Rattle.rules.specs.Lists.{all}
use Rattle.rules.specs.Regions.{region_good}
use Rattle.refusals.specs.declared.Refusal.TheVariants.{Regions}
use Rattle.geometry.specs.View.{geometry_view}
use Rattle.index.specs.Steps.{entries_from}
use Rattle.regions.specs.Gathering.{region_keys, gathers-bad, gathers-from}
use Rattle.region_table.specs.Answers.{entries-bad, entries-short, entries-fit}
use Rattle.region_table.proofs.prepare_entries.Goals as goal
use Rattle.region_table.proofs.prepare_entries.Goals.{In_ok-i}

-- the keys of the regions
held : (c : In_ok-i) → let a = c.args in let i = c.in_ok-i.i in let k = c.gather.new.keys in
    (all (region_good (geometry_view a.g)) (entries_from a.img.now a.from) ≡ true) × (i ≤ length k) × (drop i k ≡ region_keys (entries_from a.img.now a.from))
held c =
    let found : c.gather.result ≡ Some c.in_ok-i.i = grind arith in
    gathers-from _ _ _ _ _ c.gather.ensures _ found

pub overflow_sub-n : goal.overflow_sub-n
overflow_sub-n c = (held c).1

pub returns-in_err-i : goal.returns-in_err-i
returns-in_err-i c =
    let gone : c.gather.result ≡ None = grind arith in
    let told : c.in_err-i.field-0.0 ≡ Regions = grind arith in
    let e = err_from_is_err_and c.from_residual.result c.from_residual.ensures.1 in
    let p = c.requires in
    rw (e.1, e.2, told) (entries-bad _ _ _ _ p.0 _ _ p.1 (gathers-bad _ _ _ _ _ c.gather.ensures gone))

pub returns-then-places-n : goal.returns-then-places-n
returns-then-places-n c =
    let p = c.requires in
    entries-short _ _ _ _ p.0 _ _ p.1 _ (held (goal.at.returns-then-places-n c).In_ok-i) c.if-places-n.true

pub returns : goal.returns
returns c =
    let p = c.requires in
    entries-fit _ _ _ _ p.0 _ _ p.1 _ (held (goal.at.returns c).In_ok-i) c.if-places-n.false
