use mathlib.Core.Path.{sym, ap, ap₂, ◌∙◌}
use mathlib.Core.List.{List}
use Rattle.std.proofs.lemmas.Result.{err_from_is_err_and}
use native.Mathlib.Omega.{arith}
use lib.ListN.{length}
use Rattle.rules.specs.Lists.{only}
use Rattle.rules.specs.Editions.{Edition}
use Rattle.rules.specs.Index.{Entry}
use Rattle.rules.specs.Paths.{live_from}
use Rattle.rules.specs.Records.{records_outcome}
use Rattle.editions.specs.View.{edition_view}
use Rattle.judging.specs.View.{Opened, refused_says, good-says, opened-super, opened-walks, opened-entries}
use Rattle.laws.proofs.Records.Packed.{packed, list-all-refused, list-all-opened}
use Rattle.records.proofs.list_all_from.Goals as goal
use Rattle.records.proofs.list_all_from.Goals.{In_ok-g}

opened : (c : In_ok-g) → Opened c.args.img.now c.in_ok-g.g
opened c = good-says _ _ c.judge.ensures _ c.in_ok-g.was

pub returns-in_err-g : goal.returns-in_err-g
returns-in_err-g c =
    let p = err_from_is_err_and c.from_residual.result c.from_residual.ensures.1 in
    rw (p.1, p.2) (sym (list-all-refused _ _ _ _ (refused_says _ _ c.judge.ensures _ c.in_err-g.was)))

pub first_slot-from-requires : goal.first_slot-from-requires
first_slot-from-requires c = (opened-super _ _ (opened (goal.at.first_slot-from-requires c).In_ok-g), omega arith)

pub put_records-put-requires : goal.put_records-put-requires
put_records-put-requires c =
    let e = c.first_slot-from.ensures in
    (opened-walks _ _ (opened (goal.at.put_records-put-requires c).In_ok-g) _ e.0 e.1, e.6)

pub returns : goal.returns
returns c =
    let a = c.args in
    let e = c.first_slot-from.ensures in
    let out = a.out.now in
    c.told.ensures a.img.now out _ _ c.put_records-put.ensures
    ∙ ap (records_outcome a.img.now out)
    (ap₂ (λ (ed : Edition) (es : List Entry). packed ed (length out) a.slot.0 (only (live_from a.slot.0) es)) (ap edition_view e.5)
    (opened-entries _ _ (opened (goal.at.returns c).In_ok-g) c.first_slot-from.result e.0))
    ∙ sym (list-all-opened _ _ _ _ (opened (goal.at.returns c).In_ok-g))
