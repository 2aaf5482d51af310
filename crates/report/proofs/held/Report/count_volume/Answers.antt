use Rattle.std.proofs.Common.{List, ap, ◌∙◌, arith}
use Rattle.rules.specs.Index.{Item}
use Rattle.rules.specs.Report.{sums_of, added}
use Rattle.judging.specs.View.{opened-super, opened-walks, opened-small}
use Rattle.report.proofs.held.Report.count_volume.Goals as goal

pub first_slot-from-requires : goal.first_slot-from-requires
first_slot-from-requires c = (opened-super _ _ c.requires, omega arith)

pub count_items-requires : goal.count_items-requires
count_items-requires c =
    let e = c.first_slot-from.ensures in
    (opened-walks _ _ c.requires _ e.0 e.1, opened-small _ _ c.requires c.first_slot-from.result e.0, e.6)

pub returns-clause-table : goal.returns-clause-table
returns-clause-table c = c.count_items.ensures.table ∙ ap (λ (is : List Item). added c.args.self.now.table (sums_of is)) c.first_slot-from.ensures.0
