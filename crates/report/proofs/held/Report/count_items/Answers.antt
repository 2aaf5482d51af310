use Rattle.std.proofs.Common.{List, sym, refl, ap, ◌∙◌, arith}
use Rattle.rules.specs.Index.{Item}
use Rattle.rules.specs.Report.{sums_of, added}
use Rattle.index.specs.Steps.{sums-onward}
use Rattle.report.specs.Items.{onto-small, items-end}
use Rattle.report.specs.Stored.{stored-none, held-stored}
use Rattle.report.proofs.held.Report.count_items.Goals as goal

pub loop-c-init : goal.loop-c-init
loop-c-init c = let p = c.requires in record { walks = p.0; small = p.1; table = refl; sums = p.2; counts = refl }

pub further-requires : goal.further-requires
further-requires c = let l = c.loop-c in (l.invariant.walks, c.loop-c-test.true, l.invariant.sums)

pub count_item-requires : goal.count_item-requires
count_item-requires c =
    let l = c.loop-c in
    record { walks = l.invariant.walks; more = c.loop-c-test.true; past = c.further.ensures.past; small = l.invariant.small }

pub loop-c-smaller : goal.loop-c-smaller
loop-c-smaller c = c.further.ensures.less

pub loop-c-preserved : goal.loop-c-preserved
loop-c-preserved c =
    let l = c.loop-c in
    let o = c.further.ensures in record {
      walks = o.walks;
      small = onto-small _ _ _ _ o l.invariant.small;
      table = c.count_item.ensures.rest_value ∙ l.invariant.table;
      sums = sums-onward _ _ l.c l.invariant.sums _ _ o;
      counts = c.count_item.ensures.counts ∙ l.invariant.counts;
    }

pub returns-clause-table : goal.returns-clause-table
returns-clause-table c =
    let l = c.loop-c in
    sym (stored-none _ (held-stored _ l.self.stored)) ∙ ap (λ (is : List Item). added l.self.table (sums_of is)) (sym (items-end _ l.c (omega (arith, c.loop-c-test.false)))) ∙ l.invariant.table
