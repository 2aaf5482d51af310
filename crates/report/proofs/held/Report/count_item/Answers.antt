use Rattle.std.proofs.Common.{◌≡◌, get_or, sym, refl, ap, ◌∙◌, arith}
use Rattle.rules.specs.Index.Items.{entry_type}
use Rattle.rules.specs.Report.{Table, sums_of, added}
use Rattle.editions.specs.View.{edition_view}
use Rattle.slots.specs.View.{head_view}
use Rattle.index.specs.View.{items_from}
use Rattle.free_runs.specs.Sums.{small-stored}
use Rattle.report.specs.Rows.{kind-low}
use Rattle.report.specs.Items.{onto-ahead, onto-room, gap-turn, entry-turn, entry-small}
use Rattle.report.proofs.held.Report.count_item.Goals as goal
use Rattle.report.proofs.held.Report.count_item.Goals.{After-is_entry}

-- what the test says of the slot
type : (c : After-is_entry) → let a = c.args in c.is_entry.result ≡ entry_type (edition_view a.c.edition) (get_or a.img.now a.c.at.0 0)
type c = let a = c.args in c.is_entry.ensures ∙ ap (entry_type (edition_view a.c.edition)) c.kind_at.ensures

pub slots_to-n-requires : goal.slots_to-n-requires
slots_to-n-requires c = onto-ahead _ _ _ c.requires

pub kind_at-requires : goal.kind_at-requires
kind_at-requires c = omega (arith, onto-room _ _ _ c.requires)

pub head_at-requires : goal.head_at-requires
head_at-requires c = onto-room _ _ _ c.requires

pub count_entry-requires : goal.count_entry-requires
count_entry-requires c =
    let here = sym (type (goal.at.count_entry-requires c).After-is_entry) ∙ c.if-is_entry.true in
    small-stored c.args.img.now _ (entry-small _ _ _ c.requires _ refl c.args.self.now.table c.args.self.now.stored.0 here _ c.head_at.ensures.result_value)

pub returns-then-is_entry-clause-rest_value : goal.returns-then-is_entry-clause-rest_value
returns-then-is_entry-clause-rest_value c =
    let img = c.args.img.now in
    let here = sym (type (goal.at.returns-then-is_entry-clause-rest_value c).After-is_entry) ∙ c.if-is_entry.true in
    ap (λ (u : Table). added u (sums_of (items_from img c.args.rest))) (c.count_entry.ensures.table img)
    ∙ entry-turn _ _ _ c.requires _ c.slots_to-n.ensures c.args.self.now.table c.args.self.now.stored.0 here (head_view img c.head_at.result) c.head_at.ensures.result_value (kind-low _)

pub returns-else-is_entry-clause-rest_value : goal.returns-else-is_entry-clause-rest_value
returns-else-is_entry-clause-rest_value c =
    let a = c.args in
    ap (λ (u : Table). added u (sums_of (items_from a.img.now a.rest))) c.count.ensures.table
    ∙ gap-turn _ _ _ c.requires _ c.slots_to-n.ensures a.self.now.table a.self.now.stored.0 (sym (type (goal.at.returns-else-is_entry-clause-rest_value c).After-is_entry) ∙ c.if-is_entry.false)
