use Rattle.std.proofs.Common.{ℕ, ◌-◌, [], ◌∷◌, ap, ◌∙◌, ap₂}
use Rattle.rules.specs.Regions.{blocks_of}
use Rattle.laws.proofs.Report.Table.{counted_at}
use Rattle.slots.specs.View.{head_view}
use Rattle.report.proofs.held.Report.count_entry.Goals as goal

pub returns-clause-table : goal.returns-clause-table
unfolding head_view blocks_of
returns-clause-table c s =
    let a = c.args in
    c.count.ensures.table
    ∙ ap₂ (λ (kind blocks : ℕ). counted_at a.self.now.table kind (a.n ∷ blocks ∷ a.h.length ∷ [])) c.kind_of.ensures
    (c.blocks_past-blocks.ensures ∙ ap (λ (end : ℕ). end - a.h.start.0) (c.past_end.ensures s))
