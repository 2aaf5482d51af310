use mathlib.Core.Path.{sym, ap, ap₂, ◌∙◌}
use mathlib.Core.Option.{some}
use Rattle.rules.specs.Regions.{lowest_free}
use Rattle.planning.specs.Places.{place_none, place-blocks}
use Rattle.planning.proofs.place_file.Goals as goal

pub returns-then-k-eq0 : goal.returns-then-k-eq0
returns-then-k-eq0 c es h = ap some c.at.ensures ∙ sym (place_none _ _ _ _ c.if-k-eq0.true)

pub returns : goal.returns
returns c es h =
    c.lowest_free.ensures es h ∙ ap₂ (lowest_free _ _) c.data_start.ensures c.ceiling-ceiling.ensures
    ∙ sym (place-blocks _ _ _ _ c.if-k-eq0.false)
