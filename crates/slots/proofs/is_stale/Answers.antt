use mathlib.Core.Path.{sym, ap, ◌∙◌}
use mathlib.Core.Bool.{not}
use Rattle.rules.specs.Index.Laws.{keeps-fresh, stale-some}
use Rattle.slots.proofs.is_stale.Goals as goal

pub returns-then-is_deleted : goal.returns-then-is_deleted
returns-then-is_deleted c =
    c.if-is_deleted.true
    ∙ sym (stale-some _ _ (sym c.keeps_deleted.ensures ∙ c.if-not-keeps_deleted.true) ∙ rw (sym c.is_deleted.ensures ∙ c.if-is_deleted.true))

pub returns-else-is_deleted : goal.returns-else-is_deleted
returns-else-is_deleted c =
    sym (stale-some _ _ (sym c.keeps_deleted.ensures ∙ c.if-not-keeps_deleted.true) ∙ rw (sym c.is_deleted.ensures ∙ c.if-is_deleted.false))

pub returns-else-not-keeps_deleted : goal.returns-else-not-keeps_deleted
returns-else-not-keeps_deleted c =
    ap not c.if-not-keeps_deleted.false ∙ sym (keeps-fresh _ _ (sym c.keeps_deleted.ensures ∙ c.if-not-keeps_deleted.false))
