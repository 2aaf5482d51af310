use mathlib.Core.Path.{sym, ◌∙◌}
use Rattle.std.proofs.Common.{refl, inl}
use Rattle.reading.specs.Looked.{LooksUp, looked-up}
use Rattle.reading.proofs.look_up.Goals as goal

pub returns-then-not-path_good : goal.returns-then-not-path_good
unfolding LooksUp
returns-then-not-path_good c = inl (record { why = refl; unnamed = sym c.path_good.ensures ∙ c.if-not-path_good.true })

pub returns : goal.returns
returns c = looked-up _ _ _ (sym c.path_good.ensures ∙ c.if-not-path_good.false) _ c.search.ensures.searched c.search.ensures.edition _ c.ok_or.ensures.value
