use mathlib.Core.Path.{sym, ◌∙◌}
use native.Mathlib.Omega.{arith}
use Rattle.planning.specs.Places.{grown-field, grown-not, grown-at}
use Rattle.planning.proofs.grown_place.Goals as goal

pub grow_index-grown-requires : goal.grow_index-grown-requires
grow_index-grown-requires c = omega (arith, c.requires.0.index-high)

pub areas_fit-requires : goal.areas_fit-requires
areas_fit-requires c = grown-field _ _ c.requires.0 _ _ c.grow_index-grown.ensures

pub returns-then-not-areas_fit : goal.returns-then-not-areas_fit
returns-then-not-areas_fit c = grown-not _ _ c.requires.0 _ _ c.grow_index-grown.ensures (sym c.areas_fit.ensures ∙ c.if-not-areas_fit.true)

pub returns : goal.returns
returns c = grown-at _ _ c.requires.0 _ _ c.grow_index-grown.ensures (sym c.areas_fit.ensures ∙ c.if-not-areas_fit.false) _ c.at.ensures
