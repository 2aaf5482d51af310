use mathlib.Core.Path.{refl, sym, ◌∙◌}
use Rattle.places.specs.Cut.{places-all, places-top, places-cut}
use Rattle.places.proofs.places_for.Goals as goal

pub returns-then-not-before_directories : goal.returns-then-not-before_directories
returns-then-not-before_directories c = places-all _ _ _ c.requires.0 (sym c.before_directories.ensures ∙ c.if-not-before_directories.true)

pub returns-then-not-has_slash : goal.returns-then-not-has_slash
returns-then-not-has_slash c = places-top _ _ _ c.requires.0 (sym c.has_slash.ensures ∙ c.if-not-has_slash.true)

pub returns : goal.returns
returns c =
    places-cut _ _ _ c.requires.0 (sym c.before_directories.ensures ∙ c.if-not-before_directories.false) _ c.slots_before.ensures _ refl refl refl refl
