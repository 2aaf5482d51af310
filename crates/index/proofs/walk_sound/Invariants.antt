use mathlib.Core.Path.{◌≡◌}
use Rattle.rules.specs.Index.Items.{faultless}
use Rattle.index.specs.View.{Inside, SumsFrom, items_from}
use Rattle.index.proofs.walk_sound.Given as goal

abbrev pub invariant-loop-c : goal.invariant-loop-c
invariant-loop-c l = Inside l.img l.c × (faultless (items_from l.img l.c) ≡ faultless (items_from l.img l.initial.c)) × SumsFrom l.img l.sums l.c

abbrev pub decreases-loop-c : goal.decreases-loop-c
decreases-loop-c l = l.c.left
