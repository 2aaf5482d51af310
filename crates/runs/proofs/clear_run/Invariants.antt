use Prim.Native.Nat.{◌+◌, ◌-◌, ◌*◌}
use mathlib.Core.Path.{◌≡◌}
use Rattle.rules.specs.Fields.{splice}
use Rattle.rules.specs.Index.{unused_bytes}
use Rattle.editions.specs.View.{edition_view}
use Rattle.runs.proofs.clear_run.Given as goal

abbrev pub invariant-loop-i : goal.invariant-loop-i
invariant-loop-i l = splice l.img (l.at.0 + 64 * l.i) (unused_bytes (edition_view l.ed) (l.slots - l.i)) ≡ splice l.initial.img l.at.0 (unused_bytes (edition_view l.ed) l.slots)
