use Prim.Native.Nat.{ℕ}
use mathlib.Core.Bool.{Bool, true, false, ◌||◌}
use mathlib.Core.Path.{◌≡◌, refl, sym, ◌∙◌}
use lib.Dec.{eqb}
use Rattle.rules.specs.Index.{run_type, live_type, directory_type, file_type, deleted_type}
use Rattle.slots.proofs.is_run.Goals as goal

parts : (t : ℕ) → run_type t ≡ (live_type t || deleted_type t)
unfolding run_type live_type directory_type file_type deleted_type
parts t = by (eqb t 0x11) (eqb t 0x19) (eqb t 0x12) (eqb t 0x1A)
  where
    by : (a b c d : Bool) → ((a || b) || (c || d)) ≡ ((a || c) || (b || d))
    by true b c d = refl
    by false true true d = refl
    by false true false d = refl
    by false false c d = refl

pub returns-then-is_live : goal.returns-then-is_live
returns-then-is_live c = c.if-is_live.true ∙ sym (parts c.args.kind ∙ rw (sym c.is_live.ensures ∙ c.if-is_live.true))

pub returns-else-is_live : goal.returns-else-is_live
returns-else-is_live c = c.is_deleted.ensures ∙ sym (parts c.args.kind ∙ rw (sym c.is_live.ensures ∙ c.if-is_live.false))
