use Prim.Native.Nat.{max, ◌<◌}
use borrow.Author.Rules.{rules}
use mathlib.Core.Path.{◌≡◌, sym, ap, ◌∙◌}
use native.Mathlib.Omega.{arith}
use lib.Dec.{leb}
use lib.ListN.{length, get_or, drop}
use Rattle.std.proofs.lemmas.Iterator.{YieldsList-from_slice}
use Rattle.std.proofs.lemmas.Iterator.Adapters.{YieldsList-from_skip}
use Rattle.std.proofs.lemmas.Iterator.Consumers.{YieldsList-turn, YieldsList-end}
use Rattle.std.proofs.lemmas.List.{get_or_read, length_push}
use Rattle.free_runs.specs.InOrder.{free-end, free-here, free-next}
use Rattle.free_runs.proofs.free_from.Goals as goal
use Rattle.free_runs.proofs.free_from.Goals.{In-Some}

-- the key of this turn stands behind those so far
turn : (c : In-Some) → let ks = drop c.args.from c.args.keys.now in
    (length c.loop-key.yielded < length ks) × (c.in-Some.field-0.now ≡ get_or ks (length c.loop-key.yielded) 0)
turn c =
    let t = YieldsList-turn (YieldsList-from_skip c.args.from (YieldsList-from_slice c.args.keys.now cc) cc) c.loop-key.yielded _ c.loop-key.yielded_by _ _ c.in-Some.field-0 c.in-Some.is c.next.ensures.steps in
    (t.0, get_or_read _ _ _ t.0 t.1 0)

pub returns-then-has_room : goal.returns-then-has_room
returns-then-has_room c =
    let t = turn (goal.at.returns-then-has_room c).In-Some in
    free-here (drop c.args.from c.args.keys.now) _ _ (length c.loop-key.yielded) c.in-Some.field-0.now t.0 t.1
    (sym (ap (leb _) c.key_start.ensures) ∙ sym c.has_room.ensures.value ∙ c.if-has_room.true)
    ∙ c.loop-key.invariant

pub loop-key-preserved : goal.loop-key-preserved
loop-key-preserved c =
    let t = turn (goal.at.loop-key-preserved c).In-Some in
    let h : c.max-b.result.0 ≡ max c.loop-key.b.0 c.key_end.result.0 = search rules in
    rw (length_push c.loop-key.yielded c.in-Some.field-0, h, c.key_end.ensures)
    (free-next (drop c.args.from c.args.keys.now) _ _ (length c.loop-key.yielded) c.in-Some.field-0.now t.0 t.1
    (sym (ap (leb _) c.key_start.ensures) ∙ sym c.has_room.ensures.value ∙ c.if-has_room.false))
    ∙ c.loop-key.invariant

pub returns : goal.returns
returns c =
    let t = YieldsList-end (YieldsList-from_skip c.args.from (YieldsList-from_slice c.args.keys.now cc) cc) c.loop-key.yielded _ c.loop-key.yielded_by _ _ c.in-None.is c.next.ensures.steps in
    free-end (drop c.args.from c.args.keys.now) _ _ (length c.loop-key.yielded) (omega (arith, t.1)) ∙ c.loop-key.invariant
