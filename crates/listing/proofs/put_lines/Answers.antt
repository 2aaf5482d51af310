use Prim.Native.Nat.{◌+◌}
use mathlib.Core.Path.{◌≡◌, refl, ap, ◌∙◌}
use native.Mathlib.Omega.{arith}
use lib.ListN.{length, length-append}
use Rattle.slots.specs.View.{head_view}
use Rattle.index.specs.Steps.{Told, Step, entries_from, sums-step}
use Rattle.text.specs.Wrote.{left-none, left-next}
use Rattle.listing.specs.Lines.{entry_text, live_text, text-end, text-next}
use Rattle.listing.proofs.put_lines.Goals as goal
use Rattle.listing.proofs.put_lines.Goals.{In-Some}

pub loop-h-init : goal.loop-h-init
loop-h-init c = let p = c.requires in (p.0, (refl, refl, refl), p.2)

pub next_entry-requires : goal.next_entry-requires
next_entry-requires c = (c.loop-h.invariant.0, c.loop-h.invariant.2)

pub returns : goal.returns
unfolding Told
returns c = left-none _ _ _ _ _ _ (text-end _ c.in_default.ensures) c.loop-h.invariant.1

step : (c : In-Some) → Step c.args.img.now c.loop-h.c c.in-Some.h c.in-Some.rest
unfolding Told
step c = c.in-Some.ensures

-- what is left, one entry further
rest : (c : In-Some) → let s = c.args.img.now in
    length (live_text (entries_from s c.loop-h.c)) ≡ length (entry_text (head_view s c.in-Some.h)) + length (live_text (entries_from s c.in-Some.rest))
rest c = ap length (text-next _ _ _ (step c).entries) ∙ length-append (entry_text _) _

pub put_entry-end-requires : goal.put_entry-end-requires
put_entry-end-requires c =
    ((step (goal.at.put_entry-end-requires c).In-Some).head, omega (arith, rest (goal.at.put_entry-end-requires c).In-Some, c.loop-h.invariant.1, c.requires.1))

pub loop-h-smaller : goal.loop-h-smaller
loop-h-smaller c = (step (goal.at.loop-h-smaller c).In-Some).less

pub loop-h-preserved : goal.loop-h-preserved
loop-h-preserved c =
    ((step (goal.at.loop-h-preserved c).In-Some).walks, left-next _ _ _ _ _ _ _ _ _ _ (text-next _ _ _ (step (goal.at.loop-h-preserved c).In-Some).entries) (omega (arith, c.loop-h.invariant.1, c.requires.1)) (omega arith) c.loop-h.invariant.1 c.put_entry-end.ensures, sums-step _ _ c.loop-h.c c.loop-h.invariant.2 _ _ (step (goal.at.loop-h-preserved c).In-Some))
