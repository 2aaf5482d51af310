use mathlib.Core.Path.{refl, sym, ◌∙◌}
use native.Mathlib.Omega.{arith}
use Rattle.slots.specs.View.{head-spot}
use Rattle.index.specs.View.{behind-itself, behind-on}
use Rattle.index.specs.Steps.{Arrives, sums-arrives, behind-arrives, arrives-before}
use Rattle.index.specs.Turns.{stops_end, stops_at}
use Rattle.paths.specs.View.{hits-none, hits-read, no-hit-of, some-hit-of}
use Rattle.paths.specs.Entries.{only_end, only-stop, only_next}
use Rattle.paths.proofs.next_live.Goals as goal
use Rattle.paths.proofs.next_live.Goals.{In-Some}

step : (c : In-Some) → Arrives c.args.img.now c.loop-next.c c.in-Some.next.here c.in-Some.next.rest
step c = stops_at _ _ _ c.next_spot.ensures _ c.in-Some.is

pub loop-next-init : goal.loop-next-init
loop-next-init c = let p = c.requires in (p.0, refl, behind-itself _, p.1)

pub next_spot-requires : goal.next_spot-requires
next_spot-requires c = (c.loop-next.invariant.0, c.loop-next.invariant.3)

pub head_at-requires : goal.head_at-requires
head_at-requires c = let e = (step (goal.at.head_at-requires c).In-Some).spot in omega (arith, e.fits, e.low)

pub returns-then-is_from : goal.returns-then-is_from
returns-then-is_from c =
    let r = step (goal.at.returns-then-is_from c).In-Some in
    let v = c.head_at.ensures in
    let same = r.view ∙ sym v.result_value in
    let i = c.loop-next.invariant in
    let met = only-stop _ _ _ _ r.entries (sym (c.is_from.ensures _) ∙ c.if-is_from.true) in record {
      hits = hits-read _ _ _ _ _ _ (sym i.1 ∙ met) same (head-spot _ _ _ same v.place.0 v.place.1 r.spot) r.walks (arrives-before _ _ _ _ r);
      place = some-hit-of _ _ _ (v.place.0 ∙ r.of ∙ i.2.edition) (behind-on _ _ _ i.2 (behind-arrives _ _ _ _ r));
    }

pub loop-next-preserved : goal.loop-next-preserved
loop-next-preserved c =
    let r = step (goal.at.loop-next-preserved c).In-Some in
    let i = c.loop-next.invariant in
    (r.walks, only_next _ _ _ _ r.entries (sym (c.is_from.ensures _) ∙ c.if-is_from.false) ∙ i.1, behind-on _ _ _ i.2 (behind-arrives _ _ _ _ r), sums-arrives _ _ _ i.3 _ _ r)

pub loop-next-smaller : goal.loop-next-smaller
loop-next-smaller c = (step (goal.at.loop-next-smaller c).In-Some).less

pub returns : goal.returns
returns c =
    record {
      hits = hits-none _ _ _ (sym c.loop-next.invariant.1 ∙ only_end _ _ (stops_end _ _ _ c.next_spot.ensures c.in_default.is));
      place = no-hit-of _;
    }
