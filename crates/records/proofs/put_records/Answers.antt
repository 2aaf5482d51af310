use mathlib.Core.Path.{◌≡◌, refl, sym, ap, subst, ◌∙◌}
use native.Mathlib.Omega.{arith}
use Rattle.std.specs.Prelude.{Some, None}
use lib.ListN.{length}
use Prim.Native.Nat.{◌+◌, ◌-◌}
use mathlib.Core.Bool.{true}
use lib.Dec.{leb}
use Rattle.rules.specs.Editions.{Edition}
use Rattle.rules.specs.Index.{run_type}
use Rattle.rules.specs.Paths.{live_from}
use Rattle.rules.specs.Outcome.{numbers_of}
use Rattle.rules.specs.Records.{record_bytes}
use Rattle.editions.specs.View.{edition_view}
use Rattle.slots.specs.View.{head_view}
use Rattle.index.specs.View.{Behind, behind-itself, behind-on, sums-behind}
use Rattle.index.specs.Steps.{entries_from}
use Rattle.text.specs.Wrote.{Wrote}
use Rattle.paths.specs.View.{HitAt, hit-none, hit-entry, hit-of}
use Rattle.laws.proofs.Records.Packed.{record_length, chosen-run}
use Rattle.records.specs.View.{Putting, putting-first, putting-none, putting-full, putting-room, putting-ahead, putting-next}
use Rattle.records.proofs.put_records.Goals as goal
use Rattle.records.proofs.put_records.Goals.{After-after-next, After-put_record-end, Else-not-fits, In-Some}

pub loop-h-init : goal.loop-h-init
loop-h-init c =
    let p = c.requires in
    (p.0, p.1, behind-itself _, putting-first _ _ _ _, refl)

pub next_live-requires : goal.next_live-requires
next_live-requires c = (c.loop-h.invariant.0, c.loop-h.invariant.1)

pub returns : goal.returns
returns c =
    let none : c.next_live.result ≡ None = grind arith in
    putting-none _ _ _ _ _ _ _ _ _ c.loop-h.invariant.3 _ refl refl refl (hit-none _ _ _ _ c.next_live.ensures.hits none)

is : (c : In-Some) → c.next_live.result ≡ Some (c.in-Some.h, c.in-Some.rest)
is c = grind arith

-- the entry that was met
met : (c : In-Some) → let a = c.args in
    HitAt a.img.now (live_from a.slot.0) (entries_from a.img.now c.loop-h.c) c.in-Some.h c.in-Some.rest
met c = hit-entry _ _ _ _ c.next_live.ensures.hits _ _ (is c)

run : (c : In-Some) → run_type c.in-Some.h.kind ≡ true
unfolding head_view
run c = let a = c.args in
    chosen-run _ _ (head_view a.img.now c.in-Some.h) _ (met c).chosen

told : (c : In-Some) → let d = c.loop-h.c in (c.in-Some.h.edition ≡ d.edition) × Behind d c.in-Some.rest
told c = hit-of _ _ c.next_live.ensures.place _ _ (is c)

-- the records so far
put : (c : In-Some) → let a = c.args in
    Putting a.img.now a.from a.slot.0 a.out.now c.loop-h.out c.loop-h.c c.loop-h.count c.loop-h.end c.loop-h.next.0
put c = c.loop-h.invariant.3

pub overflow_sub-room : goal.overflow_sub-room
overflow_sub-room c = (put c).inside

pub fits-requires : goal.fits-requires
fits-requires c = ((met c).head, run c)

pub returns-then-not-fits : goal.returns-then-not-fits
returns-then-not-fits c =
    putting-full _ _ _ _ _ _ _ _ _ (put (goal.at.returns-then-not-fits c).In-Some) _ _ (met (goal.at.returns-then-not-fits c).In-Some).chosen _ refl refl _ refl refl (sym c.fits.ensures ∙ c.if-not-fits.true)

-- the next record fits
room : (c : Else-not-fits) → leb (record_length (head_view c.args.img.now c.in-Some.h)) (length c.args.out.now - c.loop-h.end) ≡ true
room c = sym c.fits.ensures ∙ c.if-not-fits.false

pub put_record-end-requires : goal.put_record-end-requires
put_record-end-requires c =
    ((met (goal.at.put_record-end-requires c).In-Some).head, run (goal.at.put_record-end-requires c).In-Some, putting-room _ _ _ _ _ _ _ _ _ (put (goal.at.put_record-end-requires c).In-Some) _ c.in-Some.rest (met (goal.at.put_record-end-requires c).In-Some).chosen (room (goal.at.put_record-end-requires c).Else-not-fits))

pub after-next-requires : goal.after-next-requires
after-next-requires c = omega (arith, (met (goal.at.after-next-requires c).In-Some).passed, (met (goal.at.after-next-requires c).In-Some).walks.inside.numbers)

-- a record was written, of the walk's edition
wrote : (c : After-put_record-end) → let a = c.args in let e = head_view a.img.now c.in-Some.h in
    Wrote c.loop-h.out c.loop-h.end (record_bytes (numbers_of (edition_view a.from.edition) e) e.path) c.put_record-end.new.out c.put_record-end.result
wrote c =
    let e = head_view c.args.img.now c.in-Some.h in
    subst (λ (ed : Edition). Wrote c.loop-h.out c.loop-h.end (record_bytes (numbers_of ed e) e.path) c.put_record-end.new.out c.put_record-end.result)
    (ap edition_view ((told (goal.at.After-put_record-end c).In-Some).0 ∙ c.loop-h.invariant.2.edition)) c.put_record-end.ensures

-- one record further
further : (c : After-after-next) → let a = c.args in
    Putting a.img.now a.from a.slot.0 a.out.now c.put_record-end.new.out c.in-Some.rest (c.loop-h.count + 1) c.put_record-end.result (c.in-Some.h.slot.0 + 1)
unfolding head_view
further c =
    putting-next _ _ _ _ _ _ _ _ _ (put (goal.at.After-after-next c).In-Some) _ _ (met (goal.at.After-after-next c).In-Some).chosen (room (goal.at.After-after-next c).Else-not-fits) _ _ (omega arith) (wrote (goal.at.After-after-next c).After-put_record-end)

pub overflow_add-count : goal.overflow_add-count
overflow_add-count c = record { fits = omega (arith, (further c).few, (further c).inside) }

pub loop-h-smaller : goal.loop-h-smaller
loop-h-smaller c =
    let l = putting-ahead _ _ _ _ _ _ _ _ _ (put (goal.at.loop-h-smaller c).In-Some) _ c.in-Some.rest (met (goal.at.loop-h-smaller c).In-Some).chosen (room (goal.at.loop-h-smaller c).Else-not-fits) _ _ (wrote (goal.at.loop-h-smaller c).After-put_record-end) in
    omega (arith, l, (further c).inside)

pub loop-h-preserved : goal.loop-h-preserved
loop-h-preserved c =
    let i = c.loop-h.invariant in
    ((met (goal.at.loop-h-preserved c).In-Some).walks, sums-behind _ _ _ i.1 _ (told (goal.at.loop-h-preserved c).In-Some).1, behind-on _ _ _ i.2 (told (goal.at.loop-h-preserved c).In-Some).1, rw c.after-next.ensures (further c), omega arith)
