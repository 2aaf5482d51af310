use mathlib.Core.Path.{◌≡◌, sym, ap, ◌∙◌}
use Rattle.std.proofs.lemmas.Result.{err_from_is_err_and}
use Rattle.std.specs.Prelude.{None}
use native.Mathlib.Omega.{arith}
use Rattle.rules.specs.Paths.{live_from, next_live}
use Rattle.rules.specs.Refusals.{entries}
use Rattle.rules.specs.Outcome.{done, none_listed, no_entry}
use Rattle.rules.specs.Reading.Laws.{list-refused, list-none, list-found}
use Rattle.editions.specs.View.{edition_view}
use Rattle.geometry.specs.View.{geometry_view}
use Rattle.slots.specs.View.{head_view}
use Rattle.paths.specs.View.{Hits, HitAt, hit-nothing, hit-entry, hit-first, hit-of}
use Rattle.judging.specs.View.{Opened, refused_says, good-says, volume_of, opened-super, opened-walks, opened-entries}
use Rattle.reading.specs.Found.{next-run}
use Rattle.reading.proofs.list_from.Goals as goal
use Rattle.reading.proofs.list_from.Goals.{After-next_live, In-Some, In_ok-g}

opened : (c : In_ok-g) → Opened c.args.img.now c.in_ok-g.g
opened c = good-says _ _ c.judge.ensures _ c.in_ok-g.was

pub returns-in_err-g : goal.returns-in_err-g
returns-in_err-g c =
    let p = err_from_is_err_and c.from_residual.result c.from_residual.ensures.1 in
    rw (p.1, p.2) (sym (list-refused _ _ (refused_says _ _ c.judge.ensures _ c.in_err-g.was) _ _))

-- what was sought, among the volume's entries
hits : (c : After-next_live) → let a = c.args in
    Hits a.img.now (live_from a.slot.0) (entries (volume_of a.img.now (geometry_view c.in_ok-g.g))) c.next_live.result
hits c = let f = c.first_slot-from in
    rw (opened-entries _ _ (opened (goal.at.After-next_live c).In_ok-g) f.result f.ensures.0) at c.next_live.ensures.hits

pub first_slot-from-requires : goal.first_slot-from-requires
first_slot-from-requires c = (opened-super _ _ (opened (goal.at.first_slot-from-requires c).In_ok-g), omega arith)

pub next_live-requires : goal.next_live-requires
next_live-requires c =
    let e = c.first_slot-from.ensures in
    (opened-walks _ _ (opened (goal.at.next_live-requires c).In_ok-g) _ e.0 e.1, e.6)

-- the entry that it came to
found : (c : In-Some) → let a = c.args in
    HitAt a.img.now (live_from a.slot.0) (entries (volume_of a.img.now (geometry_view c.in_ok-g.g))) c.in-Some.h c.in-Some.field-0-1
found c = hit-entry _ _ _ _ (hits (goal.at.In-Some c).After-next_live) _ _ c.in-Some.is

pub list_entry-requires : goal.list_entry-requires
unfolding head_view next_live
list_entry-requires c =
    ((found (goal.at.list_entry-requires c).In-Some).head, next-run _ _ (head_view _ c.in-Some.h) (hit-first _ _ _ _ _ (found (goal.at.list_entry-requires c).In-Some)))

pub returns-in_default : goal.returns-in_default
unfolding done next_live none_listed no_entry
returns-in_default c =
    let none : c.next_live.result ≡ None = grind arith in
    let h = c.default.ensures in
    rw (h.0, h.1.0, h.1.1.0, h.1.1.1.0, h.1.1.1.1.0, h.1.1.1.1.1.0, h.1.1.1.1.1.1.0, h.1.1.1.1.1.1.1)
    (sym (list-none _ _ (opened (goal.at.returns-in_default c).In_ok-g) _ _ (hit-nothing _ _ _ _ (hits (goal.at.returns-in_default c).After-next_live) none)))

pub returns : goal.returns
unfolding next_live
returns c =
    let own = (hit-of _ _ c.next_live.ensures.place _ _ c.in-Some.is).0 ∙ c.first_slot-from.ensures.5 in
    c.list_entry.ensures ∙ sym (list-found _ _ (opened (goal.at.returns c).In_ok-g) _ _ _ (hit-first _ _ _ _ _ (found (goal.at.returns c).In-Some)) _ (ap edition_view own))
