use mathlib.Core.Path.{◌≡◌, sym, ap, ◌∙◌}
use Rattle.std.specs.Prelude.{ℕ, List, [], ◌⊎◌, Err}
use Rattle.std.proofs.Common.{inl, inr}
use Rattle.std.proofs.lemmas.Result.{err_from_is_err_and}
use Rattle.rules.specs.Outcome.{numbers_of, no_entry}
use Rattle.rules.specs.Reading.{find_of}
use Rattle.rules.specs.Reading.Laws.{find-refused, find-name, find_none, find-done}
use Rattle.refusals.specs.declared.Refusal.{Refusal}
use Rattle.editions.specs.View.{edition_view}
use Rattle.editions.specs.declared.Edition.{Edition as Held}
use Rattle.slots.specs.View.{head_view}
use Rattle.geometry.specs.declared.Geometry.{Geometry}
use Rattle.judging.specs.View.{Opened, refused_says, good-says}
use Rattle.contracts.specs.Promises.{entry_view}
use Rattle.contracts.specs.Promises.Laws.{entry-outcome}
use Rattle.reading.specs.Looked.{LooksUp, Unnamed, Missing}
use Rattle.reading.specs.Told.{told_as}
use Rattle.reading.proofs.find_entry.Goals as goal
use Rattle.reading.proofs.find_entry.Goals.{In_ok-g}

-- a path that is not allowed, or not live
refused-by : (s : List ℕ) (g : Geometry) (path : List ℕ) (e : Refusal) → Opened s g → Unnamed path e ⊎ Missing s g path e
    → told_as (λ s _. entry_view s) no_entry s [] (Err e) ≡ find_of s path
refused-by s g path e o (inl u) = rw u.why (sym (find-name _ _ o _ u.unnamed))
refused-by s g path e o (inr m) = rw m.why (sym (find_none _ _ o _ m.named m.none_found))

opened : (c : In_ok-g) → Opened c.args.img.now c.in_ok-g.g
opened c = good-says _ _ c.judge.ensures _ c.in_ok-g.was

pub returns-in_err-g : goal.returns-in_err-g
returns-in_err-g c =
    let p = err_from_is_err_and c.from_residual.result c.from_residual.ensures.1 in
    rw (p.1, p.2) (sym (find-refused _ _ (refused_says _ _ c.judge.ensures _ c.in_err-g.was) _))

pub look_up-requires : goal.look_up-requires
look_up-requires c = opened (goal.at.look_up-requires c).In_ok-g

pub returns-in_err-h : goal.returns-in_err-h
unfolding LooksUp
returns-in_err-h c =
    let p = err_from_is_err_and c.from_residual-in_err-h.result c.from_residual-in_err-h.ensures.1 in
    rw (p.1, p.2) (refused-by _ _ _ _ (opened (goal.at.returns-in_err-h c).In_ok-g) (rw c.in_err-h.was at c.look_up.ensures))

pub returns : goal.returns
unfolding LooksUp
returns c =
    let f = rw c.in_ok-h.was at c.look_up.ensures in
    entry-outcome _ _ _ c.entry_numbers.ensures.0 (c.entry_numbers.ensures.1 c.args.img.now ∙ ap (λ (ed : Held). numbers_of (edition_view ed) (head_view c.args.img.now c.in_ok-h.h)) f.own) ∙ sym (find-done _ _ (opened (goal.at.returns c).In_ok-g) _ _ f.named f.found)
