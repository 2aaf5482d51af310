use mathlib.Core.Path.{◌≡◌, sym, ◌∙◌}
use Rattle.std.specs.Prelude.{ℕ, List, ◌⊎◌, Err}
use Rattle.std.proofs.Common.{inl, inr}
use Rattle.std.proofs.lemmas.Result.{err_from_is_err_and}
use Rattle.rules.specs.Reading.{read_of}
use Rattle.rules.specs.Reading.Laws.{read-refused, read_name, read_none}
use Rattle.geometry.specs.declared.Geometry.{Geometry}
use Rattle.refusals.specs.declared.Refusal.{Refusal}
use Rattle.judging.specs.View.{Opened, refused_says, good-says}
use Rattle.contracts.specs.Promises.{content_view}
use Rattle.reading.specs.Found.{file-in, read_found}
use Rattle.reading.specs.Looked.{LooksUp, Unnamed, Missing}
use Rattle.reading.specs.Told.{told_as}
use Rattle.reading.proofs.read_entry.Goals as goal
use Rattle.reading.proofs.read_entry.Goals.{In_ok-g}

-- a path that is not allowed, or not live
refused-by : (s : List ℕ) (g : Geometry) (path out : List ℕ) (e : Refusal) → Opened s g → Unnamed path e ⊎ Missing s g path e
    → told_as content_view 0 s out (Err e) ≡ read_of s path out
refused-by s g path out e o (inl u) = rw u.why (sym (read_name _ _ o _ _ u.unnamed))
refused-by s g path out e o (inr m) = rw m.why (sym (read_none _ _ o _ _ m.named m.none_found))

opened : (c : In_ok-g) → Opened c.args.img.now c.in_ok-g.g
opened c = good-says _ _ c.judge.ensures _ c.in_ok-g.was

pub returns-in_err-g : goal.returns-in_err-g
returns-in_err-g c =
    let p = err_from_is_err_and c.from_residual.result c.from_residual.ensures.1 in
    rw (p.1, p.2) (sym (read-refused _ _ (refused_says _ _ c.judge.ensures _ c.in_err-g.was) _ _))

pub look_up-requires : goal.look_up-requires
look_up-requires c = opened (goal.at.look_up-requires c).In_ok-g

pub read_file-requires : goal.read_file-requires
unfolding LooksUp
read_file-requires c =
    let o = opened (goal.at.read_file-requires c).In_ok-g in
    let f = rw c.in_ok-h.was at c.look_up.ensures in
    (o, file-in _ _ o _ _ f.found)

pub returns-in_err-h : goal.returns-in_err-h
unfolding LooksUp
returns-in_err-h c =
    let p = err_from_is_err_and c.from_residual-in_err-h.result c.from_residual-in_err-h.ensures.1 in
    rw (p.1, p.2) (refused-by _ _ _ _ _ (opened (goal.at.returns-in_err-h c).In_ok-g) (rw c.in_err-h.was at c.look_up.ensures))

pub returns : goal.returns
unfolding LooksUp
returns c =
    let f = rw c.in_ok-h.was at c.look_up.ensures in
    c.read_file.ensures ∙ sym (read_found _ _ (opened (goal.at.returns c).In_ok-g) _ _ _ f.named f.found)
