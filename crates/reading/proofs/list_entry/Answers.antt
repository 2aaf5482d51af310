use mathlib.Core.Path.{◌≡◌, sym, ap, ◌∙◌}
use native.Mathlib.Omega.{arith}
use Rattle.std.specs.Prelude.{Some, None}
use Rattle.std.proofs.lemmas.Result.{err_from_is_err_and}
use Rattle.refusals.specs.declared.Refusal.TheVariants.{TooShort}
use Rattle.slots.specs.View.{head_view}
use Rattle.contracts.specs.Promises.Laws.{listed-outcome}
use Rattle.rules.specs.Reading.Laws.{path-short, path-done}
use Rattle.reading.specs.Looked.{PutFront}
use Rattle.reading.proofs.list_entry.Goals as goal
use Rattle.reading.proofs.list_entry.Goals.{In_ok-n}

met : (c : In_ok-n) → c.put_front.result ≡ Some c.in_ok-n.n
met c = grind arith

pub returns-in_err-n : goal.returns-in_err-n
unfolding PutFront
returns-in_err-n c =
    let a = c.args in
    let gone : c.put_front.result ≡ None = grind arith in
    let told : c.in_err-n.field-0.0 ≡ TooShort = grind arith in
    let p = err_from_is_err_and c.from_residual.result c.from_residual.ensures.1 in
    let f = rw gone at c.put_front.ensures in
    rw (p.1, p.2, told, f.1) (sym (path-short _ _ (head_view a.img.now a.h) _ (rw (← c.path_of-path.ensures) f.0)))

pub returns : goal.returns
unfolding PutFront
returns c =
    let a = c.args in
    let s = a.img.now in
    let f = rw (met (goal.at.returns c).In_ok-n) at c.put_front.ensures in
    listed-outcome _ _ _ _ c.listed_numbers.ensures.0 (c.listed_numbers.ensures.1 s)
    ∙ rw (f.0, f.2, c.path_of-path.ensures) (sym (path-done _ s (head_view s a.h) _ (rw (← c.path_of-path.ensures) f.1)))
