use mathlib.Core.Path.{◌≡◌, sym, ap, ◌∙◌}
use native.Mathlib.Omega.{arith}
use Rattle.std.specs.Prelude.{length, Some, None}
use Rattle.std.proofs.lemmas.Result.{err_from_is_err_and}
use Rattle.rules.specs.Reading.Laws.{open-refused, open-short, open_done}
use Rattle.refusals.specs.declared.Refusal.TheVariants.{TooShort}
use Rattle.judging.specs.View.{Opened, opened-super, opened-long, refused_says, good-says}
use Rattle.contracts.specs.Promises.Laws.{volume-outcome}
use Rattle.reading.specs.Looked.{PutFront}
use Rattle.reading.proofs.open_volume.Goals as goal
use Rattle.reading.proofs.open_volume.Goals.{In_ok-g, In_ok-n}

opened : (c : In_ok-g) → Opened c.args.img.now c.in_ok-g.g
opened c = good-says _ _ c.judge.ensures _ c.in_ok-g.was

met : (c : In_ok-n) → c.put_front.result ≡ Some c.in_ok-n.n
met c = grind arith

pub returns-in_err-g : goal.returns-in_err-g
returns-in_err-g c =
    let p = err_from_is_err_and c.from_residual.result c.from_residual.ensures.1 in
    rw (p.1, p.2) (sym (open-refused _ _ (refused_says _ _ c.judge.ensures _ c.in_err-g.was) _))

pub volume_name-name-requires : goal.volume_name-name-requires
volume_name-name-requires c = omega (arith, opened-long _ _ (opened (goal.at.volume_name-name-requires c).In_ok-g))

pub returns-in_err-n : goal.returns-in_err-n
unfolding PutFront
returns-in_err-n c =
    let gone : c.put_front.result ≡ None = grind arith in
    let told : c.in_err-n.field-0.0 ≡ TooShort = grind arith in
    let p = err_from_is_err_and c.from_residual-in_err-n.result c.from_residual-in_err-n.ensures.1 in
    let f = rw gone at c.put_front.ensures in
    rw (p.1, p.2, told, f.1) (sym (open-short _ _ (opened (goal.at.returns-in_err-n c).In_ok-g) _ (rw (← c.volume_name-name.ensures) f.0)))

pub volume_numbers-requires : goal.volume_numbers-requires
unfolding PutFront
volume_numbers-requires c =
    let o = opened (goal.at.volume_numbers-requires c).In_ok-g in
    let f = rw (met (goal.at.volume_numbers-requires c).In_ok-n) at c.put_front.ensures in
    (omega (arith, opened-long _ _ o), (opened-super _ _ o).good.field-high, f.0 ∙ ap length c.volume_name-name.ensures)

pub returns : goal.returns
unfolding PutFront
returns c =
    let f = rw (met (goal.at.returns c).In_ok-n) at c.put_front.ensures in
    volume-outcome _ _ _ _ c.volume_numbers.ensures.0 c.volume_numbers.ensures.1
    ∙ rw (f.2, c.volume_name-name.ensures) (sym (open_done _ _ (opened (goal.at.returns c).In_ok-g) _ (rw (← c.volume_name-name.ensures) f.1)))
