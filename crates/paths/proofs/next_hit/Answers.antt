use native.Mathlib.Omega.{arith}
use Rattle.index.specs.Steps.{no-more}
use Rattle.paths.specs.Searching.{Strikes, goes_on, goes_at, ends_on, going-first, going_end}
use Rattle.paths.proofs.next_hit.Goals as goal
use Rattle.paths.proofs.next_hit.Goals.{In-At}

strikes : (c : In-At) → let a = c.args in
    Strikes a.img.now a.what a.path.now a.from 0 c.in-At.next.here c.in-At.next.rest c.in-At.looked
strikes c = goes_at _ _ _ _ _ _ c.pass_over.ensures.goes _ _ c.in-At.is

pub head_at-h-requires : goal.head_at-h-requires
head_at-h-requires c = let e = (strikes (goal.at.head_at-h-requires c).In-At).spot in omega (arith, e.fits, e.low)

pub returns-in-On : goal.returns-in-On
returns-in-On c =
    let over = goes_on _ _ _ _ _ _ c.pass_over.ensures.goes _ _ c.in-On.is in
    let told = going_end _ _ _ _ _ _ (over.going _ (going-first _ _ _ _ c.requires.0)) (no-more c.args.img.now c.in-On.field-0 (ends_on _ c.pass_over.ensures.ended _ _ c.in-On.is)) in
    record { hits = told.0; counted = told.1.0; edition = told.1.1 }

pub returns-in-At : goal.returns-in-At
returns-in-At c =
    let told = (strikes (goal.at.returns-in-At c).In-At).comes _ (going-first _ _ _ _ c.requires.0) _ c.head_at-h.ensures.result_value c.head_at-h.ensures.place.0 c.head_at-h.ensures.place.1 in
    record { hits = told.0; counted = told.1.0; edition = told.1.1 }
