use mathlib.Core.Path.{◌≡◌, sym, ◌∙◌}
use mathlib.Core.Bool.{true}
use Rattle.paths.specs.View.{sought_kind}
use Rattle.paths.specs.Entries.{name-reaches, sought-run, tried-not, tried}
use Rattle.paths.proofs.passes.Goals as goal
use Rattle.paths.proofs.passes.Goals.{Else-not-is_sought}

pub returns-then-not-is_sought : goal.returns-then-not-is_sought
returns-then-not-is_sought c =
    let t = tried-not c.args.img.now c.args.path.now c.args.e c.args.what (sym c.is_sought.ensures ∙ c.if-not-is_sought.true) in
    record { same_value = c.apart.ensures.0 ∙ t.0; counted = c.apart.ensures.1 ∙ t.1 }

sought : (c : Else-not-is_sought) → let a = c.args in sought_kind a.what a.e.kind ≡ true
sought c = sym c.is_sought.ensures ∙ c.if-not-is_sought.false

pub compare_name-requires : goal.compare_name-requires
compare_name-requires c = (c.requires.1 (sought c), sought-run _ _ _ c.requires.0 (sought c))

pub returns : goal.returns
returns c =
    let r = c.compare_name.ensures in
    let t = tried c.args.img.now c.args.path.now c.args.e c.args.what _ _ (sought (goal.at.returns c).Else-not-is_sought) (r.same_value ∙ name-reaches _ _ _ (c.requires.1 (sought (goal.at.returns c).Else-not-is_sought)) (sought-run _ _ _ c.requires.0 (sought (goal.at.returns c).Else-not-is_sought)) _ c.requires.0.end) r.counted in
    record { same_value = t.0; counted = t.1 }
