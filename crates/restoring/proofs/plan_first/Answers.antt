use mathlib.Core.Path.{◌≡◌, sym, ◌∙◌}
use mathlib.Core.Bool.{true, false}
use Rattle.rules.specs.Names.{leading}
use Rattle.rules.specs.Writing.{nearest_live}
use Rattle.index.specs.Steps.{entries_from}
use Rattle.std.specs.Prelude.{is_some as is_found}
use Rattle.retyping.specs.Planned.{as-kind, found-room}
use Rattle.restoring.specs.Met.{met-walks, met-first, met-live, met-orphan, met-several, met-alone}
use Rattle.restoring.proofs.plan_first.Goals as goal
use Rattle.restoring.proofs.plan_first.Goals.{Else-is_some, Else-not-nearest_live}

-- what each test that was passed says
free : (c : Else-is_some) → is_found c.lookup.result ≡ false
free c = sym c.is_some.ensures ∙ c.if-is_some.false

near : (c : Else-not-nearest_live) → nearest_live (entries_from c.args.img.now c.args.from) (leading c.args.path.now) ≡ true
near c = sym c.nearest_live.ensures ∙ c.if-not-nearest_live.false

pub lookup-requires : goal.lookup-requires
lookup-requires c = let p = c.requires in (met-walks _ _ _ _ _ _ p.0, p.1)

pub returns-then-is_some : goal.returns-then-is_some
returns-then-is_some c = met-live _ _ _ _ _ _ c.requires.0 _ c.lookup.ensures (sym c.is_some.ensures ∙ c.if-is_some.true)

pub nearest_live-requires : goal.nearest_live-requires
nearest_live-requires c = let p = c.requires in (met-walks _ _ _ _ _ _ p.0, p.1)

pub returns-then-not-nearest_live : goal.returns-then-not-nearest_live
returns-then-not-nearest_live c =
    met-orphan _ _ _ _ _ _ c.requires.0 _ c.lookup.ensures (free (goal.at.returns-then-not-nearest_live c).Else-is_some) (sym c.nearest_live.ensures ∙ c.if-not-nearest_live.true)

pub any_deleted-requires : goal.any_deleted-requires
any_deleted-requires c = let p = c.requires in (p.0.hit.walks, p.2)

pub returns-then-any_deleted : goal.returns-then-any_deleted
returns-then-any_deleted c =
    met-several _ _ _ _ _ _ c.requires.0 _ c.lookup.ensures (free (goal.at.returns-then-any_deleted c).Else-is_some) (near (goal.at.returns-then-any_deleted c).Else-not-nearest_live) (sym c.any_deleted.ensures ∙ c.if-any_deleted.true)

pub at_slot-requires : goal.at_slot-requires
at_slot-requires c =
    let m = c.requires.0 in
    (m.opened, found-room _ _ m.opened _ _ (met-first _ _ _ _ _ _ m))

pub returns : goal.returns
returns c =
    c.at_slot.ensures _
    (as-kind _ _ _ _ _ _ c.live_kind.ensures
    (met-alone _ _ _ _ _ _ c.requires.0 _ c.lookup.ensures (free (goal.at.returns c).Else-is_some) (near (goal.at.returns c).Else-not-nearest_live) (sym c.any_deleted.ensures ∙ c.if-any_deleted.false)))
