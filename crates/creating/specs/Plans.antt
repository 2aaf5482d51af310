-- What a plan says, by what it is.
use Rattle.std.specs.Prelude.{ℕ, ◌≡◌, true, List, length, ℤ, Result, Ok, Err}
use Rattle.std.proofs.Common.{sym, ap, ◌∙◌}
use Rattle.rules.specs.Index.{items_of, index_sound}
use Rattle.rules.specs.Refusals.{Volume}
use Rattle.rules.specs.Refusals.Laws.{judge-opens}
use Rattle.rules.specs.Writing.{New, created, create_of}
use Rattle.rules.specs.Writing.Laws.{refused_write, wrote, tidy_image}
use Rattle.laws.proofs.Images.Tidying.{tidied-length}
use Rattle.geometry.specs.View.{geometry_view}
use Rattle.super_block.specs.View.{Judged}
use Rattle.judging.specs.View.{Opened, volume_of, opened-super, opened-sound}
use Rattle.placing.specs.Site.{site_view, NewIn}
use Rattle.placing.specs.declared.Site.{Site}
use Rattle.planning.specs.Planned.{Planned}
use Rattle.refusals.specs.declared.Refusal.{Refusal}
use Rattle.refusals.specs.View.{number_of}

module _ (s : List ℕ) (new : New) (path : List ℕ) (stamp : ℤ) (r : Result Site Refusal) (told : Planned s new path stamp r) where
  pub plan-refused : (e : Refusal) → r ≡ Err e → create_of s new path stamp ≡ refused_write s (number_of e)
  unfolding Planned
  plan-refused e i = rw i at told

  module _ (p : Site) (e : r ≡ Ok p) where
    abbrev v : Volume
    v = volume_of s (geometry_view p.old)

    pub plan-at : (create_of s new path stamp ≡ wrote (created (tidy_image s v) (site_view p) new path stamp)) × Opened s p.old × NewIn (length s) new path (site_view p)
    unfolding Planned
    plan-at = rw e at told

    -- the image may be tidied
    pub plan-sound : Judged s p.old × (index_sound s (geometry_view p.old) (items_of s (geometry_view p.old)) ≡ true)
    plan-sound = (opened-super s p.old plan-at.1, opened-sound s p.old plan-at.1)

    -- and then holds what is new as it did before
    pub plan-fits : (t : List ℕ) → t ≡ tidy_image s v → NewIn (length t) new path (site_view p)
    plan-fits t is = rw (is, tidied-length s v (judge-opens s v plan-at.1)) plan-at.2

    pub plan-done : (t u : List ℕ) → t ≡ tidy_image s v → u ≡ created t (site_view p) new path stamp → wrote u ≡ create_of s new path stamp
    plan-done t u is made = ap wrote (made ∙ rw is) ∙ sym plan-at.0
