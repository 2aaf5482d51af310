-- The code's judgement in the rules' words.
use Rattle.std.specs.Prelude.{ℕ, ◌≤◌, ◌≡◌, List, length, Option as Maybe, Some, None, Result, Ok, Err}
use Rattle.std.proofs.Common.{sym, ap, ◌∙◌}
use Rattle.std.proofs.Math.Option.{Option, none, some}
use Rattle.rules.specs.Editions.{Edition}
use Rattle.rules.specs.SuperBlock.{Geometry}
use Rattle.rules.specs.SuperBlock.Laws.{GoodGeometry}
use Rattle.rules.specs.Refusals.{Verdict, refused, accepted, judge_geometry}
use Rattle.rules.specs.Refusals.Laws.{judge-super}
use Rattle.editions.specs.View.{edition_view}
use Rattle.geometry.specs.View.{geometry_view}
use Rattle.geometry.specs.declared.Geometry.{Geometry as Held}
use Rattle.editions.specs.declared.Edition.{Edition as HeldEdition}
use Rattle.refusals.specs.declared.Refusal.{Refusal}
use Rattle.refusals.specs.View.{number_of}

abbrev pub super_view : Result Held Refusal → Verdict Geometry
super_view (Err e) = refused (number_of e)
super_view (Ok g) = accepted (geometry_view g)

abbrev pub magic_view : Maybe HeldEdition → Option Edition
magic_view None = none
magic_view (Some ed) = some (edition_view ed)

-- what is known of an image whose super-block was found good, with the geometry g
pub record Judged (s : List ℕ) (g : Held) : Type 0 where
  pub short : length s ≤ 16_777_216
  pub good : GoodGeometry (length s) (geometry_view g)

-- the refusals 1 to 5 do not hold, and g is the geometry
abbrev pub SuperGood : List ℕ → Held → Type 0
SuperGood s g = judge_geometry s ≡ accepted (geometry_view g)

pub super-good : (s : List ℕ) (r : Result Held Refusal) (g : Held) → super_view r ≡ judge_geometry s → r ≡ Ok g → SuperGood s g
super-good s r g e i = sym e ∙ ap super_view i

pub good-judged : (s : List ℕ) (g : Held) → SuperGood s g → Judged s g
good-judged s g e = let o = judge-super s (geometry_view g) e in record { short = o.length_high; good = o.geometry-good }
