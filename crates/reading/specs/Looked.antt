-- What a look-up by an argument comes to, and bytes put at the start of a lent output.
use Rattle.std.specs.Prelude.{ℕ, ◌≤◌, ◌<◌, ◌≡◌, true, false, List, ◌⊎◌, length, Option, Some, None, Result, Ok, Err}
use Rattle.std.specs.Option.{ok_or}
use Rattle.std.proofs.Common.{refl, inl, inr}
use Rattle.std.proofs.Math.Option.{none, some}
use Rattle.rules.specs.Fields.{splice}
use Rattle.rules.specs.Names.{path_good}
use Rattle.rules.specs.Paths.{lookup}
use Rattle.rules.specs.Refusals.{Volume, entries}
use Rattle.refusals.specs.declared.Refusal.{Refusal}
use Rattle.refusals.specs.declared.Refusal.TheVariants.{Name, Absent}
use Rattle.geometry.specs.View.{geometry_view}
use Rattle.geometry.specs.declared.Geometry.{Geometry as Held}
use Rattle.slots.specs.declared.Head.{Head}
use Rattle.slots.specs.View.{head_view}
use Rattle.paths.specs.View.{Searched, searched-nothing, searched-entry, FoundOf, found_of}
use Rattle.judging.specs.View.{volume_of}

-- the path is allowed and live, of an entry of the volume's edition; or it is not allowed, or not live
pub record Live (s : List ℕ) (g : Held) (path : List ℕ) (h : Head) : Type 0 where
  pub named : path_good path ≡ true
  pub found : lookup path (entries (volume_of s (geometry_view g))) ≡ some (head_view s h)
  pub own : h.edition ≡ g.edition

pub record Missing (s : List ℕ) (g : Held) (path : List ℕ) (e : Refusal) : Type 0 where
  pub why : e ≡ Absent
  pub named : path_good path ≡ true
  pub none_found : lookup path (entries (volume_of s (geometry_view g))) ≡ none

pub record Unnamed (path : List ℕ) (e : Refusal) : Type 0 where
  pub why : e ≡ Name
  pub unnamed : path_good path ≡ false

unfoldable pub LooksUp : List ℕ → Held → List ℕ → Result Head Refusal → Type 0
LooksUp s g path (Ok h) = Live s g path h
LooksUp s g path (Err e) = Unnamed path e ⊎ Missing s g path e

-- what was searched, as an answer
pub looked-up : (s : List ℕ) (g : Held) (path : List ℕ) → path_good path ≡ true → (o : Option Head) → Searched s (lookup path (entries (volume_of s (geometry_view g)))) o → FoundOf g.edition o
    → (r : Result Head Refusal) → r ≡ ok_or o Absent → LooksUp s g path r
unfolding LooksUp
looked-up s g path named None told own r e = rw e (inr (record { why = refl; named = named; none_found = searched-nothing s _ None told refl }))
looked-up s g path named (Some h) told own r e = rw e (record { named = named; found = (searched-entry s _ (Some h) told h refl).0; own = found_of g.edition (Some h) own h refl })

unfoldable pub PutFront : List ℕ → List ℕ → List ℕ → Option ℕ → Type 0
PutFront out src after (Some n) = (n ≡ length src) × (length src ≤ length out) × (after ≡ splice out 0 src)
PutFront out src after None = (length out < length src) × (after ≡ out)
