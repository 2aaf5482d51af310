-- What a change of type comes to before it is written, and that an entry which was found lies in the image.
use Rattle.std.specs.Prelude.{ℕ, ◌+◌, ◌*◌, ◌≤◌, ◌≡◌, Bool, length, ℤ, Result, Ok, Err}
use Rattle.std.proofs.Common.{arith, ◌∙◌}
use Rattle.std.proofs.Math.Path.{sym, ap}
use mathlib.Core.List.{List}
use Rattle.std.proofs.Math.Option.{some}
use Rattle.rules.specs.Lists.{first}
use Rattle.rules.specs.Fields.{splice}
use Rattle.rules.specs.Editions.{Edition}
use Rattle.rules.specs.Index.{Entry, items_of, slot_at, slot_bytes, unused_bytes, retyped}
use Rattle.rules.specs.Refusals.{entries}
use Rattle.rules.specs.Refusals.Laws.{judge-opens}
use Rattle.rules.specs.Writing.{Written}
use Rattle.rules.specs.Writing.Laws.{refused_write, wrote, tidy_image}
use Rattle.laws.proofs.Index.Places.{Found, first-split}
use Rattle.laws.proofs.Index.Slots.{slot-at}
use Rattle.laws.proofs.Index.Ends.{ends-good}
use Rattle.laws.proofs.Images.Indexes.{entry-room, entry_whole}
use Rattle.laws.proofs.Images.Tidying.{tidied-length}
use Rattle.editions.specs.View.{edition_view}
use Rattle.units.specs.declared.Offset.{Offset}
use Rattle.geometry.specs.View.{geometry_view}
use Rattle.geometry.specs.declared.Geometry.{Geometry as Held}
use Rattle.slots.specs.declared.Head.{Head}
use Rattle.slots.specs.View.{head_view}
use Rattle.judging.specs.View.{Opened, volume_of, opened-super, opened-sound}
use Rattle.retyping.specs.declared.Retyping.{Retyping}
use Rattle.retyping.specs.declared.Retyping.TheVariants.{Retype, Clear}
use Rattle.refusals.specs.declared.Refusal.{Refusal}
use Rattle.refusals.specs.View.{number_of}

-- the image that the call begins with
abbrev pub tidy_of : List ℕ → Held → List ℕ
tidy_of s g = tidy_image s (volume_of s (geometry_view g))

-- ---- what was planned for a call, with any stamp: its refusal, or the entry that it changes
unfoldable pub RetypePlanned : List ℕ → (ℤ → Written) → Result Retyping Refusal → Type 0
RetypePlanned s call (Err e) = (z : ℤ) → call z ≡ refused_write s (number_of e)
RetypePlanned s call (Ok (Retype g at t)) =
    Opened s g × (at.0 + slot_bytes ≤ length s) × ((z : ℤ) → call z ≡ wrote (retyped (edition_view g.edition) (tidy_of s g) at.0 t z))
RetypePlanned s call (Ok (Clear g at n)) =
    Opened s g × (at.0 + slot_bytes * n ≤ length s) × ((z : ℤ) → call z ≡ wrote (splice (tidy_of s g) at.0 (unused_bytes (edition_view g.edition) n)))

-- the image opens, and what is written lies in it
unfoldable pub Fits : List ℕ → Retyping → Type 0
Fits s (Retype g at t) = Opened s g × (at.0 + slot_bytes ≤ length s)
Fits s (Clear g at n) = Opened s g × (at.0 + slot_bytes * n ≤ length s)

module _ (s : List ℕ) (r : Retyping) (f : Fits s r) where
  pub fits-retype : (g : Held) (at : Offset) (t : ℕ) → r ≡ Retype g at t → Opened s g × (at.0 + slot_bytes ≤ length s)
  unfolding Fits
  fits-retype g at t e = rw e at f

  pub fits-clear : (g : Held) (at : Offset) (n : ℕ) → r ≡ Clear g at n → Opened s g × (at.0 + slot_bytes * n ≤ length s)
  unfolding Fits
  fits-clear g at n e = rw e at f

module _ (s : List ℕ) (call : ℤ → Written) where
  pub planned-fits : (r : Retyping) → RetypePlanned s call (Ok r) → Fits s r
  unfolding RetypePlanned Fits
  planned-fits (Retype g at t) p = (p.0, p.1)
  planned-fits (Clear g at n) p = (p.0, p.1)

  module _ (g : Held) (o : Opened s g) (at : Offset) (k : ℕ) (place : at.0 ≡ slot_at s (geometry_view g) k) where
    -- the place is the same in the tidied image
    place-tidied : slot_at (tidy_of s g) (geometry_view g) k ≡ at.0
    place-tidied =
        omega (
          arith,
          place,
          slot-at s (geometry_view g) k,
          slot-at (tidy_of s g) (geometry_view g) k,
          tidied-length s (volume_of s (geometry_view g)) (judge-opens s (volume_of s (geometry_view g)) o),
        )

    pub planned-retype : (t : ℕ) → slot_at s (geometry_view g) k + slot_bytes ≤ length s
        → ((z : ℤ) → call z ≡ wrote (retyped (edition_view g.edition) (tidy_of s g) (slot_at (tidy_of s g) (geometry_view g) k) t z))
        → RetypePlanned s call (Ok (Retype g at t))
    unfolding RetypePlanned
    planned-retype t room c = (o, rw place room, λ z. rw (← place-tidied) (c z))

    pub planned-clear : (n : ℕ) → slot_at s (geometry_view g) k + slot_bytes * n ≤ length s
        → ((z : ℤ) → call z ≡ wrote (splice (tidy_of s g) (slot_at (tidy_of s g) (geometry_view g) k) (unused_bytes (edition_view g.edition) n)))
        → RetypePlanned s call (Ok (Clear g at n))
    unfolding RetypePlanned
    planned-clear n room c = (o, rw place room, λ z. rw (← place-tidied) (c z))

  module _ (r : Result Retyping Refusal) (p : RetypePlanned s call r) (z : ℤ) where
    pub planned-refused : (x : Refusal) → r ≡ Err x → refused_write s (number_of x) ≡ call z
    unfolding RetypePlanned
    planned-refused x e = sym ((rw e at p) z)

    pub planned-retyped : (g : Held) (at : Offset) (t : ℕ) → r ≡ Ok (Retype g at t) → (x u : List ℕ) → x ≡ tidy_of s g
        → u ≡ retyped (edition_view g.edition) x at.0 t z → wrote u ≡ call z
    unfolding RetypePlanned
    planned-retyped g at t e x u d f = ap wrote (f ∙ ap (λ (y : List ℕ). retyped (edition_view g.edition) y at.0 t z) d) ∙ sym ((rw e at p).2 z)

    pub planned-cleared : (g : Held) (at : Offset) (n : ℕ) → r ≡ Ok (Clear g at n) → (x u : List ℕ) → x ≡ tidy_of s g
        → u ≡ splice x at.0 (unused_bytes (edition_view g.edition) n) → wrote u ≡ call z
    unfolding RetypePlanned
    planned-cleared g at n e x u d f = ap wrote (f ∙ ap (λ (y : List ℕ). splice y at.0 (unused_bytes (edition_view g.edition) n)) d) ∙ sym ((rw e at p).2 z)

-- of the type that a program computed
pub as-kind : (ed : Edition) (s : List ℕ) (call : ℤ → Written) (place t u : ℕ) → u ≡ t → ((z : ℤ) → call z ≡ wrote (retyped ed s place t z))
    → (z : ℤ) → call z ≡ wrote (retyped ed s place u z)
as-kind ed s call place t u e c z = rw e (c z)

-- ---- an entry that was found lies in the image
-- all its slots do
abbrev pub HasRoom : List ℕ → Held → Head → Type 0
HasRoom s g h = (1 ≤ h.slots) × (slot_at s (geometry_view g) h.slot.0 + slot_bytes * h.slots ≤ length s)

module _ (s : List ℕ) (g : Held) (o : Opened s g) (p : Entry → Bool) (h : Head) (f : first p (entries (volume_of s (geometry_view g))) ≡ some (head_view s h)) where
  where_found : Found p (items_of s (geometry_view g)) (head_view s h)
  where_found = first-split p (items_of s (geometry_view g)) (head_view s h) f

  pub found-room : slot_at s (geometry_view g) h.slot.0 + slot_bytes ≤ length s
  unfolding head_view
  found-room = let k = where_found in entry-room s (geometry_view g) (opened-super s g o).good k.pre (head_view s h) k.post k.split

  pub found-whole : 1 ≤ h.slots → HasRoom s g h
  unfolding head_view
  found-whole low =
      let k = where_found in
      (low, entry_whole s (geometry_view g) (opened-super s g o).good k.pre (head_view s h) k.post k.split (ends-good s (geometry_view g) (items_of s (geometry_view g)) (opened-sound s g o)).1)
