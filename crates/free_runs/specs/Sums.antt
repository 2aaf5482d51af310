-- Blocks held and the least end of the data area, one entry at a time, and that no sum of blocks passes 64 bits.
use Rattle.std.specs.Prelude.{ℕ, ◌+◌, ◌-◌, ◌*◌, ◌^◌, ◌≤◌, ◌<◌, max, ◌≡◌, refl, Bool, true, false, not, List, [], ◌∷◌, length, drop}
use Rattle.std.proofs.Common.{arith}
use Rattle.rules.specs.Lists.{pick, only, keep_if, sum, largest, All}
use Rattle.rules.specs.Index.{Entry, file_type}
use Rattle.rules.specs.Index.Walk.{walk_all, pick-both}
use Rattle.rules.specs.Regions.{blocks_of, held_blocks}
use Rattle.rules.specs.Writing.{least_end}
use Rattle.editions.specs.View.{edition_view}
use Rattle.slots.specs.declared.Head.{Head}
use Rattle.slots.specs.View.{head_view, end-near}
use Rattle.index.specs.declared.Cursor.{Cursor}
use Rattle.index.specs.Steps.{Walks, entries_from}
use Rattle.laws.proofs.Index.Entries.{few-entries}
use Rattle.ordering.specs.Regions.{Small}
use Rattle.regions.specs.Gathering.{small-end}

-- what one entry adds to the blocks held
unfoldable pub file_blocks : Entry → ℕ
file_blocks e = pick (file_type e.kind) (blocks_of e) 0

pub held-end : (es : List Entry) → es ≡ [] → held_blocks es ≡ 0
unfolding held_blocks only sum
held-end es h = rw h

sum-keep : (f : Entry → ℕ) (t : Bool) (x : Entry) (xs : List Entry) → sum f (keep_if t x xs) ≡ pick t (f x) 0 + sum f xs
unfolding sum keep_if pick
sum-keep f true x xs = refl
sum-keep f false x xs = omega arith

pub held_next : (es : List Entry) (x : Entry) (xs : List Entry) → es ≡ x ∷ xs → held_blocks es ≡ file_blocks x + held_blocks xs
unfolding held_blocks file_blocks only
held_next es x xs h = rw h (sum-keep blocks_of (file_type x.kind) x (only (λ e. file_type e.kind) xs))

-- what one entry adds to the least end, where those that pass go
unfoldable pub kept_end : (Entry → Bool) → Entry → ℕ
kept_end p e = pick (p e) 0 e.end

largest-keep : (f : Entry → ℕ) (t : Bool) (x : Entry) (xs : List Entry) → largest f (keep_if (not t) x xs) ≡ max (pick t 0 (f x)) (largest f xs)
unfolding largest keep_if pick
largest-keep f true x xs = omega arith
largest-keep f false x xs = refl

module _ (p : Entry → Bool) where
  abbrev stay : List Entry → List Entry
  stay es = only (λ e. not (p e)) es

  pub least-end : (es : List Entry) → es ≡ [] → least_end (stay es) ≡ 0
  unfolding least_end only largest
  least-end es h = rw h

  pub least-next : (es : List Entry) (x : Entry) (xs : List Entry) → es ≡ x ∷ xs → least_end (stay es) ≡ max (kept_end p x) (least_end (stay xs))
  unfolding least_end kept_end only
  least-next es x xs h = rw h (largest-keep (λ e. e.end) (p x) x (stay xs))

-- ---- the ends of small regions fit 64 bits, and so do the blocks held
pub small-stored : (s : List ℕ) (h : Head) → Small (head_view s h) → h.end.0 + 1 < 2 ^ 64
small-stored s h small = omega (arith, small-end (head_view s h) small, end-near s h)

-- of the first entry, and of those behind it
pub small-next : (es : List Entry) (x : Entry) (xs : List Entry) → es ≡ x ∷ xs → All Small es → Small x × All Small xs
small-next es x xs e h = rw e at h

blocks-most : (e : Entry) → Small e → file_blocks e ≤ 65_536
unfolding file_blocks blocks_of
blocks-most e h = pick-both (λ (n : ℕ). n ≤ 65_536) (file_type e.kind) (e.end - e.start) 0 (omega (arith, small-end e h)) (omega arith)

held-most : (es : List Entry) → All Small es → held_blocks es ≤ 65_536 * length es
held-most [] h = omega (arith, held-end [] refl)
held-most (e ∷ es) h = omega (arith, held_next (e ∷ es) e es refl, blocks-most e h.0, held-most es h.1)

pub held_fits : (s : List ℕ) (c : Cursor) → Walks s c → All Small (entries_from s c) → held_blocks (entries_from s c) < 2 ^ 64
unfolding walk_all
held_fits s c w h =
    omega (
      arith,
      held-most (entries_from s c) h,
      few-entries (edition_view c.edition) c.left c.left c.slot.0 (drop c.at.0 s),
      w.inside.numbers,
    )
