-- What the parts of a create leave, put together.
use Rattle.std.specs.Prelude.{ℕ, ◌+◌, ◌-◌, ◌*◌, ◌≤◌, ◌≡◌, List, length}
use Rattle.std.proofs.Common.{ap, ap₂, ◌∙◌, arith}
use Rattle.rules.specs.Lists.{padded}
use Rattle.rules.specs.Fields.{splice, signed_of}
use Rattle.rules.specs.Editions.{stored_end}
use Rattle.rules.specs.Editions.Laws.{past-stored}
use Rattle.rules.specs.SuperBlock.{block_length, put_sizes}
use Rattle.rules.specs.Index.{name_at, slot_bytes, run_bytes}
use Rattle.rules.specs.Index.Laws.{continuing-room}
use Rattle.rules.specs.Writing.{Site as Placing, New, kind_of, bytes_of, new_entry, put_marker, created}
use Rattle.laws.proofs.Index.Slots.{slot-at}
use Rattle.editions.specs.View.{edition_view}
use Rattle.geometry.specs.View.{geometry_view}
use Rattle.units.specs.declared.Block.{Block}
use Rattle.units.specs.declared.Offset.{Offset}
use Rattle.slots.specs.declared.Head.{Head}
use Rattle.runs.specs.Written.{run_entry}
use Rattle.placing.specs.declared.Site.{Site}
use Rattle.placing.specs.Site.{site_view, BlocksIn, NewIn}

-- ---- the blocks
abbrev pub blocks_image : List ℕ → Placing → List ℕ → List ℕ
blocks_image s p bytes = splice s (p.start * block_length p.new) (padded bytes ((p.end - p.start) * block_length p.new))

-- by the block length that was found
module _ (p : Placing) (b : ℕ) (is : b ≡ block_length p.new) where
  pub blocks-fit : (n bytes : ℕ) → BlocksIn n p bytes → (p.start ≤ p.end) × (p.end * b ≤ n) × (bytes ≤ (p.end - p.start) * b)
  blocks-fit n bytes i = rw is (i.ordered, i.region, i.holds)

  pub blocks-put : (s t bytes : List ℕ) → t ≡ splice s (p.start * b) (padded bytes ((p.end - p.start) * b)) → t ≡ blocks_image s p bytes
  blocks-put s t bytes put = put ∙ rw is

-- ---- all of it
-- the head of the run, at a place and with its end
abbrev pub head_at : Offset → Block → Site → ℕ → ℕ → ℕ → Head
head_at at end p kind bytes stamp = record {
  edition = p.new.edition;
  at = at;
  kind = kind;
  slot = p.slot;
  slots = p.slots;
  stamp = stamp;
  start = p.start;
  end = end;
  length = bytes;
}

-- of what is new, in an image of n bytes, with its end as it is stored
abbrev pub site_head : ℕ → Site → New → ℕ → Head
site_head n p new stamp =
    head_at (record { 0 = n - p.new.index_bytes + slot_bytes * p.slot.0 }) (record { 0 = stored_end (edition_view p.new.edition) p.end.0 }) p (kind_of new) (length (bytes_of new)) stamp

pub head-is : (n : ℕ) (p : Site) (new : New) (stamp kind index : ℕ) (bytes : List ℕ) (at : Offset) (end : Block) → kind ≡ kind_of new → bytes ≡ bytes_of new
    → index ≡ n - p.new.index_bytes → at.0 ≡ index + slot_bytes * p.slot.0 → end.0 ≡ stored_end (edition_view p.new.edition) p.end.0
    → head_at at end p kind (length bytes) stamp ≡ site_head n p new stamp
head-is n p new stamp kind index bytes at end d b e f g = rw (d, b)
    (ap₂ (λ (k m : ℕ). head_at (record { 0 = k }) (record { 0 = m }) p (kind_of new) (length (bytes_of new)) stamp) (f ∙ ap (λ (k : ℕ). k + slot_bytes * p.slot.0) e) g)

module _ (n : ℕ) (path : List ℕ) (p : Site) (new : New) (i : NewIn n new path (site_view p)) (stamp : ℕ) (h : Head) (is : h ≡ site_head n p new stamp) where
  pub head-fits : (h.at.0 + slot_bytes * h.slots ≤ n) × (1 ≤ h.slots) × (h.slots ≤ 256) × (name_at (edition_view h.edition) h.kind + length path ≤ slot_bytes * h.slots)
  head-fits =
      rw is (
        omega (arith, i.run, i.index_fits),
        omega (arith, i.slots),
        omega (arith, i.few),
        omega (arith, i.slots, (continuing-room (edition_view p.new.edition) (kind_of new) (length path)).1),
      )

  -- part after part
  pub site-put : (s : List ℕ) → length s ≡ n → (s₁ s₂ s₃ s₄ bytes : List ℕ)
      → s₁ ≡ put_sizes s (geometry_view p.new)
      → s₂ ≡ put_marker s₁ (geometry_view p.old) (geometry_view p.new)
      → s₃ ≡ splice s₂ h.at.0 (run_bytes (edition_view h.edition) (run_entry h path))
      → bytes ≡ bytes_of new
      → s₄ ≡ blocks_image s₃ (site_view p) bytes
      → s₄ ≡ created s (site_view p) new path (signed_of stamp)
  unfolding created new_entry
  site-put s long s₁ s₂ s₃ s₄ bytes e₁ e₂ e₃ b e₄ = rw (e₄, b, e₃, e₂, e₁, is, slot-at, long, past-stored (edition_view p.new.edition) p.end.0 i.past)
