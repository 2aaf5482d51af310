-- What a delete comes to before it writes, and what the plain one then leaves.
use Prim.Native.Nat.{ℕ, ◌+◌, ◌-◌, ◌*◌, ◌^◌, ◌≤◌, ◌<◌}
use Rattle.std.specs.Prelude.{◌≡◌, ◌⊎◌, length, replicate, ℤ, Result, Ok, Err}
use Rattle.std.proofs.Common.{sym, ◌∙◌, inl, inr}
use Rattle.std.proofs.Math.Path.{ap}
use mathlib.Core.List.{List, []}
use Rattle.std.proofs.Math.Option.{some}
use native.Mathlib.Omega.{arith}
use Rattle.std.proofs.Math.Nat.{zero-mul, mul-le-mul}
use Rattle.std.proofs.lemmas.List.{length-replicate}
use Rattle.rules.specs.Lists.{padded}
use Rattle.rules.specs.Fields.{splice}
use Rattle.rules.specs.Fields.Laws.{length-splice}
use Rattle.rules.specs.SuperBlock.{Geometry, block_length, put_sizes}
use Rattle.rules.specs.SuperBlock.Laws.{block-low}
use Rattle.rules.specs.Index.{Entry, slot_at, unused_bytes}
use Rattle.rules.specs.Regions.{blocks_of}
use Rattle.rules.specs.Paths.{lookup}
use Rattle.rules.specs.Refusals.{Volume, entries}
use Rattle.rules.specs.Refusals.Laws.{Opens, judge-opens}
use Rattle.rules.specs.Writing.{on_deletable, region_cleared, trimmed_to, without, wiped}
use Rattle.rules.specs.Writing.Laws.{refused_write, wrote}
use Rattle.laws.proofs.Index.Slots.{slot-at}
use Rattle.laws.proofs.Entries.Regions.{Regionless, Within, region-bytes}
use Rattle.laws.proofs.Images.Areas.{within_in}
use Rattle.laws.proofs.Images.Sizes.{sizes-long}
use Rattle.laws.proofs.Images.Live.{held, without-slot}
use Rattle.laws.proofs.Images.Tidying.{tidied-length}
use Rattle.geometry.specs.declared.Geometry.{Geometry as Held}
use Rattle.geometry.specs.View.{geometry_view}
use Rattle.slots.specs.declared.Head.{Head}
use Rattle.slots.specs.View.{head_view, end-near}
use Rattle.refusals.specs.declared.Refusal.{Refusal}
use Rattle.refusals.specs.View.{number_of}
use Rattle.free_runs.specs.declared.Gone.TheVariants.{At as gone_at}
use Rattle.free_runs.specs.View.{is_gone}
use Rattle.judging.specs.View.{Opened, volume_of}
use Rattle.retyping.specs.Planned.{tidy_of, HasRoom}
use Rattle.erasing.specs.Least.{least_sizes, least-index}

-- ---- the region of an entry whose head is held lies in an image of n bytes
pub record RegionHeld (n : ℕ) (g : Held) (h : Head) : Type 0 where
  pub short : n ≤ 16_777_216
  pub field : g.block_field ≤ 5
  pub small : h.end.0 + 1 < 2 ^ 64
  pub ordered : (s : List ℕ) → h.start.0 ≤ (head_view s h).end
  pub inside : (s : List ℕ) → (head_view s h).end * block_length (geometry_view g) ≤ n

-- ---- what was planned, whatever the call writes
abbrev pub Writes : Type 0
Writes = List ℕ → Volume → Entry → List ℕ

pub record DeleteFound (s path : List ℕ) (g : Held) (h : Head) : Type 0 where
  pub opened : Opened s g
  pub room : HasRoom s g h
  pub region : RegionHeld (length s) g h
  pub lives : lookup path (entries (volume_of s (geometry_view g))) ≡ some (head_view s h)
  pub outcome : (write : Writes) → on_deletable s path write ≡ wrote (write (tidy_of s g) (volume_of s (geometry_view g)) (head_view s h))

unfoldable pub DeletePlanned : List ℕ → List ℕ → Result (Held × Head) Refusal → Type 0
DeletePlanned s path (Err e) = (write : Writes) → on_deletable s path write ≡ refused_write s (number_of e)
DeletePlanned s path (Ok p) = DeleteFound s path p.0 p.1

module _ (s path : List ℕ) (r : Result (Held × Head) Refusal) (p : DeletePlanned s path r) where
  pub plan-refused : (x : Refusal) → r ≡ Err x → (write : Writes) → on_deletable s path write ≡ refused_write s (number_of x)
  unfolding DeletePlanned
  plan-refused x e = rw e at p

  pub plan-entry : (g : Held) (h : Head) → r ≡ Ok (g, h) → DeleteFound s path g h
  unfolding DeletePlanned
  plan-entry g h e = rw e at p

-- ---- an entry that was found
module _ (s : List ℕ) (g : Held) (o : Opened s g) (path : List ℕ) (h : Head) (f : lookup path (entries (volume_of s (geometry_view g))) ≡ some (head_view s h)) where
  abbrev v : Volume
  v = volume_of s (geometry_view g)

  opens : Opens s v
  opens = judge-opens s v o

  pub region-held : RegionHeld (length s) g h
  unfolding head_view
  region-held = by (held s v path opens (head_view s h) f)
    where
      by : Regionless (head_view s h) ⊎ Within (geometry_view g) (head_view s h) → RegionHeld (length s) g h
      by (inl r) = record {
        short = opens.length_high;
        field = opens.geometry-good.field-high;
        small = omega (arith, end-near s h, r.end);
        ordered = λ t. omega (arith, r.start);
        inside = λ t. omega (arith, ap (λ (n : ℕ). n * block_length (geometry_view g)) r.end ∙ zero-mul (block_length (geometry_view g)));
      }
      by (inr w) =
          let i = within_in (length s) (geometry_view g) (head_view s h) opens.geometry-good w in
          let few : (head_view s h).end * 256 ≤ (head_view s h).end * block_length (geometry_view g) = mul-le-mul (omega arith) (block-low (length s) (geometry_view g) opens.geometry-good) in
          record {
            short = opens.length_high;
            field = opens.geometry-good.field-high;
            small = omega (arith, end-near s h, few, i.high, opens.length_high);
            ordered = λ t. omega (arith, w.some);
            inside = λ t. omega (arith, i.high);
          }

-- ---- its blocks, by the block length and the end that were found
module _ (n : ℕ) (g : Held) (h : Head) (r : RegionHeld n g h) (s : List ℕ) (b past : ℕ) (is : b ≡ block_length (geometry_view g)) (end : past ≡ (head_view s h).end) where
  pub blocks-in : (h.start.0 ≤ past) × (past * b ≤ n)
  blocks-in = rw (is, end) (r.ordered s, r.inside s)

  pub blocks-cleared : (t u : List ℕ) → u ≡ splice t (h.start.0 * b) (padded [] ((past - h.start.0) * b)) → u ≡ region_cleared t (geometry_view g) (head_view s h)
  unfolding region_cleared padded blocks_of head_view
  blocks-cleared t u put =
      let m : ℕ = (past - h.start.0) * b in
      let z : m - 0 ≡ m = omega arith in
      put ∙ rw (z, is, end)

-- ---- what the plain delete leaves, by the place of the run's first slot
abbrev pub wiped_at : List ℕ → Geometry → Geometry → Entry → ℕ → List ℕ
wiped_at s g k e at = splice (put_sizes (region_cleared s g e) k) at (unused_bytes k.edition e.slots)

cleared-length : (n : ℕ) (g : Held) (h : Head) → RegionHeld n g h → (s t : List ℕ) → length t ≡ n → length (region_cleared t (geometry_view g) (head_view s h)) ≡ n
unfolding region_cleared head_view
cleared-length n g h r s t l =
    let b : ℕ = block_length (geometry_view g) in
    let e : Entry = head_view s h in
    let full : length (replicate {A = ℕ} (blocks_of e * b) 0) ≡ blocks_of e * b = length-replicate (blocks_of e * b) 0 in
    length-splice t (e.start * b) (replicate (blocks_of e * b) 0) (omega (arith, l, r.inside s, region-bytes e b (r.ordered s), full)) ∙ l

-- in the tidied image, too
pub tidied-held : (s : List ℕ) (g : Held) → Opened s g → (h : Head) → RegionHeld (length s) g h → (x : List ℕ) → x ≡ tidy_of s g → (length x ≡ length s) × RegionHeld (length x) g h
tidied-held s g o h r x is =
    let l : length x ≡ length s = ap length is ∙ tidied-length s (volume_of s (geometry_view g)) (judge-opens s (volume_of s (geometry_view g)) o) in
    (l, rw l r)

module _ (s : List ℕ) (g : Held) (o : Opened s g) (path : List ℕ) (h : Head) (f : lookup path (entries (volume_of s (geometry_view g))) ≡ some (head_view s h))
    (r : RegionHeld (length s) g h) (z : ℤ) where
  abbrev e : Entry
  e = head_view s h

  abbrev t : List ℕ
  t = tidy_of s g

  abbrev k : Geometry
  k = trimmed_to (without path (entries (volume_of s (geometry_view g)))) (geometry_view g) z

  sizes : least_sizes (gone_at h.slot) s (geometry_view g) z ≡ k
  unfolding least_sizes is_gone head_view
  sizes = ap (λ (es : List Entry). trimmed_to es (geometry_view g) z) (without-slot s (volume_of s (geometry_view g)) path (judge-opens s (volume_of s (geometry_view g)) o) e f)

  sized : length (put_sizes (region_cleared t (geometry_view g) e) k) ≡ length s
  sized =
      let i = judge-opens s (volume_of s (geometry_view g)) o in
      let l = cleared-length (length s) g h r s t (tidied-length s (volume_of s (geometry_view g)) i) in
      sizes-long (region_cleared t (geometry_view g) e) (geometry_view g) k (rw l i.geometry-good) ∙ l

  pub wiped-written : (u : List ℕ) (least : Geometry) (at : ℕ) → least ≡ least_sizes (gone_at h.slot) s (geometry_view g) z → at ≡ slot_at s (geometry_view g) h.slot.0
      → (x : List ℕ) → x ≡ t → u ≡ wiped_at x (geometry_view g) least e at → u ≡ wiped path z t (volume_of s (geometry_view g)) e
  unfolding wiped head_view
  wiped-written u least at is place x tidy put =
      let index = least-index (gone_at h.slot) s (geometry_view g) z k (sym sizes) in
      let image : List ℕ = put_sizes (region_cleared t (geometry_view g) e) k in
      let there : at ≡ slot_at image k h.slot.0 = omega (arith, place, slot-at s (geometry_view g) h.slot.0, slot-at image k h.slot.0, sized, index.1) in
      put ∙ rw (is ∙ sizes, tidy, there)
