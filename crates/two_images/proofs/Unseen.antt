-- What the claim about two images means: bytes that are no field of the super-block, in no live file and not in the index area may be
-- anything. So may the boot code, the reserved area, what lies behind the data area, and the blocks that no live file holds, those of deleted
-- files among them. Assumes nothing.
use Prim.Native.Nat.{ℕ, ◌+◌, ◌-◌, ◌*◌, ◌≤◌, ◌<◌}
use mathlib.Core.Path.{◌≡◌, refl, sym, ap, ◌∙◌}
use mathlib.Core.Bool.{Bool, true, false, ◌||◌}
use mathlib.Core.List.{List, ◌∷◌, ◌++◌}
use mathlib.Core.Logic.{◌⊎◌, inl, inr, ⊎_elim}
use native.Mathlib.Omega.{arith}
use native.Mathlib.Nat.{mul-le-mul_right, zero-mul}
use lib.ListN.{length, take, drop, length-drop}
use lib.Seq.{ext_get_or, get_or-take, get_or-drop}
use lib.Dec.{leb}
use borrow.Author.Tests.{leb-true, leb-false}
use Rattle.rules.specs.Lists.{part, only, All}
use Rattle.rules.specs.Lists.Laws.{and-true, length_part}
use Rattle.rules.specs.Fields.{byte_at}
use Rattle.rules.specs.Editions.{super_block_at}
use Rattle.rules.specs.Editions.Laws.{super-bounds}
use Rattle.rules.specs.SuperBlock.{Geometry, block_length, data_end}
use Rattle.rules.specs.SuperBlock.Laws.{areas-fit}
use Rattle.rules.specs.Index.{Entry, file_type, live_type, type_deleted_file}
use Rattle.rules.specs.Regions.{holds, blocks_of, apart, busy}
use Rattle.rules.specs.Regions.Laws.{holds-in, apart-back}
use Rattle.rules.specs.Paths.{is_live}
use Rattle.rules.specs.Refusals.{accepted, Volume, entries, judge}
use Rattle.rules.specs.Refusals.Laws.{Opens, judge-opens}
use Rattle.rules.specs.History.{Agree, SameAnswers}
use Rattle.laws.proofs.Lists.Every.{not-both, none_passes, all-weaken, all_join, all-at, all_placed, pairs-split, only-holds}
use Rattle.laws.proofs.Entries.Regions.{sound-says, FileRegion, file-region, region-bytes}
use Rattle.two_images.specs.Unseen.{live_file, OutOfBlocks, Unseen, DifferUnseen}
use Rattle.two_images.proofs.Reopens.{reopens}
use Rattle.two_images.proofs.TwoImages.{SameFile, two-images}

-- ---- images that differ in unseen bytes alone agree
-- the live files of an image that opens
live-files : (s : List ℕ) (v : Volume) → Opens s v → All (FileRegion v.geometry) (only live_file (entries v))
live-files s v o =
    let g = v.geometry in
    only-holds (FileRegion g) live_file (entries v)
    (all-weaken _ _ (λ e r l. file-region g e (and-true (is_live e) (file_type e.kind) l).1 r) (entries v) (sound-says g (entries v) o.regions-sound).each)

module _ (s t : List ℕ) (long : length s ≡ length t) where
  part_ext : (at n : ℕ) → at + n ≤ length s → ((p : ℕ) → at ≤ p → p < at + n → byte_at s p ≡ byte_at t p) → part s at n ≡ part t at n
  unfolding part byte_at
  part_ext at n fits same =
      let l : length (take n (drop at s)) ≡ n = length_part s at n fits in
      ext_get_or 0 _ _ (l ∙ sym (length_part t at n (rw (← long) fits))) (λ i h.
      let k : i < n = rw l at h in
      get_or-take n (drop at s) i 0 k ∙ get_or-drop at s i 0 ∙ same (at + i) (omega arith) (omega arith)
      ∙ sym (get_or-take n (drop at t) i 0 k ∙ get_or-drop at t i 0))

  drop-ext : (at : ℕ) → ((p : ℕ) → at ≤ p → p < length s → byte_at s p ≡ byte_at t p) → drop at s ≡ drop at t
  unfolding byte_at
  drop-ext at same =
      ext_get_or 0 _ _ (length-drop at s ∙ ap (λ (n : ℕ). n - at) long ∙ sym (length-drop at t)) (λ i h.
      let k : i < length s - at = rw (length-drop at s) at h in
      get_or-drop at s i 0 ∙ same (at + i) (omega arith) (omega arith) ∙ sym (get_or-drop at t i 0))

seen-byte : (s t : List ℕ) (d : DifferUnseen s t) (p : ℕ) → p < length s → (Unseen s d.volume p → ⊥) → byte_at s p ≡ byte_at t p
seen-byte s t d p h seen = ⊎_elim (λ e. e) (λ u. absurd (seen u)) (d.bytes p h)

pub differ-agree : (s t : List ℕ) → DifferUnseen s t → Agree s t
differ-agree s t d =
    record {
      volume = v;
      opens = d.opens;
      other_volume = v;
      other_opens = reopens s t v d.opens d.lengths same-fields same_index;
      super_block = same-fields;
      index = same_index;
      files = same-files;
    }
  where
    v : Volume
    v = d.volume

    g : Geometry
    g = v.geometry

    o : Opens s v
    o = judge-opens s v d.opens

    same-fields : part s (super_block_at g.edition) 42 ≡ part t (super_block_at g.edition) 42
    same-fields =
        part_ext s t d.lengths (super_block_at g.edition) 42 (omega (arith, o.length-low, super-bounds g.edition)) (λ p low high.
        seen-byte s t d p (omega (arith, o.length-low, super-bounds g.edition)) (λ u. ⊎_elim (λ l. omega arith) (λ h. omega arith) u.fields))

    same_index : drop (length s - g.index_bytes) s ≡ drop (length t - g.index_bytes) t
    same_index =
        rw (← d.lengths) (drop-ext s t d.lengths (length s - g.index_bytes) (λ p low high. seen-byte s t d p high (λ u. omega (arith, u.index))))

    live : List Entry
    live = only live_file (entries v)

    same-files : All (SameFile s t g) live
    same-files =
        all_placed (SameFile s t g) live (λ before e after w.
        let r : FileRegion g e = all-at _ before e after (rw w at (live-files s v o)) in
        let b : e.start * block_length g + blocks_of e * block_length g ≡ e.end * block_length g = region-bytes e (block_length g) r.order in
        let inside : e.end * block_length g ≤ length s =
        omega (arith, mul-le-mul_right (block_length g) r.upper, areas-fit (length s) g o.geometry-good) in
        part_ext s t d.lengths (e.start * block_length g) (blocks_of e * block_length g) (omega (arith, b, inside)) (λ p low high.
        seen-byte s t d p (omega (arith, b, inside)) (λ u.
        ⊎_elim (λ l. omega arith) (λ h. omega (arith, b)) (all-at _ before e after (rw w at u.files)))))

pub differ-alike : (s t : List ℕ) → DifferUnseen s t → SameAnswers s t
differ-alike s t d = two-images s t (differ-agree s t d)

-- ---- what is unseen in an image that opens
no_blocks : (n b : ℕ) → n ≡ 0 → n * b ≡ 0
no_blocks n b e = rw e (zero-mul b)

module _ (s : List ℕ) (v : Volume) (opens : judge s ≡ accepted v) where
  abbrev g : Geometry
  g = v.geometry

  -- a byte outside the data area, and neither field nor index
  outside : (p : ℕ) → (p < g.reserved * block_length g) ⊎ (data_end g * block_length g ≤ p)
      → (p < super_block_at g.edition) ⊎ (super_block_at g.edition + 42 ≤ p)
      → p < length s - g.index_bytes
      → Unseen s v p
  outside p w f i =
      record {
        fields = f;
        index = i;
        files = all-weaken (FileRegion g) (OutOfBlocks g p) (λ e r.
            ⊎_elim
            (λ h. ⊎_elim
            (λ z. inr (omega (arith, no_blocks e.end (block_length g) z)))
            (λ l. inl (omega (arith, h, mul-le-mul_right (block_length g) l)))
            r.lower)
            (λ h. inr (omega (arith, h, mul-le-mul_right (block_length g) r.upper)))
            w)
            (only live_file (entries v)) (live-files s v (judge-opens s v opens));
      }

  -- the reserved area ends below the index area
  reserved-below : g.reserved * block_length g ≤ length s - g.index_bytes
  unfolding data_end
  reserved-below =
      let good = (judge-opens s v opens).geometry-good in
      let l : g.reserved * block_length g ≤ data_end g * block_length g = mul-le-mul_right (block_length g) (omega arith) in
      omega (arith, l, areas-fit (length s) g good)

  -- the boot code, bytes 0 to 0x193, in 1.10 to 0x18D
  pub boot-unseen : (p : ℕ) → p < super_block_at g.edition → Unseen s v p
  boot-unseen p h =
      let c = (judge-opens s v opens).geometry-good.reserved-covers in
      outside p (inl (omega (arith, c, h, super-bounds g.edition))) (inl h) (omega (arith, c, h, super-bounds g.edition, reserved-below))

  -- the reserved area from 0x1BE on, in 1.10 from 0x1B8 on
  pub reserved-unseen : (p : ℕ) → super_block_at g.edition + 42 ≤ p → p < g.reserved * block_length g → Unseen s v p
  reserved-unseen p l h = outside p (inl h) (inr l) (omega (arith, reserved-below))

  -- what lies between the data area and the index area
  pub free-unseen : (p : ℕ) → data_end g * block_length g ≤ p → p < length s - g.index_bytes → Unseen s v p
  unfolding data_end
  free-unseen p l h =
      let c = (judge-opens s v opens).geometry-good.reserved-covers in
      let k : g.reserved * block_length g ≤ data_end g * block_length g = mul-le-mul_right (block_length g) (omega arith) in
      outside p (inr l) (inr (omega (arith, c, k, l, super-bounds g.edition))) h

-- ---- a block that no live file holds: where deleted entries are not kept, also what a deleted file leaves
clear-block : (g : Geometry) (b p : ℕ) → b * block_length g ≤ p → p < (b + 1) * block_length g → (e : Entry) → holds b e ≡ false → OutOfBlocks g p e
clear-block g b p low high e h = go (leb e.end b) refl (leb (b + 1) e.start) refl
  where
    go : (t : Bool) → leb e.end b ≡ t → (u : Bool) → leb (b + 1) e.start ≡ u → OutOfBlocks g p e
    go true q u r = inr (omega (arith, low, mul-le-mul_right (block_length g) (leb-true e.end b q)))
    go false q true r = inl (omega (arith, high, mul-le-mul_right (block_length g) (leb-true (b + 1) e.start r)))
    go false q false r =
        absurd (not-both (holds b e) (holds-in b e (omega (arith, leb-false (b + 1) e.start r)) (omega (arith, leb-false e.end b q))) h)

pub unheld-unseen : (s : List ℕ) (v : Volume) → judge s ≡ accepted v
    → (b : ℕ) → v.geometry.reserved ≤ b → b < data_end v.geometry → busy (only live_file (entries v)) b ≡ false
    → (p : ℕ) → b * block_length v.geometry ≤ p → p < (b + 1) * block_length v.geometry → Unseen s v p
unfolding busy
unheld-unseen s v opens b least most free p low high =
    let g = v.geometry in
    let good = (judge-opens s v opens).geometry-good in
    let top : (b + 1) * block_length g ≤ data_end g * block_length g = mul-le-mul_right (block_length g) (omega (arith, most)) in
    record {
      fields = inr (omega (arith, low, good.reserved-covers, mul-le-mul_right (block_length g) least, super-bounds g.edition));
      index = omega (arith, high, top, areas-fit (length s) g good);
      files = all-weaken _ _ (clear-block g b p low high) (only live_file (entries v)) (none_passes (holds b) (only live_file (entries v)) free);
    }

-- ---- the blocks of a deleted file
dead : (d : Entry) → d.kind ≡ type_deleted_file → (live_file d ≡ false) × (file_type d.kind ≡ true)
unfolding is_live live_type file_type
dead d k = rw k (refl, refl)

-- an entry apart from one in whose blocks the byte lies
clear_of : (g : Geometry) (p : ℕ) (d : Entry) → d.start * block_length g ≤ p → p < d.end * block_length g → (e : Entry) → apart d e ≡ true → OutOfBlocks g p e
unfolding apart
clear_of g p d low high e h = go (leb d.end e.start) refl h
  where
    go : (t : Bool) → leb d.end e.start ≡ t → (t || leb e.end d.start) ≡ true → OutOfBlocks g p e
    go true q r = inl (omega (arith, mul-le-mul_right (block_length g) (leb-true d.end e.start q)))
    go false q r = inr (omega (arith, mul-le-mul_right (block_length g) (leb-true e.end d.start r)))

pub deleted-unseen : (s : List ℕ) (v : Volume) → judge s ≡ accepted v
    → (d : Entry) (before after : List Entry) → entries v ≡ before ++ (d ∷ after) → d.kind ≡ type_deleted_file
    → (p : ℕ) → d.start * block_length v.geometry ≤ p → p < d.end * block_length v.geometry → Unseen s v p
deleted-unseen s v opens d before after e k p low high =
    let g = v.geometry in
    let o = judge-opens s v opens in
    let good = o.geometry-good in
    let sound = rw e at (sound-says g (entries v) o.regions-sound) in
    let r : FileRegion g d = file-region g d (dead d k).1 (all-at _ before d after sound.each) in
    let (_, behind, across) = pairs-split _ before (d ∷ after) sound.two in
    let clear = clear_of g p d low high in
    let bottom : 512 ≤ p =
    ⊎_elim
    (λ h. absurd (omega (arith, no_blocks d.end (block_length g) h)))
    (λ l. omega (arith, good.reserved-covers, mul-le-mul_right (block_length g) l))
    r.lower in
    record {
      fields = inr (omega (arith, bottom, super-bounds g.edition));
      index = omega (arith, mul-le-mul_right (block_length g) r.upper, areas-fit (length s) g good);
      files = rw e (only-holds (OutOfBlocks g p) live_file (before ++ (d ∷ after))
          (all_join _ before (d ∷ after)
          (all-weaken _ _ (λ x c l. clear x (apart-back d x ∙ c.0)) before across)
          (λ l. absurd (not-both (live_file d) l (dead d k).0), all-weaken _ _ (λ x c l. clear x c) after behind.0)));
    }
