-- Sound regions stay sound: in another order, with one entry more, with a live entry deleted, and with some of them only. Assumes nothing.
use Prim.Native.Nat.{ℕ, ◌+◌, ◌-◌, ◌*◌, ◌≤◌, ◌<◌}
use mathlib.Core.Path.{◌≡◌, refl, sym, ap, ap₂, ◌∙◌}
use mathlib.Core.Bool.{Bool, true, false, ◌&&◌, ◌||◌, not}
use mathlib.Core.List.{List, ◌∷◌, map}
use mathlib.Core.Logic.{◌⊎◌, inl, inr, ⊎_elim}
use native.Mathlib.Omega.{arith}
use native.Mathlib.Nat.{add-mul}
use lib.Dec.{eqb, ltb, leb}
use lib.IntN.{ℤ}
use borrow.Author.Tests.{leb-true, ltb-true, le-leb, lt-ltb, eqb-true, eq-eqb}
use Rattle.rules.specs.Lists.{pick, all, every_two, only, All, Pairs, Perm}
use Rattle.rules.specs.Lists.Laws.{and-true, and_both, or_right, pick_true, pick-false}
use Rattle.rules.specs.SuperBlock.{Geometry, block_length, data_end, extend_data, trim_data, restamp, with_data, with_stamp}
use Rattle.rules.specs.SuperBlock.Laws.{as_stored}
use Rattle.rules.specs.Index.{Entry, file_type, type_file, type_directory, type_unusable}
use Rattle.rules.specs.Regions.{holds, blocks_of, within_data, file_region_good, region_good, apart, regions_sound, busy, run_free}
use Rattle.rules.specs.Regions.Laws.{holds-says, apart-back, apart-before, apart-behind, none_apart, run-says}
use Rattle.rules.specs.Index.Walk.{pick-both}
use Rattle.rules.specs.Writing.{least_end}
use Rattle.laws.proofs.Lists.Every.{not-both, and-map, or_map, or_left, pick-map, all-weaken, all_of, all-and, all-each, all-only, pairs-only, all-says, all-holds, two-says, two-holds, none_passes, every_map, every-ext, two-map, two-ext, le-largest, largest-le}
use Rattle.laws.proofs.Lists.Perms.{perm-every, perm-two}

-- ---- as statements
pub record RegionsGood (g : Geometry) (es : List Entry) : Type 0 where
  pub each : All (λ e. region_good g e ≡ true) es
  pub two : Pairs (λ e f. apart e f ≡ true) es

pub sound-says : (g : Geometry) (es : List Entry) → regions_sound g es ≡ true → RegionsGood g es
unfolding regions_sound
sound-says g es h =
    let p = and-true (all (region_good g) es) (every_two apart es) h in
    record { each = all-says (region_good g) es p.0; two = two-says apart es p.1 }

pub sound-holds : (g : Geometry) (es : List Entry) → RegionsGood g es → regions_sound g es ≡ true
unfolding regions_sound
sound-holds g es r =
    and_both (all (region_good g) es) (every_two apart es) (all-holds (region_good g) es r.each) (two-holds apart es r.two)

-- no region
pub record Regionless (e : Entry) : Type 0 where
  pub start : e.start ≡ 0
  pub end : e.end ≡ 0

-- an entry that is neither a file nor unusable has none: region_good asks nothing of it, so it is asked apart. It holds in every index (Walked).
abbrev pub Settled : Entry → Type 0
Settled e = file_type e.kind ≡ false → eqb e.kind type_unusable ≡ false → Regionless e

-- one block or more in the data area
pub record Within (g : Geometry) (e : Entry) : Type 0 where
  pub low : g.reserved ≤ e.start
  pub some : e.start < e.end
  pub high : e.end ≤ data_end g

pub within-says : (g : Geometry) (e : Entry) → within_data g e ≡ true → Within g e
unfolding within_data
within-says g e h =
    let p = and-true (leb g.reserved e.start && ltb e.start e.end) (leb e.end (data_end g)) h in
    let q = and-true (leb g.reserved e.start) (ltb e.start e.end) p.0 in
    record { low = leb-true g.reserved e.start q.0; some = ltb-true e.start e.end q.1; high = leb-true e.end (data_end g) p.1 }

pub within-holds : (g : Geometry) (e : Entry) → Within g e → within_data g e ≡ true
unfolding within_data
within-holds g e w =
    and_both (leb g.reserved e.start && ltb e.start e.end) (leb e.end (data_end g))
    (and_both (leb g.reserved e.start) (ltb e.start e.end) (le-leb g.reserved e.start w.low) (lt-ltb e.start e.end w.some))
    (le-leb e.end (data_end g) w.high)

-- what a file's good region is: none and no byte, or within the data area and its bytes fit
pub file-says : (g : Geometry) (e : Entry) → file_region_good g e ≡ true
    → (Regionless e × (e.length ≡ 0)) ⊎ (Within g e × (e.length ≤ blocks_of e * block_length g))
unfolding file_region_good
file-says g e h = go (eqb e.start 0 && eqb e.end 0 && eqb e.length 0) refl h
  where
    go : (t : Bool) → (eqb e.start 0 && eqb e.end 0 && eqb e.length 0) ≡ t → (t || (within_data g e && leb e.length (blocks_of e * block_length g))) ≡ true
        → (Regionless e × (e.length ≡ 0)) ⊎ (Within g e × (e.length ≤ blocks_of e * block_length g))
    go true p q =
        let u = and-true (eqb e.start 0 && eqb e.end 0) (eqb e.length 0) p in
        let v = and-true (eqb e.start 0) (eqb e.end 0) u.0 in
        inl (record { start = eqb-true e.start 0 v.0; end = eqb-true e.end 0 v.1 }, eqb-true e.length 0 u.1)
    go false p q =
        let u = and-true (within_data g e) (leb e.length (blocks_of e * block_length g)) q in
        inr (within-says g e u.0, leb-true e.length (blocks_of e * block_length g) u.1)

-- and in both cases
pub record FileRegion (g : Geometry) (e : Entry) : Type 0 where
  pub lower : (e.end ≡ 0) ⊎ (g.reserved ≤ e.start)
  pub order : e.start ≤ e.end
  pub upper : e.end ≤ data_end g
  pub fits : e.length ≤ blocks_of e * block_length g

pub file-region : (g : Geometry) (e : Entry) → file_type e.kind ≡ true → region_good g e ≡ true → FileRegion g e
unfolding region_good
file-region g e f r = go (file-says g e (sym (pick_true _ _ f) ∙ r))
  where
    go : (Regionless e × (e.length ≡ 0)) ⊎ (Within g e × (e.length ≤ blocks_of e * block_length g)) → FileRegion g e
    go (inl (n, l)) = record { lower = inl n.end; order = omega (arith, n.start); upper = omega (arith, n.end); fits = omega arith }
    go (inr (w, l)) = record { lower = inr w.low; order = omega (arith, w.some); upper = w.high; fits = l }

-- one ends where the other starts, or before
pub apart-says : (e f : Entry) → apart e f ≡ true → (e.end ≤ f.start) ⊎ (f.end ≤ e.start)
unfolding apart
apart-says e f h = go (leb e.end f.start) refl h
  where
    go : (t : Bool) → leb e.end f.start ≡ t → (t || leb f.end e.start) ≡ true → (e.end ≤ f.start) ⊎ (f.end ≤ e.start)
    go true p q = inl (leb-true e.end f.start p)
    go false p q = inr (leb-true f.end e.start q)

-- the bytes of its blocks, in blocks of b bytes
pub region-bytes : (e : Entry) (b : ℕ) → e.start ≤ e.end → e.start * b + blocks_of e * b ≡ e.end * b
unfolding blocks_of
region-bytes e b h = sym (add-mul e.start (e.end - e.start) b) ∙ ap (λ (n : ℕ). n * b) (omega arith)

-- what a good region is: none, or within the data area
file-placed : (g : Geometry) (e : Entry) → file_region_good g e ≡ true → Regionless e ⊎ Within g e
file-placed g e h = ⊎_elim (λ n. inl n.0) (λ w. inr w.0) (file-says g e h)

pub placed : (g : Geometry) (e : Entry) → Settled e → region_good g e ≡ true → Regionless e ⊎ Within g e
unfolding region_good pick
placed g e s h = go (file_type e.kind) refl (eqb e.kind type_unusable) refl h
  where
    go : (t : Bool) → file_type e.kind ≡ t → (u : Bool) → eqb e.kind type_unusable ≡ u → pick t (file_region_good g e) (pick u (within_data g e) true) ≡ true
        → Regionless e ⊎ Within g e
    go true p u q r = file-placed g e r
    go false p true q r = inr (within-says g e r)
    go false p false q r = inl (s p q)

-- ---- another geometry
-- of the same reserved blocks and block length, in which the region still lies in the data area
within-to : (g h : Geometry) (e : Entry) → g.reserved ≡ h.reserved → (e.end ≤ data_end g → e.end ≤ data_end h) → within_data g e ≡ true → within_data h e ≡ true
within-to g h e r d w =
    let p = within-says g e w in
    within-holds h e (record { low = rw (← r) p.low; some = p.some; high = d p.high })

same_block : (g h : Geometry) → g.block_field ≡ h.block_field → block_length g ≡ block_length h
unfolding block_length
same_block g h b = rw b

file-to : (g h : Geometry) (e : Entry) → g.reserved ≡ h.reserved → g.block_field ≡ h.block_field → (e.end ≤ data_end g → e.end ≤ data_end h)
    → file_region_good g e ≡ true → file_region_good h e ≡ true
unfolding file_region_good
file-to g h e r b d =
    let none = eqb e.start 0 && eqb e.end 0 && eqb e.length 0 in
    let fits : ℕ → Bool = λ k. leb e.length (blocks_of e * k) in
    or_map none (within_data g e && fits (block_length g)) none (within_data h e && fits (block_length h)) (λ p. p)
    (and-map (within_data g e) (fits (block_length g)) (within_data h e) (fits (block_length h)) (within-to g h e r d)
    (λ p. sym (ap fits (same_block g h b)) ∙ p))

pub good-to : (g h : Geometry) (e : Entry) → g.reserved ≡ h.reserved → g.block_field ≡ h.block_field → (e.end ≤ data_end g → e.end ≤ data_end h)
    → region_good g e ≡ true → region_good h e ≡ true
unfolding region_good
good-to g h e r b d =
    let unusable = eqb e.kind type_unusable in
    pick-map (file_type e.kind) (file_region_good g e) (pick unusable (within_data g e) true) (file_region_good h e) (pick unusable (within_data h e) true)
    (file-to g h e r b d)
    (pick-map unusable (within_data g e) true (within_data h e) true (within-to g h e r d) (λ p. p))

-- regions depend on the reserved blocks, the data area's size and the block length, and on nothing else
pub sound-geometry : (g h : Geometry) (es : List Entry) → g.reserved ≡ h.reserved → g.data_blocks ≡ h.data_blocks → g.block_field ≡ h.block_field
    → regions_sound g es ≡ regions_sound h es
unfolding regions_sound region_good file_region_good within_data data_end block_length
sound-geometry g h es r d b = rw (r, d, b)

-- ---- another order
pub sound-perm : (g : Geometry) {es fs : List Entry} → Perm es fs → regions_sound g es ≡ regions_sound g fs
unfolding regions_sound
sound-perm g p = ap₂ (λ s t. s && t) (perm-every (region_good g) p) (perm-two apart (λ e f h. sym (apart-back e f) ∙ h) p)

-- ---- a new entry
-- its region: none, or a free run in the data area
pub data Fresh (g : Geometry) (es : List Entry) (e : Entry) : Type 0 where
  directory : e.kind ≡ type_directory → Regionless e → Fresh g es e
  empty : e.kind ≡ type_file → Regionless e → e.length ≡ 0 → Fresh g es e
  run : (k : ℕ) → e.kind ≡ type_file → g.reserved ≤ e.start → e.end ≡ e.start + k → 0 < k → run_free es e.start k ≡ true → e.end ≤ data_end g
      → e.length ≤ k * block_length g → Fresh g es e

pub kind-file : (t : ℕ) → t ≡ type_file → file_type t ≡ true
unfolding file_type
kind-file t e = rw e

kind-directory : (t : ℕ) → t ≡ type_directory → (file_type t ≡ false) × (eqb t type_unusable ≡ false)
unfolding file_type
kind-directory t e = (rw e, rw e)

-- by cases of the kind
good-file : (g : Geometry) (e : Entry) → file_type e.kind ≡ true → file_region_good g e ≡ true → region_good g e ≡ true
unfolding region_good
good-file g e t h = pick_true (file_region_good g e) _ t ∙ h

good-other : (g : Geometry) (e : Entry) → file_type e.kind ≡ false → eqb e.kind type_unusable ≡ false → region_good g e ≡ true
unfolding region_good
good-other g e t u = pick-false (file_region_good g e) _ t ∙ pick-false (within_data g e) true u

file-none : (g : Geometry) (e : Entry) → Regionless e → e.length ≡ 0 → file_region_good g e ≡ true
unfolding file_region_good
file-none g e r l = or_left _ _ (and_both _ _ (and_both _ _ (eq-eqb e.start 0 r.start) (eq-eqb e.end 0 r.end)) (eq-eqb e.length 0 l))

file-within : (g : Geometry) (e : Entry) → Within g e → e.length ≤ blocks_of e * block_length g → file_region_good g e ≡ true
unfolding file_region_good
file-within g e w l = or_right (eqb e.start 0 && eqb e.end 0 && eqb e.length 0) _ (and_both _ _ (within-holds g e w) (le-leb e.length (blocks_of e * block_length g) l))

blocks-run : (e : Entry) (k : ℕ) → e.end ≡ e.start + k → blocks_of e ≡ k
unfolding blocks_of
blocks-run e k n = omega arith

fresh-good : (g : Geometry) (es : List Entry) (e : Entry) → Fresh g es e → region_good g e ≡ true
fresh-good g es e (directory t r) = let k = kind-directory e.kind t in good-other g e k.0 k.1
fresh-good g es e (empty t r l) = good-file g e (kind-file e.kind t) (file-none g e r l)
fresh-good g es e (run k t a n p f b l) =
    good-file g e (kind-file e.kind t)
    (file-within g e (record { low = a; some = omega arith; high = b }) (rw (blocks-run e k n) l))

none-apart-all : (e : Entry) → Regionless e → (es : List Entry) → All (λ f. apart e f ≡ true) es
none-apart-all e r es = all_of (λ f. apart e f ≡ true) (λ f. apart-before e f (omega (arith, r.end))) es

-- a block of a run
abbrev Block : ℕ → ℕ → Type 0
Block s k = (b : ℕ) × (s ≤ b) × (b < s + k)

run-blocks : (es : List Entry) (s k : ℕ) → run_free es s k ≡ true → All (λ f. (u : Block s k) → holds u.0 f ≡ false) es
unfolding busy
run-blocks es s k h =
    all-each {U = Block s k} (λ u f. holds u.0 f ≡ false) es (λ u. none_passes (holds u.0) es (run-says es s k h u.0 u.1 u.2))

-- a region whose blocks are free is apart from each other one
run-apart : (g : Geometry) (e f : Entry) (k : ℕ) → e.end ≡ e.start + k → 0 < k → ((u : Block e.start k) → holds u.0 f ≡ false) → Regionless f ⊎ Within g f
    → apart e f ≡ true
run-apart g e f k n p h (inl r) = apart-behind e f (omega (arith, r.end))
run-apart g e f k n p h (inr w) =
    none_apart e f (omega arith) w.some (λ b q m. let s = holds-says b e q in not-both (holds b f) m (h (b, s.0, omega (arith, s.1))))

fresh-apart : (g h : Geometry) (es : List Entry) (e : Entry) → Fresh h es e → All Settled es → All (λ f. region_good g f ≡ true) es → All (λ f. apart e f ≡ true) es
fresh-apart g h es e (directory t r) s o = none-apart-all e r es
fresh-apart g h es e (empty t r l) s o = none-apart-all e r es
fresh-apart g h es e (run k t a n p f b l) s o =
    all-weaken (λ x. (Settled x × (region_good g x ≡ true)) × ((u : Block e.start k) → holds u.0 x ≡ false)) (λ x. apart e x ≡ true)
    (λ x q. run-apart g e x k n p q.1 (placed g x q.0.0 q.0.1)) es
    (all-and _ _ es (all-and Settled _ es s o) (run-blocks es e.start k f))

-- the data area of h holds that of g
pub sound-create : (g h : Geometry) (es : List Entry) (e : Entry) → h.reserved ≡ g.reserved → h.block_field ≡ g.block_field → data_end g ≤ data_end h
    → All Settled es → Fresh h es e → regions_sound g es ≡ true → regions_sound h (e ∷ es) ≡ true
sound-create g h es e r b d s f o =
    let p = sound-says g es o in
    sound-holds h (e ∷ es) (record {
      each = (fresh-good h es e f, all-weaken _ _ (λ x. good-to g h x (sym r) (sym b) (λ l. omega arith)) es p.each);
      two = (fresh-apart g h es e f s p.each, p.two);
    })

-- ---- entries changed in place
-- two entries whose regions are judged alike
pub record SameRegion (e f : Entry) : Type 0 where
  pub file : file_type f.kind ≡ file_type e.kind
  pub unusable : eqb f.kind type_unusable ≡ eqb e.kind type_unusable
  pub start : f.start ≡ e.start
  pub end : f.end ≡ e.end
  pub length : f.length ≡ e.length

good-same : (g : Geometry) (e f : Entry) → SameRegion e f → region_good g f ≡ region_good g e
unfolding region_good file_region_good within_data blocks_of
good-same g e f s = rw (s.file, s.unusable, s.start, s.end, s.length)

apart-same : (e f x y : Entry) → SameRegion e x → SameRegion f y → apart x y ≡ apart e f
unfolding apart
apart-same e f x y s t = rw (s.start, s.end, t.start, t.end)

pub sound-map : (g : Geometry) (f : Entry → Entry) → ((e : Entry) → SameRegion e (f e)) → (es : List Entry) → regions_sound g (map f es) ≡ regions_sound g es
unfolding regions_sound
sound-map g f s es =
    ap₂ (λ t u. t && u)
    (every_map (region_good g) f es ∙ every-ext _ _ (λ e. good-same g e (f e) (s e)) es)
    (two-map apart f es ∙ two-ext _ _ (λ x y. apart-same x y (f x) (f y) (s x) (s y)) es)

-- the same kind and region: slots, stamps and paths do not matter
pub same-region : (e f : Entry) → f.kind ≡ e.kind → f.start ≡ e.start → f.end ≡ e.end → f.length ≡ e.length → SameRegion e f
same-region e f k s n l = record { file = ap file_type k; unusable = ap (λ t. eqb t type_unusable) k; start = s; end = n; length = l }

-- ---- with some of the entries, the data area trimmed to their regions
trim-good : (g : Geometry) (n : ℕ) (e : Entry) → e.end ≤ n → region_good g e ≡ true → region_good (trim_data g n) e ≡ true
unfolding data_end trim_data with_data
trim-good g n e l = good-to g (trim_data g n) e refl refl (λ q. omega arith)

pub sound-trim : (g : Geometry) (q : Entry → Bool) (es : List Entry) → regions_sound g es ≡ true
    → regions_sound (trim_data g (least_end (only q es))) (only q es) ≡ true
unfolding least_end
sound-trim g q es o =
    let kept = only q es in
    let p = sound-says g es o in
    sound-holds (trim_data g (least_end kept)) kept (record {
      each =
          all-weaken (λ e. (e.end ≤ least_end kept) × (region_good g e ≡ true)) _ (λ e h. trim-good g (least_end kept) e h.0 h.1) kept
          (all-and _ _ kept (le-largest (λ e. e.end) kept) (all-only _ q es p.each));
      two = pairs-only (λ e f. apart e f ≡ true) q es p.two;
    })

-- some of the entries
pub sound-only : (g : Geometry) (q : Entry → Bool) (es : List Entry) → regions_sound g es ≡ true → regions_sound g (only q es) ≡ true
sound-only g q es o =
    let p = sound-says g es o in
    sound-holds g (only q es) (record { each = all-only _ q es p.each; two = pairs-only (λ e f. apart e f ≡ true) q es p.two })

-- the geometry stays good: the data area does not grow
end_fits : (g : Geometry) (e : Entry) → Regionless e ⊎ Within g e → e.end ≤ data_end g
end_fits g e (inl r) = omega (arith, r.end)
end_fits g e (inr w) = w.high

pub ends-fit : (g : Geometry) (es : List Entry) → All Settled es → regions_sound g es ≡ true → All (λ e. e.end ≤ data_end g) es
ends-fit g es s o =
    all-weaken (λ e. Settled e × (region_good g e ≡ true)) _ (λ e q. end_fits g e (placed g e q.0 q.1)) es
    (all-and Settled _ es s (sound-says g es o).each)

pub trim-fits : (g : Geometry) (q : Entry → Bool) (es : List Entry) → All Settled es → regions_sound g es ≡ true → data_end (trim_data g (least_end (only q es))) ≤ data_end g
unfolding data_end trim_data with_data least_end
trim-fits g q es s o =
    let h : least_end (only q es) ≤ data_end g = largest-le (λ e. e.end) (data_end g) _ (all-only _ q es (ends-fit g es s o)) in
    omega arith

-- ---- the geometries of create and reclaim
pub extend-keeps : (g : Geometry) (n : ℕ) → data_end g ≤ data_end (extend_data g n)
unfolding data_end extend_data with_data
extend-keeps g n = omega arith

pub extend-covers : (g : Geometry) (n : ℕ) → n ≤ data_end (extend_data g n)
unfolding data_end extend_data with_data
extend-covers g n = omega arith

pub extend_fits : (g : Geometry) (n ceiling : ℕ) → data_end g ≤ ceiling → n ≤ ceiling → data_end (extend_data g n) ≤ ceiling
unfolding data_end extend_data with_data
extend_fits g n ceiling p q = omega arith

-- the stamp does not matter
pub sound-restamp : (old new : Geometry) (t : ℤ) (es : List Entry) → regions_sound (restamp old new t) es ≡ regions_sound new es
unfolding restamp with_stamp
sound-restamp old new t es =
    pick-both (λ g. regions_sound g es ≡ regions_sound new es) _ new (with_stamp new t) refl (sound-geometry (with_stamp new t) new es refl refl refl)

-- and neither does storing it
pub sound-stored : (g : Geometry) (es : List Entry) → regions_sound (as_stored g) es ≡ regions_sound g es
unfolding as_stored with_stamp
sound-stored g es = sound-geometry (as_stored g) g es refl refl refl

pub region-stored : (g : Geometry) (e : Entry) → region_good (as_stored g) e ≡ region_good g e
unfolding as_stored with_stamp region_good file_region_good within_data data_end block_length
region-stored g e = refl

pub placed-stored : (g : Geometry) (e : Entry) → Regionless e ⊎ Within g e → Regionless e ⊎ Within (as_stored g) e
unfolding as_stored with_stamp data_end
placed-stored g e (inl r) = inl r
placed-stored g e (inr w) = inr (record { low = w.low; some = w.some; high = w.high })
