-- What the test comes to, by what was found of an image, and step by step over the table.
use Rattle.std.specs.Prelude.{ℕ, ◌-◌, ◌≤◌, ◌<◌, ◌≡◌, Bool, length, take, Ok, Err}
use Rattle.std.proofs.Math.Path.{refl, sym, ap, ap₂}
use Rattle.std.proofs.Common.{◌∙◌, subst, arith, length-drop, length-append, take_at, drop_at, length-take-le}
use Rattle.std.proofs.Math.Bool.{true, false}
use mathlib.Core.List.{List, ◌++◌, map}
use Rattle.std.proofs.Math.ListN.{drop}
use Rattle.std.proofs.lemmas.List.{length-map}
use Rattle.rules.specs.Lists.{all, All, Perm, same}
use Rattle.rules.specs.Index.{Entry, items_of, entries_of}
use Rattle.rules.specs.Regions.{Extent, region_good, regions_sound}
use Rattle.rules.specs.Refusals.{refused, accepted}
use Rattle.rules.specs.RegionTable.{regions_of, in_order, apart_number, judge_bounds, table_of, sharing_of}
use Rattle.rules.proofs.RegionTable.Laws.{perm-order, in-order-same, bounds-bad-regions, bounds-good, table-refused, table-short, table-told, sharing-sound, sharing-unsound}
use Rattle.laws.proofs.Lists.Perms.{perm-all, perm-length}
use Rattle.ordering.specs.Regions.{extent_key, extents_in_turn, Small}
use Rattle.ordering.specs.Tables.{key_extent, SmallExtent, sorted-extents, regions-small, regions-of-keys}
use Rattle.ordering.proofs.Tables.{neighbours-decide}
use Rattle.geometry.specs.declared.Geometry.{Geometry}
use Rattle.geometry.specs.View.{geometry_view}
use Rattle.index.specs.declared.Cursor.{Cursor}
use Rattle.index.specs.Steps.{entries_from}
use Rattle.super_block.specs.View.{SuperGood}
use Rattle.regions.specs.Gathering.{InTheirOrder, region_keys, all_small, keys-same}
use Rattle.refusals.specs.declared.Refusal.{Refusal}
use Rattle.refusals.specs.declared.Refusal.TheVariants.{Regions, TooShort}
use Rattle.refusals.specs.View.{number_of}
use Rattle.region_table.specs.View.{last_regions, laid, ordered, tabled_view, answered, Makes, Prepared, PreparedFor, Orderable, Filled}
use Rattle.region_table.specs.Entries.{LeadsTo}

-- ---- PREPARED: what was gathered as keys
pub prepared-refused : (s keys : List ℕ) (places : ℕ) (e : Refusal) → judge_bounds s ≡ refused (number_of e) → Prepared s keys places (Err e)
unfolding Prepared
prepared-refused s keys places e h = λ table l. table-refused s table (number_of e) h

-- the regions of entries, as keys from place i on
module _ (s keys : List ℕ) (places i : ℕ) (es : List Entry) (bounded : judge_bounds s ≡ accepted es) (inside : i ≤ length keys)
    (low : All Small es) (held : Perm (regions_of es) (map key_extent (drop i keys))) where
  last-are : last_regions (length keys - i) keys ≡ map key_extent (drop i keys)
  last-are =
      let e : length keys - (length keys - i) ≡ i = omega arith in
      ap (λ (n : ℕ). map key_extent (drop n keys)) e

  in_order_lem : in_order (last_regions (length keys - i) keys) ≡ in_order (regions_of es)
  in_order_lem = ap in_order last-are ∙ sym (perm-order held)

  how-many : length (in_order (regions_of es)) ≡ length keys - i
  how-many = sym (perm-length (in-order-same (regions_of es))) ∙ perm-length held ∙ length-map (drop i keys) key_extent ∙ length-drop i keys

  pub short-prepared : places < length keys - i → Prepared s keys places (Err TooShort)
  unfolding Prepared
  short-prepared h = λ table l. table-short s table es bounded (omega (arith, how-many))

  -- regions in order, compared, in a table with places enough
  roomy-makes : length keys - i ≤ places → (table : List Extent) → length table ≡ places → Makes s table (length keys - i) (last_regions (length keys - i) keys)
  roomy-makes h table l =
      ap (λ (xs : List Extent). tabled_view (answered (apart_number (extents_in_turn 0 xs)) (length keys - i)) (xs ++ drop (length keys - i) table)) in_order_lem
      ∙ ap₂ (λ (t : Bool) (n : ℕ). tabled_view (answered (apart_number t) n) (in_order (regions_of es) ++ drop n table)) (sym (neighbours-decide es low)) (sym how-many)
      ∙ sym (table-told s table es bounded (omega (arith, how-many)))

  pub roomy-prepared : length keys - i ≤ places → Prepared s keys places (Ok (length keys - i))
  unfolding Prepared
  roomy-prepared h = record {
    makes = roomy-makes h;
    fits = h;
    few = omega arith;
    small = rw last-are (perm-all SmallExtent held (regions-small es low));
  }

-- of entries that a cursor walks through
module _ (s : List ℕ) (g : Geometry) (keys : List ℕ) (places : ℕ) (super : SuperGood s g) (c : Cursor) (sums : List ℕ) (l : LeadsTo s g sums c) where
  pub entries-bad : all (region_good (geometry_view g)) (entries_from s c) ≡ false → Prepared s keys places (Err Regions)
  entries-bad e = prepared-refused s keys places Regions (bounds-bad-regions s (geometry_view g) super l.sound (ap (all (region_good (geometry_view g))) (sym l.entries) ∙ e))

  module _ (i : ℕ) (h : (all (region_good (geometry_view g)) (entries_from s c) ≡ true) × (i ≤ length keys) × (drop i keys ≡ region_keys (entries_from s c))) where
    entries-bounded : judge_bounds s ≡ accepted (entries_from s c)
    entries-bounded = bounds-good s (geometry_view g) super l.sound (ap (all (region_good (geometry_view g))) (sym l.entries) ∙ h.0) ∙ ap accepted (sym l.entries)

    entries-small : All Small (entries_from s c)
    entries-small = all_small s g l.bounded c h.0

    entries-held : Perm (regions_of (entries_from s c)) (map key_extent (drop i keys))
    entries-held = regions-of-keys (entries_from s c) entries-small (drop i keys) (keys-same s g l.bounded c h.0 (drop i keys) (drop i keys) h.2 same)

    pub entries-short : places < length keys - i → Prepared s keys places (Err TooShort)
    entries-short = short-prepared s keys places i (entries_from s c) entries-bounded h.1 entries-small entries-held

    pub entries-fit : length keys - i ≤ places → Prepared s keys places (Ok (length keys - i))
    entries-fit = roomy-prepared s keys places i (entries_from s c) entries-bounded h.1 entries-small entries-held

-- ---- FILLED: prepared, and laid into the table
pub length_last : (n : ℕ) (keys : List ℕ) → n ≤ length keys → length (last_regions n keys) ≡ n
length_last n keys h =
    let e : length keys - (length keys - n) ≡ n = omega arith in
    length-map (drop (length keys - n) keys) key_extent ∙ length-drop (length keys - n) keys ∙ e

pub filled-laid : (s keys : List ℕ) (t₀ t₁ : List Extent) (n : ℕ) → PreparedFor s keys (length t₀) n → length keys ≡ 4_094 → t₁ ≡ laid n keys t₀ → Filled s t₀ t₁ n
unfolding laid
filled-laid s keys t₀ t₁ n p e f =
    let xs = last_regions n keys in
    let l = length_last n keys p.few in
    let front : take n t₁ ≡ xs = ap (take n) f ∙ take_at xs (drop n t₀) n l in
    let back : drop n t₁ ≡ drop n t₀ = ap (drop n) f ∙ drop_at xs (drop n t₀) n l in
    record {
      orderable = record {
        fits = omega (arith, ap length f ∙ length-append xs (drop n t₀), l);
        few = omega (arith, p.few);
        small = subst (All SmallExtent) (sym front) p.small;
      };
      makes = subst (Makes s t₀ n) (sym front) (p.makes t₀ refl);
      others = back;
    }

-- ---- PUT IN ORDER: taken apart, sorted as numbers, and laid
pub ordered-laid : (n : ℕ) (table : List Extent) (k₀ k₁ k₂ : List ℕ) → Orderable n table → length k₁ ≡ length k₀ → length k₂ ≡ length k₁
    → drop (length k₀ - n) k₁ ≡ map extent_key (take n table) → InTheirOrder (drop (length k₁ - n) k₁) (drop (length k₁ - n) k₂) → laid n k₂ table ≡ ordered n table
unfolding laid ordered
ordered-laid n table k₀ k₁ k₂ o e f apart' sorted =
    let is : drop (length k₁ - n) k₁ ≡ map extent_key (take n table) = ap (λ (m : ℕ). drop (m - n) k₁) e ∙ apart' in
    ap (λ (xs : List Extent). xs ++ drop n table)
    (ap (λ (m : ℕ). map key_extent (drop (m - n) k₂)) f
    ∙ sorted-extents (take n table) (drop (length k₁ - n) k₂) o.small (subst (λ (ks : List ℕ). Perm ks (drop (length k₁ - n) k₂)) is sorted.same) sorted.ascends)

-- ---- THE WHOLE: filled, put in order, and compared
pub tabled-last : (s : List ℕ) (t₀ t₁ t₂ : List Extent) (n a : ℕ) (b : Bool) → Filled s t₀ t₁ n → t₂ ≡ ordered n t₁ → b ≡ extents_in_turn 0 (take n t₂)
    → a ≡ apart_number b → tabled_view (answered a n) t₂ ≡ table_of s t₀
unfolding ordered
tabled-last s t₀ t₁ t₂ n a b f o c e =
    let xs = in_order (take n t₁) in
    let l : length xs ≡ n = sym (perm-length (in-order-same (take n t₁))) ∙ length-take-le n t₁ f.orderable.fits in
    let front : take n t₂ ≡ xs = ap (take n) o ∙ take_at xs (drop n t₁) n l in
    ap₂ (λ (k : ℕ) (ys : List Extent). tabled_view (answered k n) ys) (e ∙ ap apart_number (c ∙ ap (extents_in_turn 0) front)) (o ∙ ap (λ (ys : List Extent). xs ++ ys) f.others)
    ∙ f.makes

-- the plain engine's answer
pub sound-number : (s : List ℕ) (g : Geometry) (sums : List ℕ) → SuperGood s g → (c : Cursor) → LeadsTo s g sums c
    → apart_number (regions_sound (geometry_view g) (entries_from s c)) ≡ sharing_of s
unfolding apart_number
sound-number s g sums super c a = by (regions_sound (geometry_view g) (entries_of (items_of s (geometry_view g)))) refl
  where
    at : apart_number (regions_sound (geometry_view g) (entries_from s c)) ≡ apart_number (regions_sound (geometry_view g) (entries_of (items_of s (geometry_view g))))
    at = ap (λ (es : List Entry). apart_number (regions_sound (geometry_view g) es)) a.entries

    by : (t : Bool) → regions_sound (geometry_view g) (entries_of (items_of s (geometry_view g))) ≡ t → apart_number (regions_sound (geometry_view g) (entries_from s c)) ≡ sharing_of s
    by true e = at ∙ ap apart_number e ∙ sym (sharing-sound s (geometry_view g) super a.sound e)
    by false e = at ∙ ap apart_number e ∙ sym (sharing-unsound s (geometry_view g) super a.sound e)
