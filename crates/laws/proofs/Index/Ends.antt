-- The two ends of the index area: the start marker, and the volume identifier with its name; what they depend on, and as they are stored. Assumes nothing.
use Prim.Native.Nat.{ℕ, suc, ◌+◌, ◌-◌, ◌*◌, ◌≤◌, ◌<◌}
use mathlib.Core.Path.{◌≡◌, refl, sym, ap, ◌∙◌}
use mathlib.Core.Bool.{Bool, true, ◌&&◌, not}
use mathlib.Core.List.{List, [], ◌∷◌, ◌++◌}
use native.Mathlib.Omega.{arith}
use lib.ListN.{length, get_or, drop, replicate, length-take}
use lib.Seq.{take_all, take_at}
use lib.IntN.{ℤ}
use borrow.Author.Tests.{lt-ltb, eq-eqb}
use Rattle.rules.specs.Lists.{part, padded, all}
use Rattle.rules.specs.Lists.Laws.{and-true, and_both, get_d_part, part-part, part-append, length-padded}
use Rattle.rules.specs.Fields.{byte_at, up_to_zero, has_zero}
use Rattle.rules.specs.Fields.Laws.{has_zero-ltb}
use Rattle.rules.specs.Editions.{Edition, sum_good}
use Rattle.rules.specs.SuperBlock.{Geometry}
use Rattle.rules.specs.Names.{text_good, volume_name_good}
use Rattle.rules.specs.Names.Laws.{volume-name, volume-text, text-up-to-zero}
use Rattle.rules.specs.Index.{Item, is_fault, type_marker, type_identifier, slot_bytes, slot_at, identifier_at, volume_field, volume_name, identifier_good, marker_good, index_sound, entry_bytes, marker_bytes, identifier_bytes}
use Rattle.rules.specs.Index.Laws.{entry-sum, identifier-sum}
use Rattle.rules.specs.Refusals.Laws.{length-marker, length-identifier, identifier_head, length-identifier_head, identifier-parts}
use Rattle.laws.proofs.Lists.Spans.{byte-from, part-from}
use Rattle.laws.proofs.Index.Items.{NoFault}
use Rattle.laws.proofs.Index.Entries.{up_to_zero-length}
use Rattle.laws.proofs.Index.Slots.{slot_same}

-- ---- what is judged of them
unfoldable pub ends_good : List ℕ → Geometry → Bool
ends_good s g = marker_good s g && identifier_good g.edition s

pub ends-good : (s : List ℕ) (g : Geometry) (is : List Item) → index_sound s g is ≡ true → (ends_good s g ≡ true) × NoFault is
unfolding index_sound ends_good
ends-good s g is e = and-true (marker_good s g && identifier_good g.edition s) (all (λ i. not (is_fault i)) is) e

pub good-ends : (s : List ℕ) (g : Geometry) (is : List Item) → ends_good s g ≡ true → NoFault is → index_sound s g is ≡ true
unfolding index_sound ends_good
good-ends s g is e f = and_both (marker_good s g && identifier_good g.edition s) (all (λ i. not (is_fault i)) is) e f

pub name-fits : (s : List ℕ) → length (volume_name s) ≤ 52
unfolding volume_name volume_field part
name-fits s = omega (arith, up_to_zero-length (volume_field s), length-take 52 (drop (identifier_at s + 12) s))

-- a part starts with the byte at its place
part-first : (s bs : List ℕ) (at : ℕ) → part s at slot_bytes ≡ bs → byte_at s at ≡ byte_at bs 0
unfolding byte_at
part-first s bs at e =
    ap (λ (i : ℕ). get_or s i 0) (omega arith) ∙ sym (get_d_part s at slot_bytes 0 (omega arith)) ∙ ap (λ (x : List ℕ). get_or x 0 0) e

-- the identifier is judged by its slot
pub identifier-same : (ed : Edition) (s t : List ℕ) → length t ≡ length s → drop (identifier_at s) t ≡ drop (identifier_at s) s → identifier_good ed t ≡ identifier_good ed s
unfolding identifier_good volume_name volume_field identifier_at
identifier-same ed s t long same =
    let at : ℕ = length s - slot_bytes in
    rw (long, byte-from s t at same at (omega arith), part-from s t at same at slot_bytes (omega arith), part-from s t at same (at + 12) 52 (omega arith))

-- and the marker by its own
pub ends_same : (s t : List ℕ) (g h : Geometry) → length t ≡ length s → h.edition ≡ g.edition → h.index_bytes ≡ g.index_bytes
    → part t (slot_at s g 0) slot_bytes ≡ part s (slot_at s g 0) slot_bytes → drop (identifier_at s) t ≡ drop (identifier_at s) s → ends_good t h ≡ ends_good s g
unfolding ends_good marker_good
ends_same s t g h long edition index marker same =
    let first : byte_at t (slot_at s g 0) ≡ byte_at s (slot_at s g 0) = part-first t _ (slot_at s g 0) marker ∙ sym (part-first s _ (slot_at s g 0) refl) in
    rw (slot_same s t g h long index 0, edition, first, marker, identifier-same g.edition s t long same)

pub marker-type : (ed : Edition) → get_or (marker_bytes ed) 0 0 ≡ type_marker
unfolding marker_bytes entry_bytes padded
marker-type ed = refl

pub marker-sum : (ed : Edition) → sum_good ed (marker_bytes ed) ≡ true
unfolding marker_bytes
marker-sum ed = entry-sum ed type_marker [] slot_bytes

marker-good : (s : List ℕ) (g : Geometry) → part s (slot_at s g 0) slot_bytes ≡ marker_bytes g.edition → marker_good s g ≡ true
unfolding marker_good byte_at
marker-good s g m =
    let first : byte_at s (slot_at s g 0) ≡ type_marker = part-first s _ (slot_at s g 0) m ∙ marker-type g.edition in
    and_both _ _ (eq-eqb (byte_at s (slot_at s g 0)) type_marker first) (ap (sum_good g.edition) m ∙ marker-sum g.edition)

-- a marker of its own
pub with-marker : (s : List ℕ) (g : Geometry) → part s (slot_at s g 0) slot_bytes ≡ marker_bytes g.edition → identifier_good g.edition s ≡ true → ends_good s g ≡ true
unfolding ends_good
with-marker s g m i = and_both _ _ (marker-good s g m) i

pub ends-identifier : (s : List ℕ) (g : Geometry) → ends_good s g ≡ true → identifier_good g.edition s ≡ true
unfolding ends_good
ends-identifier s g e = (and-true (marker_good s g) (identifier_good g.edition s) e).1

-- ---- a field that holds a text and zeros behind it
padded-zero : (xs : List ℕ) (n : ℕ) → length xs < n → padded xs n ≡ xs ++ 0 ∷ replicate (n - length xs - 1) 0
unfolding padded
padded-zero xs n h =
    let some : n - length xs ≡ suc (n - length xs - 1) = omega arith in
    ap (λ (k : ℕ). xs ++ replicate k 0) some

text-back : (name : List ℕ) (n : ℕ) → text_good name ≡ true → length name < n → up_to_zero (padded name n) ≡ name
text-back name n e h = ap up_to_zero (padded-zero name n h) ∙ text-up-to-zero name _ e

text-ends : (name : List ℕ) (n : ℕ) → text_good name ≡ true → length name < n → has_zero (padded name n) ≡ true
text-ends name n e h =
    has_zero-ltb (padded name n)
    ∙ rw (text-back name n e h, length-padded name n (omega arith)) (lt-ltb (length name) n h)

-- ---- an image whose last 128 bytes are a marker and an identifier
module _ (ed : Edition) (t : List ℕ) (z : ℤ) (name : List ℕ) (room : 128 ≤ length t) (ends : part t (length t - 128) 128 ≡ marker_bytes ed ++ identifier_bytes ed z name) where
  ends-marker : part t (length t - 128) slot_bytes ≡ marker_bytes ed
  unfolding part
  ends-marker =
      let here : length t - 128 ≡ length t - 128 + 0 = omega arith in
      ap (λ (at : ℕ). part t at slot_bytes) here
      ∙ sym (part-part t (length t - 128) 128 0 slot_bytes (omega arith))
      ∙ ap (λ (p : List ℕ). part p 0 slot_bytes) ends
      ∙ take_at (marker_bytes ed) (identifier_bytes ed z name) slot_bytes (length-marker ed)

  module _ (good : volume_name_good name ≡ true) where
    named : (text_good name ≡ true) × (length name ≤ 51)
    named = let p = volume-name name good in (volume-text name p.0, p.1)

    written-identifier : part t (identifier_at t) slot_bytes ≡ identifier_bytes ed z name
    unfolding identifier_at
    written-identifier =
        ap (λ (at : ℕ). part t at slot_bytes) (omega arith)
        ∙ sym (part-part t (length t - 128) 128 64 slot_bytes (omega arith))
        ∙ ap (λ (p : List ℕ). part p 64 slot_bytes) ends
        ∙ part-append (marker_bytes ed) (identifier_bytes ed z name) 64 slot_bytes (length-marker ed)
        ∙ take_all slot_bytes (identifier_bytes ed z name) (omega (arith, length-identifier ed z name (omega (arith, named.1))))

    written_type : byte_at t (identifier_at t) ≡ type_identifier
    unfolding identifier_head byte_at
    written_type = part-first t (identifier_bytes ed z name) (identifier_at t) written-identifier ∙ rw (identifier-parts ed z name)

    -- its name stands behind 12 bytes
    ends-field : volume_field t ≡ padded name 52
    unfolding volume_field
    ends-field =
        sym (part-part t (identifier_at t) slot_bytes 12 52 (omega arith))
        ∙ ap (λ (p : List ℕ). part p 12 52) (written-identifier ∙ identifier-parts ed z name)
        ∙ part-append (identifier_head ed z name) (padded name 52) 12 52 (length-identifier_head ed z name)
        ∙ take_all 52 (padded name 52) (omega (arith, length-padded name 52 (omega (arith, named.1))))

    -- the volume's name is what was given
    pub ends-name : volume_name t ≡ name
    unfolding volume_name
    ends-name = ap up_to_zero ends-field ∙ text-back name 52 named.0 (omega (arith, named.1))

    ends-zero : has_zero (volume_field t) ≡ true
    ends-zero = ap has_zero ends-field ∙ text-ends name 52 named.0 (omega (arith, named.1))

    written-good : identifier_good ed t ≡ true
    unfolding identifier_good
    written-good = rw (written_type, written-identifier, identifier-sum, ends-zero, ends-name) (volume-name name good).0

    -- with no slot between them the index is sound
    pub ends-sound : (g : Geometry) → g.edition ≡ ed → g.index_bytes ≡ 128 → index_sound t g [] ≡ true
    unfolding slot_at all
    ends-sound g d i =
        let e : length t - g.index_bytes + slot_bytes * 0 ≡ length t - 128 = omega arith in
        good-ends t g [] (with-marker t g (rw (e, d) ends-marker) (rw d written-good)) refl
