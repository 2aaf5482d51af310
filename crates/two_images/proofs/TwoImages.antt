-- 01, the end of "The calls": two images that open and agree in the super-block, the index area and the blocks of live files
-- give equal answers to find, read and list, and so to list all. Assumes nothing.
use Prim.Native.Nat.{ℕ, zero, suc, ◌*◌}
use mathlib.Core.Path.{◌≡◌, refl, sym, ap, ap₂, ◌∙◌}
use mathlib.Core.Bool.{Bool, true, false}
use mathlib.Core.List.{List, []}
use mathlib.Core.Option.{Option, none, some}
use lib.ListN.{length, drop}
use lib.Dec.{eqb, leb}
use borrow.Author.Tests.{eqb-true}
use Rattle.rules.specs.Lists.{part}
use Rattle.rules.specs.Lists.Laws.{and_both}
use Rattle.rules.specs.Fields.{splice}
use Rattle.rules.specs.Editions.{Edition}
use Rattle.rules.specs.SuperBlock.{Geometry, block_length, geometry_of}
use Rattle.rules.specs.SuperBlock.Laws.{sealed-part, geometry-same}
use Rattle.rules.specs.Names.{path_good}
use Rattle.rules.specs.Index.{Entry, file_type, live_type, type_file, items_of}
use Rattle.rules.specs.Index.Frame.{take_same}
use Rattle.rules.specs.Regions.{blocks_of}
use Rattle.rules.specs.Paths.{is_live, live_at, lookup, next_live}
use Rattle.rules.specs.Refusals.{Verdict, accepted, need, need_found, and_then, Volume, entries, judge}
use Rattle.rules.specs.Refusals.Laws.{judge-opens}
use Rattle.rules.proofs.Refusals.Laws.{edition-same}
use Rattle.rules.specs.Outcome.{Outcome, done, conclude, on_volume, no_entry, numbers_of, none_listed}
use Rattle.rules.specs.Reading.{find_of, read_of, list_of, listed, file_bytes}
use Rattle.rules.specs.Records.{number_bytes, record_of, record_step, records_from, no_records, records_outcome, list_all_of}
use Rattle.rules.specs.History.{Agree, SameAnswer, TwoImages}
use Rattle.laws.proofs.Lists.Parts.{some_same}
use Rattle.laws.proofs.Lists.Every.{only-says, first_says, all_first}
use Rattle.laws.proofs.Entries.Regions.{sound-says, file-region}
use Rattle.two_images.specs.Unseen.{live_file}
use Rattle.two_images.proofs.Seen.{items-same}

-- ---- what two images were told: alike, where the tests are the same and what is left at the end is
module _ {A : Type 0} (zeros : A) (s t out : List ℕ) where
  abbrev Alike : Verdict (Outcome A) → Verdict (Outcome A) → Type 0
  Alike x y = SameAnswer (conclude zeros s out x) (conclude zeros t out y)

  alike-done : (a : A) (o p : List ℕ) → o ≡ p → Alike (accepted (done a s o)) (accepted (done a t p))
  unfolding conclude done
  alike-done a o p e = record { refusals = refl; answers = refl; outputs = e }

  alike-need : (b : Bool) (n : ℕ) (x y : Verdict (Outcome A)) → (b ≡ true → Alike x y) → Alike (need b n x) (need b n y)
  unfolding need conclude
  alike-need true n x y h = h refl
  alike-need false n x y h = record { refusals = refl; answers = refl; outputs = refl }

  alike-found : {B : Type 0} (o : Option B) (n : ℕ) (f g : B → Verdict (Outcome A))
      → ((e : B) → o ≡ some e → Alike (f e) (g e)) → Alike (need_found o n f) (need_found o n g)
  unfolding need_found conclude
  alike-found none n f g h = record { refusals = refl; answers = refl; outputs = refl }
  alike-found (some e) n f g h = h e refl

  alike-volume : (v : Volume) (f g : Volume → Verdict (Outcome A)) → judge s ≡ accepted v → judge t ≡ accepted v
      → Alike (f v) (g v) → SameAnswer (on_volume zeros s out f) (on_volume zeros t out g)
  unfolding on_volume and_then
  alike-volume v f g p q h = rw (p, q) h

-- ---- the calls on two images that open as one volume
module _ (s t : List ℕ) (v : Volume) (first : judge s ≡ accepted v) (second : judge t ≡ accepted v) where
  same-find : (path : List ℕ) → SameAnswer (find_of s path) (find_of t path)
  unfolding find_of
  same-find path =
      alike-volume no_entry s t [] v _ _ first second
      (alike-need no_entry s t [] (path_good path) 10 _ _ (λ _.
      alike-found no_entry s t [] (lookup path (entries v)) 11 _ _ (λ e _.
      alike-done no_entry s t [] (numbers_of v.geometry.edition e) [] [] refl)))

  alike-listed : (ed : Edition) (out : List ℕ) (o : Option Entry) → Alike none_listed s t out (listed ed s out o) (listed ed t out o)
  unfolding listed
  alike-listed ed out none = alike-done none_listed s t out none_listed out out refl
  alike-listed ed out (some e) =
      alike-need none_listed s t out (leb (length e.path) (length out)) 18 _ _ (λ _.
      alike-done none_listed s t out _ _ _ refl)

  same-list : (slot : ℕ) (out : List ℕ) → SameAnswer (list_of s slot out) (list_of t slot out)
  unfolding list_of
  same-list slot out = alike-volume none_listed s t out v _ _ first second (alike-listed v.geometry.edition out (next_live slot (entries v)))

  -- read asks besides that the bytes of the files that it finds agree
  same_read :
      ((path : List ℕ) (e : Entry) → lookup path (entries v) ≡ some e → e.kind ≡ type_file → file_bytes s v.geometry e ≡ file_bytes t v.geometry e)
      → (path out : List ℕ) → SameAnswer (read_of s path out) (read_of t path out)
  unfolding read_of
  same_read bytes path out =
      alike-volume 0 s t out v _ _ first second
      (alike-need 0 s t out (path_good path) 10 _ _ (λ _.
      alike-found 0 s t out (lookup path (entries v)) 11 _ _ (λ e f.
      alike-need 0 s t out (eqb e.kind type_file) 17 _ _ (λ k.
      alike-need 0 s t out (leb e.length (length out)) 18 _ _ (λ _.
      alike-done 0 s t out e.length _ _ (ap (splice out 0) (bytes path e f (eqb-true e.kind type_file k))))))))

-- ---- they open as one volume, and the files that are found have the same bytes
one-volume : (s t : List ℕ) (a : Agree s t) → judge t ≡ accepted a.volume
one-volume s t a =
    let v = a.other_volume in
    let o = judge-opens s a.volume a.opens in
    let p = judge-opens t v a.other_opens in
    let ed = a.volume.geometry.edition in
    let d : v.geometry.edition ≡ ed = some_same _ _ (sym p.edition-is ∙ edition-same ed t s (sym (sealed-part ed s t a.super_block)) o.edition-is) in
    let g : v.geometry ≡ a.volume.geometry =
    p.geometry-is ∙ ap (λ (x : Edition). geometry_of x t) d ∙ sym (o.geometry-is ∙ geometry-same ed s t a.super_block) in
    let i : v.items ≡ a.volume.items = p.items-are ∙ ap (items_of t) g ∙ sym (o.items-are ∙ items-same s t a.volume.geometry a.index) in
    a.other_opens ∙ ap accepted (ap₂ {C = Volume} (λ h is. record { geometry = h; items = is }) g i)

file-live : (e : Entry) → e.kind ≡ type_file → (is_live e ≡ true) × (file_type e.kind ≡ true)
unfolding is_live live_type file_type
file-live e k = rw k (refl, refl)

abbrev pub SameFile : List ℕ → List ℕ → Geometry → Entry → Type 0
SameFile s t g e = part s (e.start * block_length g) (blocks_of e * block_length g) ≡ part t (e.start * block_length g) (blocks_of e * block_length g)

same_bytes : (s t : List ℕ) (a : Agree s t) (path : List ℕ) (e : Entry) → lookup path (entries a.volume) ≡ some e → e.kind ≡ type_file
    → file_bytes s a.volume.geometry e ≡ file_bytes t a.volume.geometry e
unfolding file_bytes lookup part
same_bytes s t a path e f k =
    let g = a.volume.geometry in
    let es = entries a.volume in
    let l = file-live e k in
    let at = first_says (live_at path) es e f in
    let good = all_first _ (live_at path) es e (sound-says g es (judge-opens s a.volume a.opens).regions-sound).each at in
    let blocks = all_first _ (live_at path) es e (only-says (SameFile s t g) live_file es a.files) at (and_both _ _ l.0 l.1) in
    take_same (blocks_of e * block_length g) _ _ blocks e.length (file-region g e l.1 good).fits

pub two-images : TwoImages
two-images s t a =
    let second = one-volume s t a in
    record {
      finds = same-find s t a.volume a.opens second;
      reads = same_read s t a.volume a.opens second (same_bytes s t a);
      lists = same-list s t a.volume a.opens second;
    }

-- ---- list all is list's answers one after the other, so that it answers alike, too
module _ (s t : List ℕ) (lists : (slot : ℕ) (out : List ℕ) → SameAnswer (list_of s slot out) (list_of t slot out)) where
  recorded-alike : (steps slot : ℕ) (out : List ℕ) → records_from steps s slot out ≡ records_from steps t slot out
  unfolding records_from record_step record_of
  recorded-alike zero slot out = refl
  recorded-alike (suc n) slot out =
      let a = lists slot (drop number_bytes out) in
      rw (a.refusals, a.answers, a.outputs, recorded-alike n)

  pub all_alike : (slot : ℕ) (out : List ℕ) → SameAnswer (list_all_of s slot out) (list_all_of t slot out)
  unfolding list_all_of records_outcome
  all_alike slot out =
      rw (recorded-alike (suc (length out)) slot out)
      (alike-need no_records s t out _ _ _ _ (λ _. alike-done no_records s t out _ _ _ refl))
