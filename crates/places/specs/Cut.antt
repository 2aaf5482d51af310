-- A walk cut before the first live directory that a path lies below.
use Rattle.std.specs.Prelude.{ℕ, ◌-◌, ◌≤◌, ◌≡◌, true, false, drop, eqb}
use Rattle.std.proofs.Math.Path.{refl, sym, ap}
use Rattle.std.proofs.Common.{◌∙◌, arith, eq-eqb, ne_eqb}
use mathlib.Core.List.{List, []}
use Rattle.rules.specs.Lists.{any, only}
use Rattle.rules.specs.Lists.Laws.{and_right, pick_true, pick-false, only-nil, only_yes, only_no, first-chosen, first-unchosen}
use Rattle.rules.specs.Fields.{up_to_zero}
use Rattle.rules.specs.Names.{slash, is_below}
use Rattle.rules.specs.Editions.{before_directories}
use Rattle.rules.specs.Index.{Entry, Item, entries_of, run_type, directory_type, file_type, type_directory, name_field}
use Rattle.rules.specs.Index.Items.{faultless}
use Rattle.rules.specs.Index.Walk.{pick-both}
use Rattle.rules.specs.Writing.{is_above, items_before, places_for}
use Rattle.laws.proofs.Lists.Every.{all_of, none_first}
use Rattle.editions.specs.View.{edition_view}
use Rattle.slots.specs.declared.Spot.{Spot}
use Rattle.slots.specs.View.{path_at, spot_view, SpotIn, path-is}
use Rattle.index.specs.declared.Cursor.{Cursor}
use Rattle.index.specs.View.{items_from}
use Rattle.index.specs.Steps.{Walks, entries_from, Arrives}
use Rattle.places.specs.Slashes.{below-nothing}
use Rattle.places.specs.Before.{CutAt, before-none, cut-nowhere, cut-before, before-faultless}

-- with n slots left the walk has the items before that directory
abbrev pub PlacesBefore : List ℕ → Cursor → List ℕ → ℕ → Type 0
PlacesBefore s c path n = CutAt (edition_view c.edition) c.left c.slot.0 (drop c.at.0 s) (is_above path) n

-- ---- the search for that directory
pub directory-run : (t : ℕ) → t ≡ type_directory → run_type t ≡ true
unfolding run_type directory_type file_type
directory-run t e = rw e

-- of an entry at a spot, by its type and its name
module _ (s path : List ℕ) (e : Spot) where
  pub not-directory : (e.kind ≡ type_directory → ⊥) → false ≡ is_above path (spot_view s e)
  unfolding is_above spot_view
  not-directory d = rw (ne_eqb e.kind type_directory d)

  pub directory-above : SpotIn s e → e.kind ≡ type_directory → is_below (up_to_zero (name_field (edition_view e.edition) (drop e.at.0 s))) path ≡ is_above path (spot_view s e)
  unfolding is_above spot_view
  directory-above i d =
      let n : path_at (edition_view e.edition) s e.at.0 e.kind ≡ up_to_zero (name_field (edition_view e.edition) (drop e.at.0 s)) =
      path-is _ s _ _ _ i (directory-run e.kind d) in
      rw (eq-eqb e.kind type_directory d, n) refl

module _ (s : List ℕ) (c : Cursor) (path : List ℕ) where
  -- none was met from c up to d
  pub record Unmet (d : Cursor) : Type 0 where
    pub walks : Walks s d
    pub ahead : c.slot.0 ≤ d.slot.0
    pub chosen : only (is_above path) (entries_from s d) ≡ only (is_above path) (entries_from s c)

  pub unmet-first : Walks s c → Unmet c
  unmet-first w = record { walks = w; ahead = omega arith; chosen = refl }

  module _ (d : Cursor) (unmet : Unmet d) where
    pub unmet-end : entries_from s d ≡ [] → PlacesBefore s c path c.left
    unmet-end z =
        cut-nowhere (edition_view c.edition) c.left c.slot.0 (drop c.at.0 s) (is_above path)
        (first-unchosen (is_above path) _ (sym unmet.chosen ∙ ap (only (is_above path)) z ∙ only-nil (is_above path)))

    module _ (e : Spot) (rest : Cursor) (step : Arrives s d e rest) where
      pub unmet-next : is_above path (spot_view s e) ≡ false → Unmet rest
      unmet-next t = record {
        walks = step.walks;
        ahead = omega (arith, unmet.ahead, step.ahead, step.number);
        chosen = sym (only_no (is_above path) (spot_view s e) (entries_from s rest) t) ∙ ap (only (is_above path)) (sym step.entries) ∙ unmet.chosen;
      }

      pub unmet-stop : is_above path (spot_view s e) ≡ true → (n : ℕ) → n ≡ e.slot.0 - c.slot.0 → PlacesBefore s c path n
      unfolding spot_view
      unmet-stop t n q =
          rw q
          (cut-before (edition_view c.edition) c.left c.slot.0 (drop c.at.0 s) (is_above path) (spot_view s e)
          (first-chosen (is_above path) _ (spot_view s e) (only (is_above path) (entries_from s rest))
          (sym unmet.chosen ∙ ap (only (is_above path)) step.entries ∙ only_yes (is_above path) (spot_view s e) (entries_from s rest) t)))

-- ---- a cursor at the same place whose items are those where a new entry of the path may go
pub record PlacesFor (s : List ℕ) (c : Cursor) (path : List ℕ) (d : Cursor) : Type 0 where
  pub edition : d.edition ≡ c.edition
  pub at : d.at.0 ≡ c.at.0
  pub slot : d.slot.0 ≡ c.slot.0
  pub less : d.left ≤ c.left
  pub walks : Walks s d
  pub items : items_from s d ≡ places_for (edition_view c.edition) path (items_from s c)

-- nothing stands above a path without a slash
none_above : (path : List ℕ) → any (eqb slash) path ≡ false → (e : Entry) → is_above path e ≡ false
unfolding is_above
none_above path n e = and_right (eqb e.kind type_directory) (is_below e.path path) (below-nothing e.path path n)

module _ (s : List ℕ) (c : Cursor) (path : List ℕ) (walks : Walks s c) where
  places_same : places_for (edition_view c.edition) path (items_from s c) ≡ items_from s c → PlacesFor s c path c
  places_same e = record {
    edition = refl;
    at = refl;
    slot = refl;
    less = omega arith;
    walks = walks;
    items = sym e;
  }

  pub places-all : before_directories (edition_view c.edition) ≡ false → PlacesFor s c path c
  unfolding places_for
  places-all b = places_same (pick-false _ _ b)

  -- a path without a slash may go anywhere
  pub places-top : any (eqb slash) path ≡ false → PlacesFor s c path c
  unfolding places_for
  places-top n =
      let is : List Item = items_from s c in
      let f = none_first (is_above path) (entries_of is) (all_of (λ e. is_above path e ≡ false) (none_above path n) (entries_of is)) in
      places_same (pick-both (λ js. js ≡ is) _ _ _ (before-none (is_above path) is f) refl)

  pub places-cut : before_directories (edition_view c.edition) ≡ true → (n : ℕ) → PlacesBefore s c path n → (d : Cursor) → d.edition ≡ c.edition → d.at.0 ≡ c.at.0 → d.slot.0 ≡ c.slot.0 → d.left ≡ n
      → PlacesFor s c path d
  unfolding places_for
  places-cut b n cut d of at slot left =
      let i = walks.inside in
      let same : items_from s d ≡ items_before (is_above path) (items_from s c) = rw (of, at, slot, left) cut.items in
      record {
        edition = of;
        at = at;
        slot = slot;
        less = omega (arith, left, cut.less);
        walks = record {
          inside = record {
            fits = omega (arith, at, left, cut.less, i.fits);
            short = i.short;
            numbers = omega (arith, slot, left, cut.less, i.numbers);
          };
          sound = ap faultless same ∙ before-faultless (is_above path) (items_from s c) walks.sound;
        };
        items = same ∙ sym (pick_true _ _ b);
      }
