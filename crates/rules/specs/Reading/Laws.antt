-- Laws of the reading calls: the ways that a call can end. Of an entry that read found, the code's crate has the other ends.
use Rattle.std.specs.Prelude.{ℕ, ◌≤◌, ◌<◌, ◌≡◌, true, false, length}
use Rattle.std.proofs.Common.{ap, ◌∙◌, le-leb, eq-eqb}
use mathlib.Core.List.{List, []}
use Rattle.std.proofs.Math.Option.{none, some}
use Rattle.std.proofs.lemmas.Bool.{lt-leb}
use Rattle.rules.specs.Fields.{splice}
use Rattle.rules.specs.Editions.{Edition}
use Rattle.rules.specs.Names.{path_good}
use Rattle.rules.specs.Index.{Entry, volume_name, type_file}
use Rattle.rules.specs.Paths.{lookup, next_live}
use Rattle.rules.specs.Refusals.{refused, accepted, Volume, entries, judge}
use Rattle.rules.specs.Refusals.Laws.{need-true, need-false, found_none, found_some}
use Rattle.rules.specs.Outcome.{Outcome, done, conclude, no_volume, no_entry, ListedNumbers, none_listed, numbers_of}
use Rattle.rules.specs.Outcome.Laws.{denied, conclude-refused, conclude-accepted, volume-refused, volume-judged, volume-denied, volume-done}
use Rattle.rules.specs.Reading.{open_of, volume_numbers, find_of, read_of, file_bytes, list_of, listed}

-- ---- an image that does not open
module _ (s : List ℕ) (n : ℕ) (bad : judge s ≡ refused n) where
  pub open-refused : (out : List ℕ) → open_of s out ≡ denied no_volume s out n
  unfolding open_of
  open-refused out = volume-refused no_volume s out _ n bad

  pub find-refused : (path : List ℕ) → find_of s path ≡ denied no_entry s [] n
  unfolding find_of
  find-refused path = volume-refused no_entry s [] _ n bad

  pub read-refused : (path out : List ℕ) → read_of s path out ≡ denied 0 s out n
  unfolding read_of
  read-refused path out = volume-refused 0 s out _ n bad

  pub list-refused : (slot : ℕ) (out : List ℕ) → list_of s slot out ≡ denied none_listed s out n
  unfolding list_of
  list-refused slot out = volume-refused none_listed s out _ n bad

-- ---- one that opens
module _ (s : List ℕ) (v : Volume) (opens : judge s ≡ accepted v) where
  pub open-short : (out : List ℕ) → length out < length (volume_name s) → open_of s out ≡ denied no_volume s out 18
  unfolding open_of
  open-short out h = volume-denied no_volume s out _ v 18 opens (need-false 18 _ (lt-leb (length (volume_name s)) (length out) h))

  pub open_done : (out : List ℕ) → length (volume_name s) ≤ length out
      → open_of s out ≡ done (volume_numbers s v.geometry) s (splice out 0 (volume_name s))
  unfolding open_of
  open_done out h = volume-done no_volume s out _ v _ opens (need-true 18 _ (le-leb (length (volume_name s)) (length out) h))

  module _ (path : List ℕ) where
    pub find-name : path_good path ≡ false → find_of s path ≡ denied no_entry s [] 10
    unfolding find_of
    find-name p = volume-denied no_entry s [] _ v 10 opens (need-false 10 _ p)

    pub find_none : path_good path ≡ true → lookup path (entries v) ≡ none → find_of s path ≡ denied no_entry s [] 11
    unfolding find_of
    find_none p e = volume-denied no_entry s [] _ v 11 opens (need-true 10 _ p ∙ found_none 11 _ e)

    pub find-done : (e : Entry) → path_good path ≡ true → lookup path (entries v) ≡ some e → find_of s path ≡ done (numbers_of v.geometry.edition e) s []
    unfolding find_of
    find-done e p f = volume-done no_entry s [] _ v _ opens (need-true 10 _ p ∙ found_some 11 _ f)

    module _ (out : List ℕ) where
      pub read_name : path_good path ≡ false → read_of s path out ≡ denied 0 s out 10
      unfolding read_of
      read_name p = volume-denied 0 s out _ v 10 opens (need-false 10 _ p)

      pub read_none : path_good path ≡ true → lookup path (entries v) ≡ none → read_of s path out ≡ denied 0 s out 11
      unfolding read_of
      read_none p e = volume-denied 0 s out _ v 11 opens (need-true 10 _ p ∙ found_none 11 _ e)

      pub read_done : (e : Entry) → path_good path ≡ true → lookup path (entries v) ≡ some e → e.kind ≡ type_file → e.length ≤ length out
          → read_of s path out ≡ done e.length s (splice out 0 (file_bytes s v.geometry e))
      unfolding read_of
      read_done e p f k h =
          volume-done 0 s out _ v _ opens
          (need-true 10 _ p ∙ found_some 11 _ f ∙ need-true 17 _ (eq-eqb e.kind type_file k) ∙ need-true 18 _ (le-leb e.length (length out) h))

  module _ (slot : ℕ) (out : List ℕ) where
    pub list-none : next_live slot (entries v) ≡ none → list_of s slot out ≡ done none_listed s out
    unfolding list_of listed
    list-none e = volume-done none_listed s out _ v _ opens (ap (listed v.geometry.edition s out) e)

-- ---- list, from the entry on that it found
unfoldable pub list_entry : Edition → List ℕ → Entry → List ℕ → Outcome ListedNumbers
list_entry ed s e out = conclude none_listed s out (listed ed s out (some e))

module _ (ed : Edition) (s : List ℕ) (e : Entry) (out : List ℕ) where
  pub path-short : length out < length e.path → list_entry ed s e out ≡ denied none_listed s out 18
  unfolding list_entry listed
  path-short h = conclude-refused none_listed s out 18 (need-false 18 _ (lt-leb (length e.path) (length out) h))

  pub path-done : length e.path ≤ length out
      → list_entry ed s e out ≡ done (record { found = numbers_of ed e; path_length = length e.path }) s (splice out 0 e.path)
  unfolding list_entry listed
  path-done h = conclude-accepted none_listed s out _ (need-true 18 _ (le-leb (length e.path) (length out) h))

pub list-found : (s : List ℕ) (v : Volume) → judge s ≡ accepted v → (slot : ℕ) (e : Entry) (out : List ℕ) → next_live slot (entries v) ≡ some e
    → (ed : Edition) → ed ≡ v.geometry.edition → list_of s slot out ≡ list_entry ed s e out
unfolding list_of list_entry
list-found s v opens slot e out f ed of = rw of (volume-judged none_listed s out _ v opens ∙ ap (λ x. conclude none_listed s out (listed v.geometry.edition s out x)) f)
