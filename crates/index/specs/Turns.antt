-- What a loop over entries does: a step of the walk read by its answer, and a test over the entries taken one step further.
use Rattle.std.specs.Prelude.{ℕ, ◌≡◌, Bool, true, false, List, [], ◌∷◌, Option, None, Some}
use Rattle.rules.specs.Lists.{all, every_two}
use Rattle.index.specs.declared.Cursor.{Cursor}
use Rattle.slots.specs.declared.Head.{Head}
use Rattle.index.specs.declared.Ahead.{Ahead}
use Rattle.index.specs.Steps.{entries_from, Stops, Arrives, Told, Step}

module _ (s : List ℕ) (c : Cursor) (r : Option Ahead) (stops : Stops s c r) where
  pub stops_end : r ≡ None → entries_from s c ≡ []
  unfolding Stops
  stops_end e = rw e at stops

  pub stops_at : (a : Ahead) → r ≡ Some a → Arrives s c a.here a.rest
  unfolding Stops
  stops_at a e = rw e at stops

module _ (s : List ℕ) (c : Cursor) (r : Option (Head × Cursor)) (told : Told s c r) where
  pub told-end : r ≡ None → entries_from s c ≡ []
  unfolding Told
  told-end e = rw e at told

  pub told-found : (h : Head) (d : Cursor) → r ≡ Some (h, d) → Step s c h d
  unfolding Told
  told-found h d e = rw e at told

-- ---- a test over a list that is empty, or has x first
module _ {A : Type 0} (es : List A) where
  pub all_end : (p : A → Bool) → es ≡ [] → true ≡ all p es
  unfolding all
  all_end p e = rw e

  pub two-end : (r : A → A → Bool) → es ≡ [] → true ≡ every_two r es
  unfolding every_two
  two-end r e = rw e

  module _ (x : A) (xs : List A) (cons : es ≡ x ∷ xs) where
    pub all-stop : (p : A → Bool) → p x ≡ false → false ≡ all p es
    unfolding all
    all-stop p h = rw (cons, h)

    pub all-next : (p : A → Bool) → p x ≡ true → all p xs ≡ all p es
    unfolding all
    all-next p h = rw (cons, h)

    pub two-stop : (r : A → A → Bool) → all (r x) xs ≡ false → false ≡ every_two r es
    unfolding every_two
    two-stop r h = rw (cons, h)

    pub two-next : (r : A → A → Bool) → all (r x) xs ≡ true → every_two r xs ≡ every_two r es
    unfolding every_two
    two-next r h = rw (cons, h)
