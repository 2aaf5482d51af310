-- Laws of paths: an entry that is live or deleted has a name, and the judgement that paths differ as a search.
use Rattle.std.specs.Prelude.{ℕ, ◌≡◌, Bool, ◌&&◌, ◌||◌, eqb, leb}
use Rattle.std.proofs.Math.Path.{refl}
use Rattle.std.proofs.Common.{sym, ap, subst, ◌∙◌, eqb-true}
use Rattle.std.proofs.Math.Bool.{true, false, not}
use mathlib.Core.List.{List, [], ◌∷◌}
use Rattle.rules.specs.Lists.{all, any, first, first_if, is_some, eq_list}
use Rattle.rules.specs.Lists.Laws.{clash, and-true, eq_list-refl, eq_list-true}
use Rattle.rules.specs.Index.{Entry, live_type, deleted_type, run_type, directory_type, file_type, type_directory, type_file, type_deleted_directory, type_deleted_file}
use Rattle.rules.specs.Paths.{is_live, live_at, lookup, live_from, paths_differ}

-- ---- types
-- what holds of both kinds, live or deleted
two_cases : (a b : ℕ) (P : ℕ → Type 0) → P a → P b → (t : ℕ) → (eqb t a || eqb t b) ≡ true → P t
two_cases a b P x y t h = go (eqb t a) refl h
  where
    go : (c : Bool) → eqb t a ≡ c → (c || eqb t b) ≡ true → P t
    go true e p = subst P (sym (eqb-true t a e)) x
    go false e p = subst P (sym (eqb-true t b p)) y

pub live-cases : (P : ℕ → Type 0) → P type_directory → P type_file → (t : ℕ) → live_type t ≡ true → P t
unfolding live_type
live-cases P d f t h = two_cases type_directory type_file P d f t h

deleted-cases : (P : ℕ → Type 0) → P type_deleted_directory → P type_deleted_file → (t : ℕ) → deleted_type t ≡ true → P t
unfolding deleted_type
deleted-cases P d f t h = two_cases type_deleted_directory type_deleted_file P d f t h

pub run-cases : (P : ℕ → Type 0) → P type_directory → P type_deleted_directory → P type_file → P type_deleted_file → (t : ℕ) → run_type t ≡ true → P t
unfolding run_type directory_type file_type
run-cases P d e f g t h = go (directory_type t) refl h
  where
    go : (c : Bool) → directory_type t ≡ c → (c || file_type t) ≡ true → P t
    go true p q = two_cases type_directory type_deleted_directory P d e t p
    go false p q = two_cases type_file type_deleted_file P f g t q

pub live-run : (t : ℕ) → live_type t ≡ true → run_type t ≡ true
unfolding run_type directory_type file_type
live-run = live-cases (λ t. run_type t ≡ true) refl refl

pub gone-run : (t : ℕ) → deleted_type t ≡ true → run_type t ≡ true
unfolding run_type directory_type file_type
gone-run = deleted-cases (λ t. run_type t ≡ true) refl refl

-- what is live from a slot on has a run
pub from-live : (k : ℕ) (e : Entry) → live_from k e ≡ true → is_live e ≡ true
unfolding live_from
from-live k e h = (and-true (is_live e) (leb k e.slot) h).0

pub from-run : (k : ℕ) (e : Entry) → live_from k e ≡ true → run_type e.kind ≡ true
unfolding is_live
from-run k e h = live-run e.kind (from-live k e h)

-- ---- two paths are compared either way round
pub eq_list-sym : (xs ys : List ℕ) → eq_list xs ys ≡ eq_list ys xs
eq_list-sym xs ys = by (eq_list xs ys) refl (eq_list ys xs) refl
  where
    by : (a : Bool) → eq_list xs ys ≡ a → (b : Bool) → eq_list ys xs ≡ b → a ≡ b
    by true p true q = refl
    by true p false q = clash (sym (eq_list-refl ys) ∙ ap (eq_list ys) (sym (eq_list-true xs ys p)) ∙ q)
    by false p true q = clash (sym (eq_list-refl xs) ∙ ap (eq_list xs) (sym (eq_list-true ys xs q)) ∙ p)
    by false p false q = refl

-- ---- some entry passes where a first one does
pub any-first : {A : Type 0} (p : A → Bool) (xs : List A) → any p xs ≡ is_some (first p xs)
unfolding any first is_some first_if
any-first p [] = refl
any-first p (x ∷ xs) = by (p x) (any-first p xs)
  where
    by : (t : Bool) → any p xs ≡ is_some (first p xs) → (t || any p xs) ≡ is_some (first_if t x (first p xs))
    by true e = refl
    by false e = e

-- ---- no two live entries have one path: a live one looks for its path among those behind it
module _ (e : Entry) where
  pub differ-dead : is_live e ≡ false → (es : List Entry) → all (paths_differ e) es ≡ true
  unfolding all paths_differ
  differ-dead d [] = refl
  differ-dead d (f ∷ fs) = rw d (differ-dead d fs)

  pub differ-live : is_live e ≡ true → (es : List Entry) → all (paths_differ e) es ≡ not (is_some (lookup e.path es))
  unfolding all paths_differ lookup live_at first is_some first_if
  differ-live l [] = refl
  differ-live l (f ∷ fs) = rw (l, eq_list-sym e.path f.path) (by (is_live f) (eq_list f.path e.path) (differ-live l fs))
    where
      by : (a b : Bool) → all (paths_differ e) fs ≡ not (is_some (lookup e.path fs))
          → (not (a && b) && all (paths_differ e) fs) ≡ not (is_some (first_if (a && b) f (lookup e.path fs)))
      by true true r = refl
      by true false r = r
      by false b r = r
