-- Tests over entries, one at a time.
use Rattle.std.specs.Prelude.{ℕ, ◌≡◌, Bool, ◌&&◌, ◌||◌, ◌⊎◌, leb}
use Rattle.std.proofs.Math.Path.{refl, ap}
use Rattle.std.proofs.Common.{sym, ap₂, ◌∙◌, inl, inr, eqb-true}
use Rattle.std.proofs.Math.Bool.{true, false}
use mathlib.Core.List.{List, [], ◌∷◌}
use Rattle.std.proofs.Math.Dec.{eqb}
use Rattle.rules.specs.Lists.{pick, All, any, only, eq_list}
use Rattle.rules.specs.Lists.Laws.{clash, and-true, and_left, or-false, or-other, only-nil, only_yes, only_no}
use Rattle.rules.specs.Fields.{has_zero}
use Rattle.rules.specs.Editions.{Edition, keeps_deleted}
use Rattle.rules.specs.Index.{Entry, run_type, directory_type, file_type, live_type, deleted_type, stale_type, entries_of, walk_all, type_directory, type_file, type_deleted_directory, type_deleted_file, name_good}
use Rattle.rules.specs.Index.Laws.{keeps-fresh, live-fresh, stale-some}
use Rattle.rules.specs.Index.Items.{entry_type}
use Rattle.rules.specs.Paths.{is_deleted, deleted_at, is_directory_at, directory_live}
use Rattle.rules.specs.Names.{slash, is_below}
use Rattle.rules.specs.Comparing.{looked}
use Rattle.laws.proofs.Index.Entries.{run-fresh, unusable-kind, of-walk}
use Rattle.comparing.specs.Walk.{is_then}
use Rattle.comparing.specs.Names.{then-path, then-below}
use Rattle.slots.specs.declared.Spot.{Spot}
use Rattle.slots.specs.View.{spot_view, SpotIn, path-is}
use Rattle.paths.specs.declared.Sought.{Sought}
use Rattle.paths.specs.View.{sought_kind, reaches, passes, compares, StartsRun, OfRuns, name_of, spot_looked}

-- ---- a turn of a walk over es: none is left, or x is next and xs behind it
module _ (p : Entry → Bool) (es : List Entry) where
  pub only_end : es ≡ [] → only p es ≡ []
  only_end e = rw e (only-nil p)

  module _ (x : Entry) (xs : List Entry) (next : es ≡ x ∷ xs) where
    pub only-stop : p x ≡ true → only p es ≡ x ∷ only p xs
    only-stop t = rw next (only_yes p x xs t)

    pub only_next : p x ≡ false → only p xs ≡ only p es
    only_next t = sym (rw next (only_no p x xs t))

-- ---- the name of a run, compared
module _ (s p : List ℕ) (e : Spot) (here : SpotIn s e) (run : run_type e.kind ≡ true) where
  pub name-is : is_then 0 (name_of s e) p ≡ eq_list (spot_view s e).path p
  unfolding name_good spot_view
  name-is =
      let z = (and-true (has_zero (name_of s e)) _ (here.named run)).0 in
      then-path (name_of s e) p z ∙ ap (λ x. eq_list x p) (sym (path-is _ s _ _ _ here run))

  pub name_below : is_then slash (name_of s e) p ≡ is_below p (spot_view s e).path
  unfolding spot_view
  name_below = then-below (name_of s e) p ∙ ap (is_below p) (sym (path-is _ s _ _ _ here run))

  -- by the byte that is to stand behind the path
  pub name-reaches : (end : ℕ) → (end ≡ 0) ⊎ (end ≡ slash) → is_then end (name_of s e) p ≡ reaches end p (spot_view s e).path
  unfolding reaches pick
  name-reaches end (inl z) = rw z name-is
  name-reaches end (inr z) = rw z name_below

-- ---- an entry, tried by its type first
module _ (ed : Edition) (what : Sought) (t : ℕ) (of : OfRuns ed what) where
  sought-starts : sought_kind what t ≡ true → StartsRun ed t
  unfolding sought_kind
  sought-starts e = by (eqb t what.one) refl
    where
      by : (b : Bool) → eqb t what.one ≡ b → StartsRun ed t
      by true a = rw (eqb-true t what.one a) of.one
      by false a = rw (eqb-true t what.other (or-other _ _ e a)) of.other

  pub sought-run : sought_kind what t ≡ true → run_type t ≡ true
  sought-run e = (sought-starts e).0

  pub sought-entry : sought_kind what t ≡ true → entry_type ed t ≡ true
  unfolding entry_type
  sought-entry e = rw ((sought-starts e).0, (sought-starts e).1)

  pub unsought : entry_type ed t ≡ false → sought_kind what t ≡ false
  unsought f = by (sought_kind what t) refl
    where
      by : (b : Bool) → sought_kind what t ≡ b → b ≡ false
      by true e = clash (sym (sought-entry e) ∙ f)
      by false e = refl

module _ (s p : List ℕ) (e : Spot) (what : Sought) where
  -- what a trial answers
  abbrev pub Tried : Bool → ℕ → Type 0
  Tried same n = (same ≡ passes what p (spot_view s e)) × (n ≡ spot_looked s e what p)

  pub tried-not : sought_kind what e.kind ≡ false → Tried false 0
  unfolding passes compares spot_looked spot_view pick
  tried-not t = rw t (refl, refl)

  pub tried : (same : Bool) (n : ℕ) → sought_kind what e.kind ≡ true → same ≡ reaches what.end p (spot_view s e).path → n ≡ looked (name_of s e) p → Tried same n
  unfolding passes compares spot_looked spot_view pick
  tried same n t q count = rw t (q, count)

  -- a name that is compared is a run's
  pub compared-run : (ed : Edition) → OfRuns ed what → compares what (spot_view s e) ≡ true → run_type e.kind ≡ true
  unfolding compares spot_view
  compared-run ed of t = sought-run ed what e.kind of t

-- ---- the four searches
abbrev sought_by : ℕ → ℕ → ℕ → Sought
sought_by one other end = record { one = one; other = other; end = end }

pub of_live : (ed : Edition) → OfRuns ed (sought_by type_directory type_file 0)
unfolding run_type directory_type file_type live_type
of_live ed = record { one = (refl, live-fresh ed type_directory refl); other = (refl, live-fresh ed type_file refl); end = inl refl }

pub of-deleted : (ed : Edition) → keeps_deleted ed ≡ true → OfRuns ed (sought_by type_deleted_directory type_deleted_file 0)
unfolding run_type directory_type file_type
of-deleted ed k = record { one = (refl, keeps-fresh ed _ k); other = (refl, keeps-fresh ed _ k); end = inl refl }

pub of-directory : (ed : Edition) → OfRuns ed (sought_by type_directory type_directory 0)
unfolding run_type directory_type file_type live_type
of-directory ed = record { one = (refl, live-fresh ed type_directory refl); other = (refl, live-fresh ed type_directory refl); end = inl refl }

pub of-below : (ed : Edition) → OfRuns ed (sought_by type_directory type_file slash)
unfolding run_type directory_type file_type live_type
of-below ed = record { one = (refl, live-fresh ed type_directory refl); other = (refl, live-fresh ed type_file refl); end = inr refl }

either_same : (b : Bool) → (b || b) ≡ b
either_same true = refl
either_same false = refl

pub any-directory : (p : List ℕ) (es : List Entry) → any (passes (sought_by type_directory type_directory 0) p) es ≡ directory_live es p
unfolding any passes sought_kind reaches pick directory_live is_directory_at
any-directory p [] = refl
any-directory p (e ∷ es) = ap₂ (λ (a b : Bool). a && eq_list e.path p || b) (either_same (eqb e.kind type_directory)) (any-directory p es)

-- ---- deleted entries
module _ (p : List ℕ) where
  undeleted : (e : Entry) → is_deleted e ≡ false → deleted_at p e ≡ false
  unfolding deleted_at
  undeleted e h = and_left _ _ h

  pub none-deleted : (es : List Entry) → All (λ e. is_deleted e ≡ false) es → only (deleted_at p) es ≡ []
  none-deleted [] h = only-nil (deleted_at p)
  none-deleted (e ∷ es) h = only_no (deleted_at p) e es (undeleted e h.0) ∙ none-deleted es h.1

  pub any_none : (es : List Entry) → All (λ e. is_deleted e ≡ false) es → any (deleted_at p) es ≡ false
  unfolding any
  any_none [] h = refl
  any_none (e ∷ es) h = rw (undeleted e h.0) (any_none es h.1)

-- where they are not kept, no entry is deleted
module _ (ed : Edition) (keeps : keeps_deleted ed ≡ false) where
  fresh-undeleted : (t : ℕ) → stale_type ed t ≡ false → deleted_type t ≡ false
  fresh-undeleted t f = (or-false (deleted_type t) (leb 0x20 t) (sym (stale-some ed t keeps) ∙ f)).0

  pub all-undeleted : (left k : ℕ) (a : List ℕ) → All (λ e. is_deleted e ≡ false) (entries_of (walk_all ed left k a))
  unfolding walk_all is_deleted deleted_type
  all-undeleted left k a =
      of-walk ed (λ e. deleted_type e.kind ≡ false)
      (λ l j b e h. fresh-undeleted e.kind (run-fresh ed l j b e h)) (λ j b e h. rw (unusable-kind ed j b e h)) left left k a
