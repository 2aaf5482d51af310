-- What is known of every entry of an image that opens. Assumes nothing.
use mathlib.Core.Path.{◌≡◌, refl, sym, ◌∙◌}
use mathlib.Core.Bool.{Bool, true, false, ◌&&◌, ◌||◌, not}
use mathlib.Core.List.{List}
use Prim.Native.Nat.{ℕ}
use lib.Dec.{leb}
use borrow.Author.Tests.{eq-eqb}
use Rattle.rules.specs.Lists.{All}
use Rattle.rules.specs.Lists.Laws.{clash, or-false}
use Rattle.rules.specs.Names.{path_good}
use Rattle.rules.specs.Editions.{Edition, keeps_deleted, takes_stray}
use Rattle.rules.specs.Index.{Entry, run_type, file_type, deleted_type, stale_type, type_unusable}
use Rattle.rules.specs.Paths.{is_deleted}
use Rattle.rules.specs.Refusals.{Volume, entries}
use Rattle.rules.specs.Refusals.Laws.{Opens}
use Rattle.laws.proofs.Index.Entries.{every-entry, run-fresh, run-path, run-bare, unusable-kind, unusable-bare}
use Rattle.laws.proofs.Entries.EntryKinds.{run-usable, deleted-named}
use Rattle.laws.proofs.Entries.Regions.{Settled}

-- only a file has bytes
abbrev pub Bare : Entry → Type 0
Bare e = file_type e.kind ≡ false → e.length ≡ 0

-- an entry with a name has a good path
abbrev pub Named : Entry → Type 0
Named e = run_type e.kind ≡ true → path_good e.path ≡ true

unusable-named : (e : Entry) → e.kind ≡ type_unusable → Named e
unusable-named e u r = clash (sym (eq-eqb e.kind type_unusable u) ∙ run-usable e.kind r)

-- a deleted kind is left over where they are not kept
deleted-keeps : (ed : Edition) (t : ℕ) → stale_type ed t ≡ false → deleted_type t ≡ true → keeps_deleted ed ≡ true
unfolding stale_type
deleted-keeps ed t f d = by (keeps_deleted ed) f
  where
    by : (b : Bool) → ((not b && deleted_type t) || (takes_stray ed && leb 0x20 t)) ≡ false → b ≡ true
    by true q = refl
    by false q = clash (sym d ∙ (or-false (deleted_type t) (takes_stray ed && leb 0x20 t) q).0)

module _ (s : List ℕ) (v : Volume) (o : Opens s v) where
  abbrev ed : Edition
  ed = v.geometry.edition

  -- one that is neither a file nor unusable has no region
  pub settled-entries : All Settled (entries v)
  settled-entries =
      rw o.items-are
      (every-entry Settled s v.geometry (λ left k a e h f u. let b = run-bare ed left k a e h f in record { start = b.0; end = b.1 }) (λ k a e h f u. clash (rw (unusable-kind ed k a e h) at u)))

  pub bare-entries : All Bare (entries v)
  bare-entries = rw o.items-are (every-entry Bare s v.geometry (λ left k a e h f. (run-bare ed left k a e h f).2) (λ k a e h f. (unusable-bare ed k a e h).0))

  pub named-entries : All Named (entries v)
  named-entries =
      rw o.items-are
      (every-entry Named s v.geometry (λ left k a e h r. run-path ed left k a e h) (λ k a e h. unusable-named e (unusable-kind ed k a e h)))

  -- a deleted entry is one where deleted entries are kept
  pub deleted-entries : All (λ e. is_deleted e ≡ true → keeps_deleted ed ≡ true) (entries v)
  unfolding is_deleted
  deleted-entries =
      rw o.items-are
      (every-entry (λ e. is_deleted e ≡ true → keeps_deleted ed ≡ true) s v.geometry (λ left k a e h d. deleted-keeps ed e.kind (run-fresh ed left k a e h) d)
      (λ k a e h d. clash (sym (eq-eqb e.kind type_unusable (unusable-kind ed k a e h)) ∙ run-usable e.kind (deleted-named e d))))
