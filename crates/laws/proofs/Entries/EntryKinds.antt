-- Kinds of entries: a live one and what it is when deleted, a deleted one and what it is when restored. Assumes nothing.
use Prim.Native.Nat.{ℕ}
use mathlib.Core.Path.{◌≡◌, refl, sym}
use mathlib.Core.Bool.{Bool, true, false, ◌||◌, not}
use lib.Dec.{eqb}
use borrow.Author.Tests.{ne_eqb}
use Rattle.rules.specs.Lists.{pick}
use Rattle.rules.specs.Lists.Laws.{clash}
use Rattle.rules.specs.Index.{Entry, file_type, directory_type, run_type, live_type, deleted_type, type_file, type_directory, type_deleted_file, type_deleted_directory, type_unusable}
use Rattle.rules.specs.Index.Walk.{pick-both}
use Rattle.rules.specs.Paths.{is_live, is_deleted}
use Rattle.rules.specs.Paths.Laws.{live-cases, run-cases, live-run as live-type, gone-run}
use Rattle.rules.specs.Writing.{deleted_kind, live_kind}

-- ---- live and deleted entries are runs', and a run's is one or the other
pub live-run : (e : Entry) → is_live e ≡ true → run_type e.kind ≡ true
unfolding is_live
live-run e = live-type e.kind

pub deleted-named : (e : Entry) → is_deleted e ≡ true → run_type e.kind ≡ true
unfolding is_deleted
deleted-named e = gone-run e.kind

pub run-either : (e : Entry) → run_type e.kind ≡ true → (is_live e || is_deleted e) ≡ true
unfolding is_live is_deleted live_type deleted_type
run-either e = run-cases (λ t. (live_type t || deleted_type t) ≡ true) refl refl refl refl e.kind

pub live-kept : (e : Entry) → is_live e ≡ true → not (is_deleted e) ≡ true
unfolding is_live is_deleted deleted_type
live-kept e = live-cases (λ t. not (deleted_type t) ≡ true) refl refl e.kind

-- a run's kind is not the unusable one
pub run-usable : (t : ℕ) → run_type t ≡ true → eqb t type_unusable ≡ false
unfolding run_type directory_type file_type
run-usable t r = ne_eqb t type_unusable (λ e. clash (sym (rw e at r)))

-- ---- what an entry is when deleted, and when restored: a file stays one
kind-file : (f d : ℕ) → file_type f ≡ true → file_type d ≡ false → (b : Bool) → file_type (pick b f d) ≡ b
unfolding pick
kind-file f d x y true = x
kind-file f d x y false = y

pub deleted-file : (t : ℕ) → file_type (deleted_kind t) ≡ file_type t
unfolding deleted_kind file_type
deleted-file t = kind-file type_deleted_file type_deleted_directory refl refl (file_type t)

pub live-file : (t : ℕ) → file_type (live_kind t) ≡ file_type t
unfolding live_kind file_type
live-file t = kind-file type_file type_directory refl refl (file_type t)

pub deleted-run : (t : ℕ) → run_type (deleted_kind t) ≡ true
unfolding deleted_kind run_type directory_type file_type
deleted-run t = pick-both (λ (u : ℕ). run_type u ≡ true) (file_type t) type_deleted_file type_deleted_directory refl refl

pub live-runs : (t : ℕ) → run_type (live_kind t) ≡ true
unfolding live_kind run_type directory_type file_type
live-runs t = pick-both (λ (u : ℕ). run_type u ≡ true) (file_type t) type_file type_directory refl refl

pub deleted-gone : (t : ℕ) → live_type (deleted_kind t) ≡ false
unfolding live_type deleted_kind
deleted-gone t = pick-both (λ (u : ℕ). live_type u ≡ false) (file_type t) type_deleted_file type_deleted_directory refl refl

pub deleted-is : (t : ℕ) → deleted_type (deleted_kind t) ≡ true
unfolding deleted_type deleted_kind
deleted-is t = pick-both (λ (u : ℕ). deleted_type u ≡ true) (file_type t) type_deleted_file type_deleted_directory refl refl

pub live_back : (t : ℕ) → live_type (live_kind t) ≡ true
unfolding live_type live_kind
live_back t = pick-both (λ (u : ℕ). live_type u ≡ true) (file_type t) type_file type_directory refl refl

-- restored after it was deleted, a live kind is what it was
pub live-again : (t : ℕ) → live_type t ≡ true → live_kind (deleted_kind t) ≡ t
unfolding live_kind deleted_kind file_type pick
live-again = live-cases (λ t. live_kind (deleted_kind t) ≡ t) refl refl

-- a live kind is its own
pub live-kind : (t : ℕ) → live_type t ≡ true → live_kind t ≡ t
unfolding live_kind file_type pick
live-kind = live-cases (λ t. live_kind t ≡ t) refl refl
