-- A delete that keeps, as a change of type: the live entry of the path has a deleted kind, and all stays sound. Assumes nothing.
use mathlib.Core.Path.{◌≡◌, ap, ◌∙◌}
use mathlib.Core.Bool.{true, false}
use mathlib.Core.List.{List, map}
use Prim.Native.Nat.{ℕ}
use lib.IntN.{ℤ}
use Rattle.rules.specs.Index.{Entry}
use Rattle.rules.specs.Paths.{is_live, live_at, paths_sound, any_below}
use Rattle.rules.specs.Writing.{deleted_kind}
use Rattle.laws.proofs.Index.Entries.{retyped_entry}
use Rattle.laws.proofs.Entries.EntryKinds.{live-run, deleted-run, deleted-file, deleted-gone}
use Rattle.laws.proofs.Entries.Paths.{TakesAway, paths-delete, live_at-says}
use Rattle.laws.proofs.Entries.Retyping.{Retypes, retype_at, retype-here, retype-other}

abbrev pub delete_at : List ℕ → ℤ → Entry → Entry
delete_at path stamp = retype_at (live_at path) deleted_kind stamp

module _ (path : List ℕ) where
  pub deletes : Retypes (live_at path) deleted_kind
  deletes = record { named = λ e h. live-run e (live_at-says path e h).0; run = deleted-run; file = deleted-file }

  module _ (stamp : ℤ) where
    pub takes-away : TakesAway path (delete_at path stamp)
    unfolding retyped_entry is_live
    takes-away = record {
      gone = λ e h. ap is_live (retype-here (live_at path) deleted_kind stamp e h) ∙ deleted-gone e.kind;
      others = λ e h. let q = retype-other (live_at path) deleted_kind stamp e h in
          record { kind = ap (λ (x : Entry). x.kind) q; path = ap (λ (x : Entry). x.path) q };
    }

    pub delete-paths : (es : List Entry) → any_below path es ≡ false → paths_sound es ≡ true → paths_sound (map (delete_at path stamp) es) ≡ true
    delete-paths es b h = paths-delete path (delete_at path stamp) es takes-away b h
