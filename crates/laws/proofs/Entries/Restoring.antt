-- A restore as a change of type: the deleted entry of the path has a live kind. Assumes nothing.
use Prim.Native.Nat.{ℕ}
use mathlib.Core.List.{List}
use lib.IntN.{ℤ}
use Rattle.rules.specs.Index.{Entry}
use Rattle.rules.specs.Paths.{deleted_at}
use Rattle.rules.specs.Writing.{live_kind}
use Rattle.laws.proofs.Entries.EntryKinds.{deleted-named, live-runs, live-file}
use Rattle.laws.proofs.Entries.Paths.{deleted_at-says}
use Rattle.laws.proofs.Entries.Retyping.{Retypes, retype_at}

abbrev pub restore_at : List ℕ → ℤ → Entry → Entry
restore_at path stamp = retype_at (deleted_at path) live_kind stamp

pub restores : (path : List ℕ) → Retypes (deleted_at path) live_kind
restores path = record { named = λ e h. deleted-named e (deleted_at-says path e h).0; run = live-runs; file = live-file }
