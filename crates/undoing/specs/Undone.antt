-- What calls of sfs come to, alone or one after the other, on any image s and with any arguments; u is the image that is left.
use Rattle.std.specs.Prelude.{ℕ, ◌≡◌, Bool, true, false, List, ◌⊎◌, ℤ}
use Rattle.std.proofs.Math.Option.{some}
use Rattle.rules.specs.Lists.{pick}
use Rattle.rules.specs.Editions.{keeps_deleted}
use Rattle.rules.specs.Names.{path_good}
use Rattle.rules.specs.Index.{Entry}
use Rattle.rules.specs.Paths.{lookup}
use Rattle.rules.specs.Refusals.{accepted, Volume, entries, judge}
use Rattle.rules.specs.Writing.{Wiped, delete_keep_of, reclaim_of}
use Rattle.contracts.specs.Promises.{Finds}
use Rattle.contracts.specs.declared.Entry.{Entry as Found}

-- THE PROMISE OF sfs_delete. Where it answers 0 the path had a live entry; where the bytes of that entry's region were the image holds zeros, and where its
-- name was, unused slots; and sfs_find of the path then answers 11
abbrev pub LeavesNothing : List ℕ → List ℕ → ℕ → List ℕ → Type 0
LeavesNothing s path r u =
    r ≡ 0
    → (v : Volume) × (e : Entry) × (judge s ≡ accepted v) × (lookup path (entries v) ≡ some e)
    × Wiped u v.geometry e
    × ((found : Found) → Finds u path found → found.refusal ≡ 11)

-- a restore with the old stamp, behind a delete that keeps and left t. Where deleted entries are kept: the image from before, byte for byte; or 19, where another
-- entry of the path had been deleted before. Where not: 11
abbrev pub UndoneBy : Bool → List ℕ → List ℕ → ℕ → List ℕ → Type 0
UndoneBy true s t r u = ((r ≡ 0) × (u ≡ s)) ⊎ ((r ≡ 19) × (u ≡ t))
UndoneBy false s t r u = (r ≡ 11) × (u ≡ t)

-- a delete that keeps and is served, then a restore with the stamp that was found, by the edition of the volume
abbrev pub Undone : List ℕ → List ℕ → ℤ → ℕ → List ℕ → Type 0
Undone s path stamp r u =
    (delete_keep_of s path stamp).refusal ≡ 0
    → (v : Volume) × (judge s ≡ accepted v) × UndoneBy (keeps_deleted v.geometry.edition) s (delete_keep_of s path stamp).image r u

-- a reclaim that is served, then a restore: 11 of every allowed path, and the restore writes nothing
abbrev pub TooLate : List ℕ → List ℕ → ℤ → ℕ → List ℕ → Type 0
TooLate s path stamp r u = (reclaim_of s stamp).refusal ≡ 0 → (r ≡ pick (path_good path) 11 10) × (u ≡ (reclaim_of s stamp).image)
