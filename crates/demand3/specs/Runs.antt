-- DEMAND 3 OF THE CODE: runs of the calls of sfs, the history that is fed their answers, and what is claimed of both.
use Rattle.std.specs.Prelude.{ℕ, ◌+◌, ◌≤◌, ◌≡◌, true, List, [], ◌∷◌, ◌++◌, length, eqb, ℤ}
use Rattle.rules.specs.Lists.{only, All}
use Rattle.rules.specs.Fields.{splice}
use Rattle.rules.specs.Index.{Entry as Held, type_file}
use Rattle.rules.specs.Regions.{held_blocks}
use Rattle.rules.specs.Paths.{is_live}
use Rattle.rules.specs.Listing.{count_line}
use Rattle.rules.specs.History.{Call, format, open_volume, find, list, list_all, read, create, delete, delete_keep, restore, reclaim, Passed, Kept, History, nothing, fed, feed, Holds}
use Rattle.contracts.specs.Promises.{Formats, OpensVolume, Finds, Lists, ListsAll, Reads, Creates, Deletes, DeletesKeeping, Restores, Reclaims, WritesListing}
use Rattle.contracts.specs.declared.Volume.{Volume}
use Rattle.contracts.specs.declared.Entry.{Entry}
use Rattle.contracts.specs.declared.Listed.{Listed}
use Rattle.contracts.specs.declared.Records.{Records}
use Rattle.contracts.specs.declared.Content.{Content}

-- ---- a run
-- whether the code answered 0, and the image that it left
abbrev pub passed_as : ℕ → List ℕ → Passed
passed_as r t = record { answered = eqb r 0; image = t }

-- the code's answer to a call on the image s meets the contract of the function of sfs, and p is what passes on
abbrev pub Answered : List ℕ → Call → Passed → Type 0
Answered s (format version bytes_per_block reserved name stamp) p = (r : ℕ) × (t : List ℕ) × Formats s version bytes_per_block reserved name stamp r t × (p ≡ passed_as r t)
Answered s (open_volume out) p = (r : Volume) × (after : List ℕ) × OpensVolume s out r after × (p ≡ passed_as r.refusal s)
Answered s (find path) p = (r : Entry) × Finds s path r × (p ≡ passed_as r.refusal s)
Answered s (list slot out) p = (r : Listed) × (after : List ℕ) × Lists s slot out r after × (p ≡ passed_as r.refusal s)
Answered s (list_all slot out) p = (r : Records) × (after : List ℕ) × ListsAll s slot out r after × (p ≡ passed_as r.refusal s)
Answered s (read path out) p = (r : Content) × (after : List ℕ) × Reads s path out r after × (p ≡ passed_as r.refusal s)
Answered s (create new path stamp) p = (r : ℕ) × (t : List ℕ) × Creates s new path stamp r t × (p ≡ passed_as r t)
Answered s (delete path stamp) p = (r : ℕ) × (t : List ℕ) × Deletes s path stamp r t × (p ≡ passed_as r t)
Answered s (delete_keep path stamp) p = (r : ℕ) × (t : List ℕ) × DeletesKeeping s path stamp r t × (p ≡ passed_as r t)
Answered s (restore path stamp) p = (r : ℕ) × (t : List ℕ) × Restores s path stamp r t × (p ≡ passed_as r t)
Answered s (reclaim stamp) p = (r : ℕ) × (t : List ℕ) × Reclaims s stamp r t × (p ≡ passed_as r t)

-- a call with its arguments, and what passed on from the code's answer
pub record Served : Type 0 where
  pub call : Call
  pub passed : Passed

-- every step is answered on the image that the one before it left, the first on s; the last leaves u
abbrev pub Run : List ℕ → List Served → List ℕ → Type 0
Run s [] u = u ≡ s
Run s (x ∷ xs) u = Answered s x.call x.passed × Run x.passed.image xs u

-- the history of a run: fed each call's arguments and whether the code answered 0
unfoldable pub told_of : History → List Served → History
told_of h [] = h
told_of h (x ∷ xs) = told_of (feed h x.call x.passed.answered) xs

-- ---- what is claimed
-- an answer of sfs_read to the path of a live file, output long enough: 0, its length and its bytes
abbrev pub BytesBack : Kept → List ℕ → List ℕ → Content → List ℕ → Type 0
BytesBack k path out r after =
    k.live ≡ true
    → k.kind ≡ type_file
    → path ≡ k.path
    → length k.bytes ≤ length out
    → (r.refusal ≡ 0) × (r.length ≡ length k.bytes) × (after ≡ splice out 0 k.bytes)

-- a listing's last line counts the history's live entries, and the blocks granted and not given back
pub record TellsCounts (h : History) (text : List ℕ) : Type 0 where
  pub entries : List Held
  pub lines : List ℕ
  pub last : text ≡ lines ++ count_line entries
  pub live : length (only is_live entries) ≡ length (only (λ k. k.live) h.kept)
  pub blocks : held_blocks entries + h.given_back ≡ h.granted

-- an answer of sfs_listing, output long enough
abbrev pub ListingCounts : History → List ℕ → List ℕ → Content → List ℕ → Type 0
ListingCounts h s out r after =
    length s ≤ 65_536
    → 131_072 ≤ length out
    → (text : List ℕ) × (r.refusal ≡ 0) × (r.length ≡ length text) × (after ≡ splice out 0 text) × TellsCounts h text

-- the image holds what the history says, and so do the answers that show it
pub record HeldByCode (u : List ℕ) (h : History) : Type 0 where
  pub holds : Holds u h
  pub reads : (path out : List ℕ) (r : Content) (after : List ℕ) → Reads u path out r after → All (λ k. BytesBack k path out r after) h.kept
  pub listing : (out : List ℕ) (r : Content) (after : List ℕ) → WritesListing u out r after → ListingCounts h u out r after

-- from any format that the code answered with 0, for every run from the image that it left
abbrev pub Demand3OfCode : Type 0
Demand3OfCode =
    (s t : List ℕ) (version bytes_per_block reserved : ℕ) (name : List ℕ) (stamp : ℤ)
    → Formats s version bytes_per_block reserved name stamp 0 t
    → (xs : List Served) (u : List ℕ)
    → Run t xs u
    → HeldByCode u (told_of (fed nothing (format version bytes_per_block reserved name stamp)) xs)
