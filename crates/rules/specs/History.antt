-- 01, "The history", with restore as K2 adds it, the edition as K4 has it and both deletes as K7 has them: what it holds, how each call feeds it, and the
-- statements of demand 3 and of the claim about two images.
use Rattle.std.specs.Prelude.{ℕ, ◌+◌, ◌-◌, ◌*◌, ◌≤◌, ◌≡◌, Bool, true, false, ◌&&◌, ◌||◌, not, List, [], ◌∷◌, map, length, drop, eqb, ℤ}
use Rattle.rules.specs.Lists.{pick, only, sum, eq_list, part, Perm, All, Pairs}
use Rattle.rules.specs.Fields.{splice}
use Rattle.rules.specs.Editions.{Edition, edition10, edition_named, super_block_at, keeps_deleted}
use Rattle.rules.specs.SuperBlock.{block_length}
use Rattle.rules.specs.Index.{Entry, file_type, type_file}
use Rattle.rules.specs.Regions.{holds, blocks_of, blocks_needed, held_blocks}
use Rattle.rules.specs.Paths.{is_live}
use Rattle.rules.specs.Refusals.{accepted, Volume, entries, judge}
use Rattle.rules.specs.Outcome.{Outcome, done}
use Rattle.rules.specs.Reading.{open_of, find_of, list_of, read_of}
use Rattle.rules.specs.Records.{list_all_of}
use Rattle.rules.specs.Writing.{New, kind_of, bytes_of, format_of, create_of, delete_of, delete_keep_of, restore_of, reclaim_of}
pub mod Laws

-- ---- the calls, with any arguments and lent outputs
pub data Call : Type 0 where
  format : ℕ → ℕ → ℕ → List ℕ → ℤ → Call  -- version, bytes per block, reserved blocks, volume name, stamp
  open_volume : List ℕ → Call
  find : List ℕ → Call
  list : ℕ → List ℕ → Call
  list_all : ℕ → List ℕ → Call
  read : List ℕ → List ℕ → Call
  create : New → List ℕ → ℤ → Call
  delete : List ℕ → ℤ → Call
  delete_keep : List ℕ → ℤ → Call
  restore : List ℕ → ℤ → Call
  reclaim : ℤ → Call

-- what passes from call to call: whether it answered 0, and the image
pub record Passed : Type 0 where
  pub answered : Bool
  pub image : List ℕ

unfoldable pub passed : {A : Type 0} → Outcome A → Passed
passed o = record { answered = eqb o.refusal 0; image = o.image }

unfoldable pub step : List ℕ → Call → Passed
step s (format version bytes_per_block reserved name stamp) = passed (format_of s version bytes_per_block reserved name stamp)
step s (open_volume out) = passed (open_of s out)
step s (find path) = passed (find_of s path)
step s (list slot out) = passed (list_of s slot out)
step s (list_all slot out) = passed (list_all_of s slot out)
step s (read path out) = passed (read_of s path out)
step s (create new path stamp) = passed (create_of s new path stamp)
step s (delete path stamp) = passed (delete_of s path stamp)
step s (delete_keep path stamp) = passed (delete_keep_of s path stamp)
step s (restore path stamp) = passed (restore_of s path stamp)
step s (reclaim stamp) = passed (reclaim_of s stamp)

-- ---- what the history holds
pub record Kept : Type 0 where
  pub path : List ℕ
  pub kind : ℕ  -- file or directory, by its live type
  pub bytes : List ℕ
  pub blocks : ℕ
  pub live : Bool

pub record History : Type 0 where
  pub edition : Edition
  pub block_bytes : ℕ  -- 01's B
  pub kept : List Kept
  pub granted : ℕ
  pub given_back : ℕ

-- before the first accepted format
unfoldable pub nothing : History
nothing = record { edition = edition10; block_bytes = 0; kept = []; granted = 0; given_back = 0 }

unfoldable pub kept_of : ℕ → New → List ℕ → Kept
kept_of block_len new path = record {
  path = path;
  kind = kind_of new;
  bytes = bytes_of new;
  blocks = blocks_needed block_len (length (bytes_of new));
  live = true;
}

-- it has the path and is live
unfoldable pub kept_at : List ℕ → Kept → Bool
kept_at p k = k.live && eq_list k.path p

-- all as it was, but whether it is live
abbrev pub with_live : Kept → Bool → Kept
with_live k live = record { path = k.path; kind = k.kind; bytes = k.bytes; blocks = k.blocks; live = live }

-- the path's live entry is marked deleted
unfoldable pub marked : List ℕ → Kept → Kept
marked p k = with_live k (k.live && not (eq_list k.path p))

-- the path's deleted entry is live again, as the path's last creation: a restore is accepted where the path has just one entry, a deleted one
unfoldable pub revived : List ℕ → Kept → Kept
revived p k = with_live k (k.live || eq_list k.path p)

-- the entry that a delete names is marked, or struck and its blocks given back at once
unfoldable pub marked_in : History → List ℕ → History
marked_in h path =
    record { edition = h.edition; block_bytes = h.block_bytes; kept = map (marked path) h.kept; granted = h.granted; given_back = h.given_back }

unfoldable pub struck_in : History → List ℕ → History
struck_in h path = record {
  edition = h.edition;
  block_bytes = h.block_bytes;
  kept = only (λ k. not (kept_at path k)) h.kept;
  granted = h.granted;
  given_back = h.given_back + sum (λ k. k.blocks) (only (kept_at path) h.kept);
}

-- how an accepted call feeds it; a refused one changes nothing
unfoldable pub fed : History → Call → History
fed h (format version bytes_per_block reserved name stamp) =
    record { edition = edition_named version; block_bytes = bytes_per_block; kept = []; granted = 0; given_back = 0 }
fed h (open_volume out) = h
fed h (find path) = h
fed h (list slot out) = h
fed h (list_all slot out) = h
fed h (read path out) = h
fed h (create new path stamp) =
    let k : Kept = kept_of h.block_bytes new path in
    record { edition = h.edition; block_bytes = h.block_bytes; kept = k ∷ h.kept; granted = h.granted + k.blocks; given_back = h.given_back }
fed h (delete path stamp) = struck_in h path
fed h (delete_keep path stamp) = pick (keeps_deleted h.edition) (marked_in h path) (struck_in h path)
fed h (restore path stamp) =
    record { edition = h.edition; block_bytes = h.block_bytes; kept = map (revived path) h.kept; granted = h.granted; given_back = h.given_back }
fed h (reclaim stamp) = record {
  edition = h.edition;
  block_bytes = h.block_bytes;
  kept = only (λ k. k.live) h.kept;
  granted = h.granted;
  given_back = h.given_back + sum (λ k. k.blocks) (only (λ k. not k.live) h.kept);
}

unfoldable pub feed : History → Call → Bool → History
feed h c true = fed h c
feed h c false = h

-- ---- a list of calls: the image, and the history that was told of it
unfoldable pub run : List ℕ → List Call → List ℕ
run s [] = s
run s (c ∷ cs) = run (step s c).image cs

unfoldable pub told : List ℕ → History → List Call → History
told s h [] = h
told s h (c ∷ cs) = told (step s c).image (feed h c (step s c).answered) cs

-- ---- demand 3
-- path and kind
pub record Name : Type 0 where
  pub path : List ℕ
  pub kind : ℕ

abbrev pub name_of_entry : Entry → Name
name_of_entry e = record { path = e.path; kind = e.kind }

abbrev pub name_of_kept : Kept → Name
name_of_kept k = record { path = k.path; kind = k.kind }

-- no block is in both
abbrev pub NoShared : Entry → Entry → Type 0
NoShared e f = (b : ℕ) → holds b e ≡ true → holds b f ≡ true → ⊥

-- read of a live file, output long enough, answers 0, its length and its bytes
abbrev pub ReadsBack : List ℕ → Kept → Type 0
ReadsBack s k =
    k.live ≡ true
    → k.kind ≡ type_file
    → (out : List ℕ)
    → length k.bytes ≤ length out
    → read_of s k.path out ≡ done (length k.bytes) s (splice out 0 k.bytes)

-- what the history says of an image
pub record Holds (s : List ℕ) (h : History) : Type 0 where
  pub volume : Volume
  pub opens : judge s ≡ accepted volume
  pub blocks : held_blocks (entries volume) + h.given_back ≡ h.granted
  pub apart : Pairs NoShared (only (λ e. file_type e.kind) (entries volume))
  pub names : Perm (map name_of_entry (only is_live (entries volume))) (map name_of_kept (only (λ k. k.live) h.kept))
  pub reads : All (ReadsBack s) h.kept

-- DEMAND 3: one statement over every list of calls, from any accepted format
abbrev pub Demand3 : Type 0
Demand3 =
    (s : List ℕ) (version bytes_per_block reserved : ℕ) (name : List ℕ) (stamp : ℤ)
    → (format_of s version bytes_per_block reserved name stamp).refusal ≡ 0
    → (cs : List Call)
    → Holds
    (run (format_of s version bytes_per_block reserved name stamp).image cs)
    (told (format_of s version bytes_per_block reserved name stamp).image (fed nothing (format version bytes_per_block reserved name stamp)) cs)

-- ---- the claim about two images
-- both open, and they agree in the super-block's fields, the index area and the blocks of live files
pub record Agree (s t : List ℕ) : Type 0 where
  pub volume : Volume
  pub opens : judge s ≡ accepted volume
  pub other_volume : Volume
  pub other_opens : judge t ≡ accepted other_volume
  pub super_block : part s (super_block_at volume.geometry.edition) 42 ≡ part t (super_block_at volume.geometry.edition) 42
  pub index : drop (length s - volume.geometry.index_bytes) s ≡ drop (length t - volume.geometry.index_bytes) t
  pub files :
      All
      (λ e. part s (e.start * block_length volume.geometry) (blocks_of e * block_length volume.geometry)
      ≡ part t (e.start * block_length volume.geometry) (blocks_of e * block_length volume.geometry))
      (only (λ e. is_live e && file_type e.kind) (entries volume))

-- equal answers: every number and every output byte
pub record SameAnswer {A : Type 0} (o p : Outcome A) : Type 0 where
  pub refusals : o.refusal ≡ p.refusal
  pub answers : o.answer ≡ p.answer
  pub outputs : o.output ≡ p.output

pub record SameAnswers (s t : List ℕ) : Type 0 where
  pub finds : (path : List ℕ) → SameAnswer (find_of s path) (find_of t path)
  pub reads : (path out : List ℕ) → SameAnswer (read_of s path out) (read_of t path out)
  pub lists : (slot : ℕ) (out : List ℕ) → SameAnswer (list_of s slot out) (list_of t slot out)

abbrev pub TwoImages : Type 0
TwoImages = (s t : List ℕ) → Agree s t → SameAnswers s t
