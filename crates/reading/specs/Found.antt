-- Find, read and list of an entry that was found: the last steps of a read, how its end is given, and where a file's bytes lie.
use Rattle.std.specs.Prelude.{ℕ, ◌+◌, ◌*◌, ◌≤◌, ◌<◌, ◌≡◌, true, List, length, eqb, leb}
use Rattle.std.proofs.Math.Path.{ap}
use Rattle.std.proofs.Common.{◌∙◌, le-leb, eq-eqb, ne_eqb}
use Rattle.std.proofs.Math.Option.{some}
use Rattle.std.proofs.lemmas.Bool.{lt-leb}
use Rattle.rules.specs.Fields.{splice}
use Rattle.rules.specs.Editions.{stored_end}
use Rattle.rules.specs.Editions.Laws.{stored_past}
use Rattle.rules.specs.SuperBlock.{Geometry, block_length}
use Rattle.rules.specs.Names.{path_good}
use Rattle.rules.specs.Regions.{region_good}
use Rattle.rules.specs.Paths.{lookup, live_at, live_from, next_live}
use Rattle.rules.specs.Paths.Laws.{from-run}
use Rattle.rules.specs.Index.{Entry, type_file, run_type}
use Rattle.rules.specs.Refusals.{need, accepted, entries}
use Rattle.rules.specs.Refusals.Laws.{need-true, need-false, found_some, judge-opens, Opens}
use Rattle.rules.specs.Outcome.{Outcome, done, conclude}
use Rattle.rules.specs.Outcome.Laws.{denied, conclude-refused, conclude-accepted, volume-judged}
use Rattle.rules.specs.Reading.{file_bytes, read_of}
use Rattle.laws.proofs.Lists.Every.{all_first, first_says}
use Rattle.laws.proofs.Entries.Regions.{sound-says, file-region, kind-file}
use Rattle.laws.proofs.Images.Areas.{file-inside}
use Rattle.judging.specs.View.{Opened, volume_of}
use Rattle.editions.specs.View.{edition_view}
use Rattle.geometry.specs.View.{geometry_view}
use Rattle.geometry.specs.declared.Geometry.{Geometry as Held}
use Rattle.slots.specs.declared.Head.{Head}
use Rattle.slots.specs.View.{head_view}

-- an entry's end is given as it is stored
pub end-given : (s : List ℕ) (h : Head) → stored_end (edition_view h.edition) (head_view s h).end ≡ h.end.0
unfolding head_view
end-given s h = stored_past (edition_view h.edition) h.end.0

-- ---- read, from the entry on
unfoldable pub read_entry : List ℕ → Geometry → Entry → List ℕ → Outcome ℕ
read_entry s g e out =
    conclude 0 s out
    (need (eqb e.kind type_file) 17
    (need (leb e.length (length out)) 18
    (accepted (done e.length s (splice out 0 (file_bytes s g e))))))

module _ (s : List ℕ) (g : Geometry) (e : Entry) (out : List ℕ) where
  pub entry-directory : (e.kind ≡ type_file → ⊥) → read_entry s g e out ≡ denied 0 s out 17
  unfolding read_entry
  entry-directory d = conclude-refused 0 s out 17 (need-false 17 _ (ne_eqb e.kind type_file d))

  pub entry-short : e.kind ≡ type_file → length out < e.length → read_entry s g e out ≡ denied 0 s out 18
  unfolding read_entry
  entry-short k h = conclude-refused 0 s out 18 (need-true 17 _ (eq-eqb e.kind type_file k) ∙ need-false 18 _ (lt-leb e.length (length out) h))

  pub entry_done : e.kind ≡ type_file → e.length ≤ length out → read_entry s g e out ≡ done e.length s (splice out 0 (file_bytes s g e))
  unfolding read_entry
  entry_done k h = conclude-accepted 0 s out _ (need-true 17 _ (eq-eqb e.kind type_file k) ∙ need-true 18 _ (le-leb e.length (length out) h))

-- a file's bytes lie in the image
pub record FileIn (s : List ℕ) (g : Held) (h : Head) : Type 0 where
  pub within : h.kind ≡ type_file → h.start.0 * block_length (geometry_view g) + h.length ≤ length s

module _ (s : List ℕ) (g : Held) (opened : Opened s g) (path : List ℕ) where
  -- a file that was looked up lies in the data area
  pub file-in : (h : Head) → lookup path (entries (volume_of s (geometry_view g))) ≡ some (head_view s h) → FileIn s g h
  unfolding lookup head_view
  file-in h f = record { within = λ k. within k }
    where
      o : Opens s (volume_of s (geometry_view g))
      o = judge-opens s (volume_of s (geometry_view g)) opened

      es : List Entry
      es = entries (volume_of s (geometry_view g))

      good : region_good (geometry_view g) (head_view s h) ≡ true
      good = all_first (λ e. region_good (geometry_view g) e ≡ true) (live_at path) es (head_view s h) (sound-says (geometry_view g) es o.regions-sound).each (first_says (live_at path) es (head_view s h) f)

      within : h.kind ≡ type_file → h.start.0 * block_length (geometry_view g) + h.length ≤ length s
      within k = file-inside (length s) (geometry_view g) (head_view s h) o.geometry-good (file-region (geometry_view g) (head_view s h) (kind-file h.kind k) good)

  pub read_found : (e : Entry) (out : List ℕ) → path_good path ≡ true → lookup path (entries (volume_of s (geometry_view g))) ≡ some e
      → read_of s path out ≡ read_entry s (geometry_view g) e out
  unfolding read_of read_entry
  read_found e out p f =
      volume-judged 0 s out _ (volume_of s (geometry_view g)) opened ∙ ap (conclude 0 s out) (need-true 10 _ p ∙ found_some 11 _ f)

-- ---- list
-- what is live has a run
pub next-run : (slot : ℕ) (es : List Entry) (e : Entry) → next_live slot es ≡ some e → run_type e.kind ≡ true
unfolding next_live
next-run slot es e f = from-run slot e (first_says (live_from slot) es e f).passes
