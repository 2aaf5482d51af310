-- DEMAND 3 OF THE CODE, proved: an answer that meets its contract is the definitions' step, so a run leaves the image of which demand 3
-- speaks, and tells the history the same. Assumes nothing.
use Prim.Native.Nat.{ℕ, ◌+◌, ◌≤◌}
use mathlib.Core.Path.{◌≡◌, refl, sym, ap, ◌∙◌}
use mathlib.Core.List.{List, [], ◌∷◌, ◌++◌, map, append_assoc}
use lib.ListN.{length, length-map}
use Rattle.rules.specs.Lists.{All, only}
use Rattle.rules.specs.Index.{volume_name}
use Rattle.rules.specs.Paths.{is_live}
use Rattle.rules.specs.Refusals.{accepted, Volume, entries, judge}
use Rattle.rules.specs.Refusals.Laws.{read_short}
use Rattle.rules.specs.Outcome.{Outcome, done}
use Rattle.rules.specs.Writing.{format_of}
use Rattle.rules.specs.Text.{text}
use Rattle.rules.specs.Listing.{listing_of, volume_text, lines_of, count_line}
use Rattle.rules.specs.History.{Call, format, open_volume, find, list, list_all, read, create, delete, delete_keep, restore, reclaim, Passed, passed, step, History, nothing, fed, feed, run, told, name_of_entry, name_of_kept, Holds, ReadsBack}
use Rattle.contracts.specs.Promises.{Reads, WritesListing}
use Rattle.contracts.specs.Promises.Laws.{text-done}
use Rattle.contracts.specs.declared.Content.{Content}
use Rattle.laws.proofs.Lists.Every.{all-weaken}
use Rattle.laws.proofs.Lists.Perms.{perm-length}
use Rattle.demand3.specs.Runs.{passed_as, Answered, Served, Run, told_of, BytesBack, ListingCounts, Demand3OfCode}
use Rattle.demand3.proofs.Theorem.{demand3}

-- ---- an answer is the definitions' step
same-passed : {A : Type 0} (o q : Outcome A) (p : Passed) → q ≡ o → p ≡ passed_as q.refusal q.image → p ≡ passed o
unfolding passed
same-passed o q p e h = rw (h, e)

pub answered-step : (s : List ℕ) (c : Call) (p : Passed) → Answered s c p → p ≡ step s c
unfolding step
answered-step s (format version bytes_per_block reserved name stamp) p (r, t, e, h) = same-passed _ _ p e h
answered-step s (open_volume out) p (r, after, e, h) = same-passed _ _ p e h
answered-step s (find path) p (r, e, h) = same-passed _ _ p e h
answered-step s (list slot out) p (r, after, e, h) = same-passed _ _ p e h
answered-step s (list_all slot out) p (r, after, e, h) = same-passed _ _ p e h
answered-step s (read path out) p (r, after, e, h) = same-passed _ _ p e h
answered-step s (create new path stamp) p (r, t, e, h) = same-passed _ _ p e h
answered-step s (delete path stamp) p (r, t, e, h) = same-passed _ _ p e h
answered-step s (delete_keep path stamp) p (r, t, e, h) = same-passed _ _ p e h
answered-step s (restore path stamp) p (r, t, e, h) = same-passed _ _ p e h
answered-step s (reclaim stamp) p (r, t, e, h) = same-passed _ _ p e h

-- ---- a run leaves the definitions' image, and tells the same
abbrev calls : List Served → List Call
calls xs = map (λ x. x.call) xs

run-image : (s : List ℕ) (xs : List Served) (u : List ℕ) → Run s xs u → u ≡ run s (calls xs)
unfolding run
run-image s [] u e = e
run-image s (x ∷ xs) u (a, r) = run-image x.passed.image xs u r ∙ ap (λ (q : Passed). run q.image (calls xs)) (answered-step s x.call x.passed a)

run-told : (s : List ℕ) (h : History) (xs : List Served) (u : List ℕ) → Run s xs u → told_of h xs ≡ told s h (calls xs)
unfolding told_of told
run-told s h [] u e = refl
run-told s h (x ∷ xs) u (a, r) =
    run-told x.passed.image (feed h x.call x.passed.answered) xs u r
    ∙ ap (λ (q : Passed). told q.image (feed h x.call q.answered) (calls xs)) (answered-step s x.call x.passed a)

-- ---- what sfs_read answers
pub bytes_back : (u : List ℕ) (h : History) → Holds u h → (path out : List ℕ) (r : Content) (after : List ℕ) → Reads u path out r after
    → All (λ k. BytesBack k path out r after) h.kept
unfolding done
bytes_back u h holds path out r after e =
    all-weaken (ReadsBack u) (λ k. BytesBack k path out r after) (λ k back live file same room.
    let f = (rw same at e) ∙ back live file out room in
    (ap (λ o. o.refusal) f, ap (λ o. o.answer) f, ap (λ o. o.output) f))
    h.kept holds.reads

-- ---- what sfs_listing counts
listing-is : (u : List ℕ) (v : Volume) → judge u ≡ accepted v → length u ≤ 65_536
    → listing_of u ≡ (volume_name u ++ text "\n") ++ (lines_of (only is_live (entries v)) ++ count_line (entries v))
unfolding listing_of volume_text
listing-is u v opens short = ap (volume_text u) (read_short u short ∙ opens)

pub listing-counts : (u : List ℕ) (h : History) → Holds u h → (out : List ℕ) (r : Content) (after : List ℕ) → WritesListing u out r after
    → ListingCounts h u out r after
unfolding done
listing-counts u h holds out r after e short room =
    let f = e ∙ text-done u out room in
    let es = entries holds.volume in (
      listing_of u,
      ap (λ o. o.refusal) f,
      ap (λ o. o.answer) f,
      ap (λ o. o.output) f,
      record {
        entries = es;
        lines = (volume_name u ++ text "\n") ++ lines_of (only is_live es);
        last = listing-is u holds.volume holds.opens short ∙ sym (append_assoc (volume_name u ++ text "\n") (lines_of (only is_live es)) (count_line es));
        live = sym (length-map (only is_live es) name_of_entry) ∙ perm-length holds.names ∙ length-map (only (λ k. k.live) h.kept) name_of_kept;
        blocks = holds.blocks;
      },
    )

-- ---- all together
pub demand3-of-code : Demand3OfCode
demand3-of-code s t version bytes_per_block reserved name stamp e xs u r =
    let h = fed nothing (format version bytes_per_block reserved name stamp) in
    let i : (format_of s version bytes_per_block reserved name stamp).image ≡ t = sym (ap (λ o. o.image) e) in
    let d = rw i at (demand3 s version bytes_per_block reserved name stamp (sym (ap (λ o. o.refusal) e)) (calls xs)) in
    let holds : Holds u (told_of h xs) = rw (run-image t xs u r, run-told t h xs u r) d in
    record { holds = holds; reads = bytes_back u (told_of h xs) holds; listing = listing-counts u (told_of h xs) holds }
