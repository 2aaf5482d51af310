-- Laws of the answers: an answer with its refusal number is an outcome, and the ends of the calls that write a text.
use Rattle.std.specs.Prelude.{ℕ, ◌<◌, ◌≤◌, ◌≡◌, List, [], length, leb}
use Rattle.std.proofs.Common.{le-leb}
use Rattle.std.proofs.lemmas.Bool.{lt-leb}
use Rattle.rules.specs.Lists.Laws.{and_left, and_right, and_both}
use Rattle.rules.specs.Fields.{splice}
use Rattle.rules.specs.Refusals.Laws.{need-true, need-false}
use Rattle.rules.specs.Outcome.{done, VolumeNumbers, EntryNumbers, ListedNumbers}
use Rattle.rules.specs.Outcome.Laws.{denied, conclude-refused, conclude-accepted}
use Rattle.rules.specs.Records.{RecordsNumbers}
use Rattle.rules.specs.Listing.{listing_of, text_of}
use Rattle.rules.specs.Report.{report_in, report_text, report_text_of}
use Rattle.contracts.specs.declared.Volume.{Volume}
use Rattle.contracts.specs.declared.Entry.{Entry}
use Rattle.contracts.specs.declared.Listed.{Listed}
use Rattle.contracts.specs.declared.Content.{Content}
use Rattle.contracts.specs.declared.Records.{Records}
use Rattle.contracts.specs.Promises.{volume_answer, volume_view, entry_answer, entry_view, listed_answer, listed_view, content_view, records_answer, records_view}

pub volume-outcome : (s out : List ℕ) (r : Volume) (a : VolumeNumbers) → r.refusal ≡ 0 → volume_answer r ≡ a → volume_view s out r ≡ done a s out
unfolding done
volume-outcome s out r a z e = rw (z, e)

pub entry-outcome : (s : List ℕ) (r : Entry) (a : EntryNumbers) → r.refusal ≡ 0 → entry_answer r ≡ a → entry_view s r ≡ done a s []
unfolding done
entry-outcome s r a z e = rw (z, e)

pub listed-outcome : (s out : List ℕ) (r : Listed) (a : ListedNumbers) → r.refusal ≡ 0 → listed_answer r ≡ a → listed_view s out r ≡ done a s out
unfolding done
listed-outcome s out r a z e = rw (z, e)

pub records-outcome : (s out : List ℕ) (r : Records) (a : RecordsNumbers) → r.refusal ≡ 0 → records_answer r ≡ a → records_view s out r ≡ done a s out
unfolding done
records-outcome s out r a z e = rw (z, e)

-- ---- texts
module _ (s out : List ℕ) (r : Content) where
  pub content-outcome : (n : ℕ) → r.refusal ≡ 0 → r.length ≡ n → content_view s out r ≡ done n s out
  unfolding done
  content-outcome n z e = rw (z, e)

  pub content-denied : (k : ℕ) → r.refusal ≡ k → r.length ≡ 0 → content_view s out r ≡ denied 0 s out k
  content-denied k e z = rw (e, z)

pub text-short : (s out : List ℕ) → length out < 131_072 → text_of s out ≡ denied 0 s out 18
unfolding text_of
text-short s out h = conclude-refused 0 s out 18 (need-false 18 _ (lt-leb 131_072 (length out) h))

pub text-done : (s out : List ℕ) → 131_072 ≤ length out → text_of s out ≡ done (length (listing_of s)) s (splice out 0 (listing_of s))
unfolding text_of
text-done s out h = conclude-accepted 0 s out _ (need-true 18 _ (le-leb 131_072 (length out) h))

module _ (ns out : List ℕ) where
  pub report-few : length ns < 27 → report_text_of ns out ≡ denied 0 ns out 18
  unfolding report_text_of
  report-few h = conclude-refused 0 ns out 18 (need-false 18 _ (and_left _ _ (lt-leb 27 (length ns) h)))

  pub report-short : length out < 1_024 → report_text_of ns out ≡ denied 0 ns out 18
  unfolding report_text_of
  report-short h = conclude-refused 0 ns out 18 (need-false 18 _ (and_right (leb 27 (length ns)) _ (lt-leb 1_024 (length out) h)))

  pub report-done : 27 ≤ length ns → 1_024 ≤ length out → report_text_of ns out ≡ done (length (report_text (report_in ns))) ns (splice out 0 (report_text (report_in ns)))
  unfolding report_text_of
  report-done h k = conclude-accepted 0 ns out _ (need-true 18 _ (and_both _ _ (le-leb 27 (length ns) h) (le-leb 1_024 (length out) k)))
