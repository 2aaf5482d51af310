-- A report with one image more, by what was judged of it.
use Rattle.std.specs.Prelude.{◌≡◌, ℕ, ◌<◌, List}
use Rattle.std.proofs.Math.Path.{sym}
use Rattle.rules.specs.Refusals.{refused, accepted, Volume, judge_read}
use Rattle.rules.specs.Report.{Table, sums_of, opened_sums, image_sums, added, one_more, count_verdict, with_image}
use Rattle.laws.proofs.Images.Accepted.{read_low}
use Rattle.report.specs.Stored.{Stored, stored-none}
use Rattle.report.specs.View.{as_report}

module _ (s : List ℕ) (t : Table) (counts : List ℕ) where
  pub image-refused : (n : ℕ) → Stored t → judge_read s ≡ refused n → as_report t (one_more n counts) ≡ with_image s (as_report t counts)
  unfolding with_image image_sums opened_sums count_verdict
  image-refused n p e = sym (rw (e, stored-none t p))

  pub image-opened : (v : Volume) → judge_read s ≡ accepted v → as_report (added t (sums_of v.items)) counts ≡ with_image s (as_report t counts)
  unfolding with_image image_sums opened_sums count_verdict
  image-opened v e = sym (rw e)

-- a refusal is at most 8
pub refused-low : (s : List ℕ) (n : ℕ) → judge_read s ≡ refused n → n < 9
refused-low s n e = (rw e at (read_low s)).1
