-- How many bytes the text of any stamp takes.
use Rattle.std.specs.Prelude.{◌^◌, ◌≤◌, ◌<◌, ℤ, length}
use Rattle.std.specs.Int.Signed.{mag}
use Rattle.rules.specs.Dates.{moment_of, moment_text}
use Rattle.rules.proofs.Dates.Range.{moment-in-range}
use Rattle.rules.specs.Dates.Text.{length-moment_text}

-- the moment of any stamp of 64 bits
pub moment-text-fits : (stamp : ℤ) → mag stamp < 2 ^ 63 → length (moment_text (moment_of stamp)) ≤ 30
moment-text-fits stamp h = length-moment_text (moment_of stamp) (moment-in-range stamp h)
