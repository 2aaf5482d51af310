use Prim.Native.Nat.{◌≤◌}
use mathlib.Core.Path.{◌≡◌, sym, ap}
use native.Mathlib.Omega.{arith}
use lib.ListN.{length}
use Rattle.rules.specs.Listing.{listing_of, refused_line}
use Rattle.judging.specs.View.{read-refused, read-good, read_opened}
use Rattle.refusals.specs.View.{number_of}
use Rattle.laws.proofs.Listing.Bound.{listing-fits}
use Rattle.text.specs.Wrote.{wrote_as, wrote-counts}
use Rattle.listing.specs.Volume.{opened_text, listing-refused, listing-opened}
use Rattle.listing.proofs.listing.Goals as goal
use Rattle.listing.proofs.listing.Goals.{After-judge_read, In-Ok, In-Err}

-- every element of a lent image is a byte
fits : (c : After-judge_read) → length (listing_of c.args.img.now) ≤ 131_000
fits c = listing-fits c.args.img.now (λ i. (c.type_inv.img i).fits)

-- the text in each case
refused : (c : In-Err) → listing_of c.args.img.now ≡ refused_line (number_of c.in-Err.e)
refused c = listing-refused _ _ (read-refused _ _ c.judge_read.ensures _ c.in-Err.is)

opened : (c : In-Ok) → let s = c.args.img.now in listing_of s ≡ opened_text s c.in-Ok.g
opened c = listing-opened _ _ (read-good _ _ c.judge_read.ensures _ c.in-Ok.is)

pub put_refused-requires : goal.put_refused-requires
put_refused-requires c = rw c.from.ensures (omega (arith, ap length (refused (goal.at.put_refused-requires c).In-Err), fits (goal.at.put_refused-requires c).After-judge_read))

pub put_volume-requires : goal.put_volume-requires
put_volume-requires c =
    (read_opened _ _ c.judge_read.ensures _ c.in-Ok.is, omega (arith, ap length (opened (goal.at.put_volume-requires c).In-Ok), fits (goal.at.put_volume-requires c).After-judge_read))

pub returns-in-Err : goal.returns-in-Err
returns-in-Err c =
    let w = wrote_as _ _ _ _ _ _ (sym (refused (goal.at.returns-in-Err c).In-Err)) (rw c.from.ensures at c.put_refused.ensures) in
    record {
      wrote = w;
      lent = wrote-counts _ _ _ _ (omega (arith, fits (goal.at.returns-in-Err c).After-judge_read)) w;
    }

pub returns-in-Ok : goal.returns-in-Ok
returns-in-Ok c =
    let w = wrote_as _ _ _ _ _ _ (sym (opened (goal.at.returns-in-Ok c).In-Ok)) c.put_volume.ensures in
    record {
      wrote = w;
      lent = wrote-counts _ _ _ _ (omega (arith, fits (goal.at.returns-in-Ok c).After-judge_read)) w;
    }
