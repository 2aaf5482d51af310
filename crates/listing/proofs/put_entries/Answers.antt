use mathlib.Core.Path.{◌≡◌, ap}
use native.Mathlib.Omega.{arith}
use lib.ListN.{length, length-append}
use Rattle.rules.specs.Listing.{count_line}
use Rattle.index.specs.Steps.{entries_from}
use Rattle.text.specs.Wrote.{wrote-both, wrote_as}
use Rattle.listing.specs.Lines.{live_text}
use Rattle.listing.specs.Volume.{count_text, count-is}
use Rattle.listing.proofs.put_entries.Goals as goal
use Rattle.listing.proofs.put_entries.Goals.{After-held_blocks-held}

pub put_lines-end-requires : goal.put_lines-end-requires
put_lines-end-requires c =
    let es = entries_from c.args.img.now c.args.from in
    (c.requires.0, omega (arith, length-append (live_text es) (count_line es)), c.requires.3)

counted : (c : After-held_blocks-held) → let a = c.args in
    count_text c.count_live-live.result c.held_blocks-held.result ≡ count_line (entries_from a.img.now a.from)
counted c = count-is _ _ _ c.count_live-live.ensures c.held_blocks-held.ensures

pub put_count-requires : goal.put_count-requires
put_count-requires c =
    let a = c.args in
    let es = entries_from a.img.now a.from in
    omega (arith, length-append (live_text es) (count_line es), ap length (counted (goal.at.put_count-requires c).After-held_blocks-held))

pub returns : goal.returns
returns c =
    let a = c.args in
    let es = entries_from a.img.now a.from in
    let n = length-append (live_text es) (count_line es) in
    wrote-both _ _ _ _ _ _ _ _ (omega (arith, ap length (counted (goal.at.returns c).After-held_blocks-held))) c.put_lines-end.ensures (wrote_as _ _ _ _ _ _ (counted (goal.at.returns c).After-held_blocks-held) c.put_count.ensures)
