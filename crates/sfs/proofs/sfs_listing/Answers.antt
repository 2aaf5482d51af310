use mathlib.Core.Path.{sym, ap, ◌∙◌}
use native.Mathlib.Nat.{zero-add}
use lib.ListN.{length}
use Rattle.rules.specs.Listing.{listing_of}
use Rattle.rules.specs.Outcome.{done}
use Rattle.contracts.specs.Promises.Laws.{content-denied, content-outcome, text-short, text-done}
use Rattle.sfs.proofs.sfs_listing.Goals as goal

pub returns-then-out-lt-ROOM : goal.returns-then-out-lt-ROOM
returns-then-out-lt-ROOM c =
    let e = c.too_short.ensures in
    content-denied _ _ _ 18 e.0 e.1 ∙ sym (text-short _ _ c.if-out-lt-ROOM.true)

pub returns : goal.returns
returns c =
    let s = c.args.image.now in
    let e = c.written.ensures in
    let w = c.listing-n.ensures.wrote in
    content-outcome s _ _ (length (listing_of s)) e.0 (e.1 ∙ w.1 ∙ zero-add _)
    ∙ ap (done (length (listing_of s)) s) w.0 ∙ sym (text-done _ _ c.if-out-lt-ROOM.false)

pub too_short-requires : goal.too_short-requires
too_short-requires c = tt

pub written-requires : goal.written-requires
written-requires c = tt
