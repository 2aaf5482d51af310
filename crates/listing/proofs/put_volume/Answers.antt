use mathlib.Core.Path.{◌≡◌, ap}
use native.Mathlib.Omega.{arith}
use lib.ListN.{length, length-append}
use Rattle.rules.specs.Refusals.{entries}
use Rattle.geometry.specs.View.{geometry_view}
use Rattle.index.specs.Steps.{entries_from}
use Rattle.judging.specs.View.{volume_of, opened-super, opened-long, opened-walks, opened-entries, opened-small}
use Rattle.text.specs.Wrote.{wrote-both}
use Rattle.listing.specs.Volume.{name_text, entries_text}
use Rattle.listing.proofs.put_volume.Goals as goal
use Rattle.listing.proofs.put_volume.Goals.{After-first_slot-from}

pub put_name-end-requires : goal.put_name-end-requires
put_name-end-requires c =
    let img = c.args.img.now in
    (omega (arith, opened-long img _ c.requires.0), omega (arith, length-append (name_text img) (entries_text (entries (volume_of img (geometry_view c.args.g))))))

pub first_slot-from-requires : goal.first_slot-from-requires
first_slot-from-requires c = (opened-super _ _ c.requires.0, omega arith)

-- the entries from the first slot on are the volume's
same_entries : (c : After-first_slot-from) → entries_from c.args.img.now c.first_slot-from.result ≡ entries (volume_of c.args.img.now (geometry_view c.args.g))
same_entries c = opened-entries _ _ c.requires.0 c.first_slot-from.result c.first_slot-from.ensures.0

pub put_entries-requires : goal.put_entries-requires
put_entries-requires c =
    let img = c.args.img.now in
    let e = c.first_slot-from.ensures in
    (opened-walks _ _ c.requires.0 _ e.0 e.1, opened-small _ _ c.requires.0 c.first_slot-from.result e.0, omega (arith, length-append (name_text img) (entries_text (entries (volume_of img (geometry_view c.args.g)))), ap (λ es. length (entries_text es)) (same_entries (goal.at.put_entries-requires c).After-first_slot-from)), e.6)

pub returns : goal.returns
returns c =
    let img = c.args.img.now in
    let n = length-append (name_text img) (entries_text (entries (volume_of img (geometry_view c.args.g)))) in
    let w = rw (same_entries (goal.at.returns c).After-first_slot-from) at c.put_entries.ensures in
    wrote-both _ _ _ _ _ _ (name_text img) _ (omega arith) c.put_name-end.ensures w
