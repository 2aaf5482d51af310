use mathlib.Core.Path.{ap}
use native.Mathlib.Omega.{arith}
use Rattle.rules.specs.Comparing.{find_looked}
use Rattle.editions.specs.View.{edition_view}
use Rattle.judging.specs.View.{opened-super, opened-walks, opened-entries}
use Rattle.reading.proofs.search.Goals as goal

pub first_slot-from-requires : goal.first_slot-from-requires
first_slot-from-requires c = (opened-super _ _ c.requires, omega arith)

pub find-requires : goal.find-requires
find-requires c =
    let e = c.first_slot-from.ensures in
    (opened-walks _ _ c.requires _ e.0 e.1, e.6)

pub returns : goal.returns
unfolding find_looked
returns c =
    let e = opened-entries _ _ c.requires c.first_slot-from.result c.first_slot-from.ensures.0 in
    let own = c.first_slot-from.ensures.5 in
    record {
      searched = rw e at c.find.ensures.searched;
      counted = rw e at (c.find.ensures.counted _ (ap edition_view own) c.first_slot-from.ensures.2);
      edition = rw own at c.find.ensures.edition;
    }
