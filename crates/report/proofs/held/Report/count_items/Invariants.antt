use Rattle.std.proofs.Common.{◌≡◌}
use Rattle.rules.specs.Lists.{All}
use Rattle.rules.specs.Report.{sums_of, added}
use Rattle.ordering.specs.Regions.{Small}
use Rattle.index.specs.View.{SumsFrom, items_from}
use Rattle.index.specs.Steps.{Walks, entries_from}
use Rattle.report.proofs.held.Report.count_items.Given as goal

-- The sums so far with those of the items from the cursor on are those of all.
abbrev pub invariant-loop-c : goal.invariant-loop-c
invariant-loop-c l = record {
  walks : Walks l.img l.c;
  small : All Small (entries_from l.img l.c);
  table : added l.self.table (sums_of (items_from l.img l.c)) ≡ added l.initial.self.table (sums_of (items_from l.img l.initial.c));
  sums : SumsFrom l.img l.sums l.c;
  counts : l.self.counts ≡ l.initial.self.counts;
}

abbrev pub decreases-loop-c : goal.decreases-loop-c
decreases-loop-c l = l.c.left
