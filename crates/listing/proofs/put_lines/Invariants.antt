use Rattle.index.specs.View.{SumsFrom}
use Rattle.index.specs.Steps.{Walks, entries_from}
use Rattle.text.specs.Wrote.{ToWrite}
use Rattle.listing.specs.Lines.{live_text}
use Rattle.listing.proofs.put_lines.Given as goal

abbrev pub invariant-loop-h : goal.invariant-loop-h
invariant-loop-h l = Walks l.img l.c × ToWrite l.initial.out l.initial.end (live_text (entries_from l.img l.initial.c)) l.out l.end (live_text (entries_from l.img l.c)) × SumsFrom l.img l.sums l.c

abbrev pub decreases-loop-h : goal.decreases-loop-h
decreases-loop-h l = l.c.left
