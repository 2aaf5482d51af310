use Rattle.std.proofs.Common.{rules}
use Rattle.report_main.specs.Files.{counting-first, counted-all}
use Rattle.report_main.proofs.count_named.Goals as goal

pub loop-turn-init : goal.loop-turn-init
loop-turn-init g c = record {
  counting = counting-first _ _ c.start-state.ensures.1;
  kept = search rules;
  piece = search rules;
}

pub returns-then-state-eq0 : goal.returns-then-state-eq0
returns-then-state-eq0 g c = counted-all _ _ _ (c.count_fed.ensures _ _ _ _ c.feed-fed.ensures.on c.loop-turn.invariant.counting)

pub loop-turn-preserved : goal.loop-turn-preserved
loop-turn-preserved g c = record {
  counting = c.count_fed.ensures _ _ _ _ c.feed-fed.ensures.on c.loop-turn.invariant.counting;
  kept = search rules;
  piece = search rules;
}
