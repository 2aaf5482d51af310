use Rattle.std.proofs.Common.{◌∙◌, replicate}
use Rattle.region_table.specs.Answers.{ordered-laid}
use Rattle.region_table.proofs.put_in_order.Goals as goal

pub returns : goal.returns
returns c = c.lay.ensures ∙ ordered-laid _ _ (replicate 4_094 0) _ _ c.requires c.take_apart.auto.keys c.sort_last.auto.keys c.take_apart.ensures c.sort_last.ensures
