use Rattle.std.proofs.Common.{ap, ◌∙◌, arith}
use Rattle.std.proofs.lemmas.List.{length-map, length-replicate}
use Rattle.rules.specs.RegionTable.{Tabled}
use Rattle.laws.proofs.RegionTable.Room.{roomy-answer}
use Rattle.region_table.proofs.regions_apart.Goals as goal

pub returns : goal.returns
returns c = ap (λ (t : Tabled). t.answer) c.regions_in_table.ensures ∙ roomy-answer _ _ (simp (length-map, length-replicate) (omega arith))
