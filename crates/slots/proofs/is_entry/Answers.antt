use mathlib.Core.Path.{refl, sym}
use Rattle.slots.specs.Types.{entry-bit, entry-none}
use Rattle.slots.proofs.is_entry.Goals as goal

pub returns-then-kind-ge-STRAY : goal.returns-then-kind-ge-STRAY
returns-then-kind-ge-STRAY c = sym (entry-none _ _ c.if-kind-ge-STRAY.true)

pub returns : goal.returns
returns c = entry-bit _ _ _ _ c.entry_types.ensures refl c.if-kind-ge-STRAY.false
