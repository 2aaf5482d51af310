use mathlib.Core.Path.{sym, ◌∙◌}
use native.Mathlib.Omega.{arith}
use Rattle.rules.specs.Lists.{keep_if}
use Rattle.path_rules.proofs.put_live.Goals as goal

pub returns-then-not-is_live : goal.returns-then-not-is_live
unfolding keep_if
returns-then-not-is_live c =
    record {
      keys_after = rw (sym c.is_live.ensures ∙ c.if-not-is_live.true);
      place = (omega arith, omega arith);
    }

pub returns : goal.returns
unfolding keep_if
returns c =
    record {
      keys_after = rw (sym c.is_live.ensures ∙ c.if-not-is_live.false, ← c.slots_to-key.ensures) c.put_before.ensures.1;
      place = (omega (arith, c.put_before.ensures.0), omega (arith, c.put_before.ensures.0));
    }
