use mathlib.Core.Path.{sym, ◌∙◌}
use mathlib.Core.List.{[]}
use native.Mathlib.Omega.{arith}
use borrow.Author.Tests.{leb-true, leb-false, le-ltb, lt-ltb}
use Rattle.rules.specs.Lists.{keep_if}
use Rattle.ordering.specs.Regions.{has_region}
use Rattle.slots.specs.View.{head_view}
use Rattle.regions.proofs.put_region.Goals as goal

pub returns-then-ends_by : goal.returns-then-ends_by
unfolding has_region head_view keep_if
returns-then-ends_by c =
    record {
      by_index = λ s. rw (le-ltb _ _ (leb-true _ _ (sym (c.ends_by.ensures s) ∙ c.if-ends_by.true)));
      place = (omega arith, omega arith);
    }

pub key_of-key-requires : goal.key_of-key-requires
unfolding head_view
key_of-key-requires c = (c.requires.2, leb-false _ _ (sym (c.ends_by.ensures []) ∙ c.if-ends_by.false))

pub returns : goal.returns
unfolding has_region head_view keep_if
returns c =
    record {
      by_index = λ s. rw (lt-ltb _ _ (leb-false _ _ (sym (c.ends_by.ensures s) ∙ c.if-ends_by.false)), ← c.key_of-key.ensures s) c.put_before.ensures.1;
      place = (omega (arith, c.put_before.ensures.0), omega (arith, c.put_before.ensures.0));
    }
