use Prim.Native.Nat.{ℕ, ◌+◌, ◌*◌, ◌≤◌}
use mathlib.Core.Path.{◌≡◌, sym, ap, ◌∙◌}
use native.Mathlib.Omega.{arith}
use lib.ListN.{length}
use Rattle.rules.specs.SuperBlock.{block_length}
use Rattle.rules.specs.Reading.{file_bytes}
use Rattle.rules.specs.Outcome.{done}
use Rattle.geometry.specs.View.{geometry_view}
use Rattle.slots.specs.View.{head_view}
use Rattle.judging.specs.View.{opened-super}
use Rattle.reading.specs.Found.{entry-directory, entry-short, entry_done}
use Rattle.reading.proofs.read_file.Goals as goal
use Rattle.reading.proofs.read_file.Goals.{After-offset-at, Else-h-ne-FILE}

-- the file's bytes lie in the image
within : (c : Else-h-ne-FILE) → let a = c.args in
    a.h.start.0 * block_length (geometry_view a.g) + a.h.length ≤ length a.img.now
within c = c.requires.1.within c.if-h-ne-FILE.false

-- where they lie
place : (c : After-offset-at) → let a = c.args in c.offset-at.result.0 ≡ a.h.start.0 * block_length (geometry_view a.g)
place c = c.offset-at.ensures.0 ∙ ap (λ (l : ℕ). c.args.h.start.0 * l) c.block_length.ensures.0

pub returns-then-h-ne-FILE : goal.returns-then-h-ne-FILE
unfolding head_view
returns-then-h-ne-FILE c = sym (entry-directory _ _ (head_view _ c.args.h) _ c.if-h-ne-FILE.true)

pub returns-then-out-n : goal.returns-then-out-n
unfolding head_view
returns-then-out-n c = sym (entry-short _ _ (head_view _ c.args.h) _ c.if-h-ne-FILE.false c.if-out-n.true)

pub block_length-requires : goal.block_length-requires
block_length-requires c = (opened-super _ _ c.requires.0).good.field-high

pub offset-at-requires : goal.offset-at-requires
offset-at-requires c = rw c.block_length.ensures.0 (omega (arith, within (goal.at.offset-at-requires c).Else-h-ne-FILE, (opened-super _ _ c.requires.0).short))

pub copy_out-requires : goal.copy_out-requires
copy_out-requires c = (omega (arith, place (goal.at.copy_out-requires c).After-offset-at, within (goal.at.copy_out-requires c).Else-h-ne-FILE), c.if-out-n.false)

pub returns : goal.returns
unfolding head_view file_bytes done
returns c =
    let a = c.args in
    rw (c.copy_out.ensures, place (goal.at.returns c).After-offset-at)
    (sym (entry_done _ (geometry_view a.g) (head_view a.img.now a.h) _ c.if-h-ne-FILE.false c.if-out-n.false))
