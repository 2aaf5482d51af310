use mathlib.Core.Path.{sym}
use lib.Seq.{length-take-le}
use Rattle.ends.specs.Ends.{name-part}
use Rattle.ends.proofs.volume_name.Goals as goal

pub slice_bounds-result-end : goal.slice_bounds-result-end
slice_bounds-result-end c = sym (length-take-le _ _ c.zero_at-n.ensures.1)

pub returns : goal.returns
returns c = name-part c.args.img.now _ c.volume_field-field.ensures _ c.zero_at-n.ensures.0
