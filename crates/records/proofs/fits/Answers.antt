use Prim.Native.Nat.{◌-◌}
use mathlib.Core.Path.{ap, ◌∙◌}
use lib.ListN.{length}
use lib.Dec.{leb}
use Rattle.laws.proofs.Records.Packed.{fits-no, fits-behind}
use Rattle.records.proofs.fits.Goals as goal

pub returns-then-room-lt-NUMBERS : goal.returns-then-room-lt-NUMBERS
returns-then-room-lt-NUMBERS c = fits-no _ _ c.if-room-lt-NUMBERS.true

pub returns : goal.returns
returns c =
    let room = c.args.room in
    ap (λ (p : _). leb (length p) (room - 56)) c.path_of.ensures ∙ fits-behind _ room c.if-room-lt-NUMBERS.false
