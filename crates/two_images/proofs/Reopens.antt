-- An image of the same length, with the super-block and the index area of one that opens, opens as the same volume.
use Prim.Native.Nat.{ℕ, ◌-◌}
use mathlib.Core.Path.{◌≡◌, sym}
use mathlib.Core.List.{List}
use lib.ListN.{length, drop}
use Rattle.rules.specs.Lists.{part}
use Rattle.rules.specs.Editions.{super_block_at}
use Rattle.rules.specs.Refusals.{accepted, Volume, judge}
use Rattle.laws.proofs.Index.Slots.{slot-first}
use Rattle.laws.proofs.Images.Kept.{reopens as opens-again}

pub reopens : (s t : List ℕ) (v : Volume) → judge s ≡ accepted v → length s ≡ length t
    → part s (super_block_at v.geometry.edition) 42 ≡ part t (super_block_at v.geometry.edition) 42
    → drop (length s - v.geometry.index_bytes) s ≡ drop (length t - v.geometry.index_bytes) t
    → judge t ≡ accepted v
reopens s t v opens long super index =
    opens-again s t v opens (sym long) (sym super) (rw (slot-first s v.geometry) (sym (rw (← long) at index)))
