-- An accepted reclaim leaves an image that opens, with its live entries as they were.
use Prim.Native.Nat.{ℕ}
use mathlib.Core.Path.{◌≡◌, sym, ap, ◌∙◌}
use mathlib.Core.Bool.{not}
use mathlib.Core.List.{List}
use lib.IntN.{ℤ}
use Rattle.rules.specs.SuperBlock.{Geometry, with_stamp, put_sizes}
use Rattle.rules.specs.SuperBlock.Laws.{SameSealed, as_stored}
use Rattle.rules.specs.Index.{Entry}
use Rattle.rules.specs.Refusals.{accepted, Volume, entries, judge}
use Rattle.rules.specs.Refusals.Laws.{judge-opens, opens-judge}
use Rattle.rules.specs.Paths.{is_deleted}
use Rattle.rules.specs.Writing.{trimmed_to, undeleted, cleared, reclaim_of}
use Rattle.rules.specs.Writing.Laws.{tidy_image}
use Rattle.after.specs.After.{AfterReclaim}
use Rattle.laws.proofs.Entries.Paths.{paths-reclaim}
use Rattle.laws.proofs.Images.Accepted.{passed-writable, passed-done}
use Rattle.laws.proofs.Images.Tidying.{settled_volume, settled-entries, opens-settled, tidied-opens}
use Rattle.after.proofs.Tidied.{sight-tidied, unusables-tidied}
use Rattle.after.proofs.Sights.{extents-undeleted}
use Rattle.after.proofs.Trim.{sealed, image, volume, entries-are, trim-opens, trim-left}
use Rattle.after.proofs.Reclaim.Keeping.{live-seen}

-- the image is what was told, of the tidied image
reclaim-image : (s : List ℕ) (v : Volume) (stamp : ℤ) → judge s ≡ accepted v → (reclaim_of s stamp).refusal ≡ 0
    → let w : Volume = settled_volume v in
    let g : Geometry = trimmed_to (undeleted (entries w)) w.geometry stamp in
    (reclaim_of s stamp).image ≡ cleared is_deleted (put_sizes (tidy_image s v) g) g (entries w)
unfolding reclaim_of
reclaim-image s v stamp o z =
    let h : List Entry → Geometry = λ es. trimmed_to (undeleted es) v.geometry stamp in
    passed-done s _ (reclaim_of s stamp) (passed-writable s v _ o z)
    ∙ ap (λ es. cleared is_deleted (put_sizes (tidy_image s v) (h es)) (h es) es) (sym (settled-entries v.items))

-- the volume that opens then has the entries that are not deleted, and may be written where the old one may
pub record Reopens (t : List ℕ) (v : Volume) : Type 0 where
  pub volume : Volume
  pub opens : judge t ≡ accepted volume
  pub sealed : SameSealed volume.geometry v.geometry
  pub entries-are : entries volume ≡ undeleted (entries v)

pub reclaim-reopens : (s : List ℕ) (v : Volume) (stamp : ℤ) → judge s ≡ accepted v → (reclaim_of s stamp).refusal ≡ 0 → Reopens (reclaim_of s stamp).image v
unfolding as_stored with_stamp
reclaim-reopens s v stamp o z =
    let t : List ℕ = tidy_image s v in
    let w : Volume = settled_volume v in
    let e = judge-opens s v o in
    let f = tidied-opens s v e in
    let n = opens-settled s v e in
    let same = sealed t w stamp f n is_deleted in
    rw (reclaim-image s v stamp o z)
    (record {
      volume = volume t w stamp f n is_deleted;
      opens = opens-judge (image t w stamp f n is_deleted) (volume t w stamp f n is_deleted) (trim-opens t w stamp f n is_deleted (paths-reclaim (entries w) f.paths-sound));
      sealed = record { edition-same = same.edition-same; version-same = same.version-same; total-same = same.total-same; reserved-same = same.reserved-same; field-same = same.field-same };
      entries-are = entries-are t w stamp f n is_deleted ∙ ap undeleted (settled-entries v.items);
    })

pub reclaim-left : AfterReclaim
reclaim-left s v stamp o z =
    let t : List ℕ = tidy_image s v in
    let w : Volume = settled_volume v in
    let e = judge-opens s v o in
    let f = tidied-opens s v e in
    rw (reclaim-image s v stamp o z, ← sight-tidied s v e, ← unusables-tidied v, ← live-seen t w)
    (trim-left t w stamp f (opens-settled s v e) is_deleted (paths-reclaim (entries w) f.paths-sound) (extents-undeleted (entries w)))
