-- What is seen of an image is seen of it when what was left over is made unused.
use Prim.Native.Nat.{ℕ}
use mathlib.Core.Path.{◌≡◌, ap, ◌∙◌}
use mathlib.Core.List.{List, map}
use Rattle.rules.specs.Lists.{only}
use Rattle.rules.specs.Refusals.{Volume, entries}
use Rattle.rules.specs.Refusals.Laws.{Opens}
use Rattle.rules.specs.Writing.Laws.{tidy_image}
use Rattle.rules.specs.Regions.{extent_of}
use Rattle.after.specs.After.{is_named, seen, sight, is_unusable, unusables}
use Rattle.laws.proofs.Lists.Every.{all-weaken, all-only, map-ext}
use Rattle.laws.proofs.Images.Tidying.{settled_volume, settled-entries, tidied-bytes}
use Rattle.after.proofs.Sights.{seen_same}

pub sight-tidied : (s : List ℕ) (v : Volume) → Opens s v → sight (tidy_image s v) (settled_volume v) ≡ sight s v
unfolding sight
sight-tidied s v o =
    ap (λ es. map (seen (tidy_image s v) v.geometry) (only is_named es)) (settled-entries v.items)
    ∙ map-ext _ _ (only is_named (entries v))
    (all-only _ is_named (entries v) (all-weaken _ _ (λ e h. seen_same s (tidy_image s v) v.geometry v.geometry e h) (entries v) (tidied-bytes s v o)))

pub unusables-tidied : (v : Volume) → unusables (settled_volume v) ≡ unusables v
unfolding unusables
unusables-tidied v = ap (λ es. map extent_of (only is_unusable es)) (settled-entries v.items)
