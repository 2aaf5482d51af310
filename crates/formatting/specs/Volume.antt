-- The super-block of a fresh volume, then the two ends of its index: the length is as it was between them.
use Rattle.std.specs.Prelude.{ℕ, ◌-◌, ◌≡◌, List, ◌++◌, length}
use Rattle.std.proofs.Common.{◌∙◌}
use Rattle.rules.specs.Fields.{splice}
use Rattle.rules.specs.Editions.{super_block_at}
use Rattle.rules.specs.SuperBlock.{Geometry, super_block_bytes}
use Rattle.rules.specs.Index.{marker_bytes, identifier_bytes}
use Rattle.rules.specs.Writing.{formatted}

pub volume-put : (s t u : List ℕ) (g : Geometry) (name : List ℕ)
    → t ≡ splice s (super_block_at g.edition) (super_block_bytes g) → length t ≡ length s
    → u ≡ splice t (length t - 128) (marker_bytes g.edition ++ identifier_bytes g.edition g.stamp name)
    → u ≡ formatted s g name
unfolding formatted
volume-put s t u g name e l f = f ∙ rw (l, e)
