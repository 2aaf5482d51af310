-- The bytes of a region, by its two ends.
use Rattle.std.specs.Prelude.{ℕ, ◌+◌, ◌-◌, ◌*◌, ◌≤◌, ◌≡◌, List}
use Rattle.std.proofs.Common.{ap, ◌∙◌, arith, add-mul}
use Rattle.rules.specs.Lists.{padded}
use Rattle.rules.specs.Fields.{splice}

pub region-bytes : (a e b : ℕ) → a ≤ e → e * b ≡ a * b + (e - a) * b
region-bytes a e b h = let z : e ≡ a + (e - a) = omega arith in ap (λ (k : ℕ). k * b) z ∙ add-mul a (e - a) b

pub blocks-put : (s t bytes : List ℕ) (a e b x y : ℕ) → a ≤ e → x ≡ a * b → y ≡ e * b → t ≡ splice s x (padded bytes (y - x))
    → t ≡ splice s (a * b) (padded bytes ((e - a) * b))
blocks-put s t bytes a e b x y order first past put =
    let n : y - x ≡ (e - a) * b = omega (arith, region-bytes a e b order) in
    put ∙ rw (n, first)
