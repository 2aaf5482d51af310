-- Sets of ASCII characters as bits, one for each: which bits stand for the characters of a name.
use Rattle.std.specs.Prelude.{ℕ, ◌/◌, ◌%◌, ◌^◌, ◌<◌, ◌≡◌, Bool, ◌&&◌, not, eqb, ltb}
use Rattle.std.proofs.Math.Path.{refl}
use Rattle.rules.specs.Lists.{pick, any}
use Rattle.rules.specs.Lists.Laws.{checked, check-at, agree, agreed}
use Rattle.rules.specs.Utf8.{within}
use Rattle.rules.specs.Names.{slash, dot, is_mark, code_good}

-- the bit of b, in the low word for those below 0x40, else in the high one
unfoldable pub bit_of : ℕ → ℕ → ℕ → Bool
bit_of low high b = eqb (pick (ltb b 64) low high / 2 ^ (b % 64) % 2) 1

-- neither slash nor dot, on which the parts of a path turn
unfoldable pub turns_nothing : ℕ → Bool
turns_nothing b = not (eqb b slash) && not (eqb b dot)

-- the characters of a name, and those of them that turn nothing
abbrev name_bits : ℕ → Bool
name_bits = bit_of 0x2BFFFBFB00000000 0x7FFFFFFFEFFFFFFF

abbrev part_bits : ℕ → Bool
part_bits = bit_of 0x2BFF3BFB00000000 0x7FFFFFFFEFFFFFFF

module _ (b : ℕ) (h : b < 128) where
  pub name-bits : name_bits b ≡ code_good b
  unfolding checked bit_of pick agree code_good within is_mark any
  name-bits = agreed _ _ (check-at (λ k. agree (name_bits k) (code_good k)) 128 b refl h)

  pub part-bits : part_bits b ≡ (code_good b && turns_nothing b)
  unfolding checked bit_of pick agree code_good within is_mark any turns_nothing
  part-bits = agreed _ _ (check-at (λ k. agree (part_bits k) (code_good k && turns_nothing k)) 128 b refl h)
