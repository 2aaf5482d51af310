-- The code's geometry in the rules' words, and the last tests of a good one under a name of their own.
use Rattle.std.specs.Prelude.{ℕ, ◌*◌, ◌/◌, ◌%◌, ◌<◌, ◌≡◌, Bool, false, ◌&&◌, eqb, leb}
use Rattle.std.proofs.Common.{sym, ◌∙◌, arith, div-add-mod', eq-eqb, ne_eqb}
use Rattle.std.proofs.Math.Nat.{mul-mod_left, div-eq_of_eq-mul_left}
use Rattle.std.proofs.Math.Decide.{ℕ_discrete}
use Rattle.rules.specs.Fields.{signed_of}
use Rattle.rules.specs.SuperBlock.{Geometry, index_good, data_end, ceiling_block}
use Rattle.editions.specs.View.{edition_view}
use Rattle.geometry.specs.declared.Geometry.{Geometry as Held}

abbrev pub geometry_view : Held → Geometry
geometry_view g = record {
  edition = edition_view g.edition;
  stamp = signed_of g.stamp;
  data_blocks = g.data_blocks;
  index_bytes = g.index_bytes;
  version = g.version;
  total = g.total;
  reserved = g.reserved;
  block_field = g.block_field;
}

unfoldable pub areas_fit : ℕ → Geometry → Bool
areas_fit n g = index_good g.index_bytes && leb g.index_bytes n && leb (data_end g) (ceiling_block n g)

-- ---- a product is tested by a quotient and a remainder, which cannot wrap
pub product-not : (t b n : ℕ) → (n % b ≡ 0 → ⊥) → false ≡ eqb (t * b) n
product-not t b n h = sym (ne_eqb (t * b) n (λ e. h (rw (← e) (mul-mod_left t b))))

pub product_is : (t b n : ℕ) → 0 < b → n % b ≡ 0 → eqb t (n / b) ≡ eqb (t * b) n
product_is t b n h z = go (ℕ_discrete t (n / b))
  where
    whole : n / b * b ≡ n
    whole = omega (arith, div-add-mod' n b)

    go : Dec (t ≡ n / b) → eqb t (n / b) ≡ eqb (t * b) n
    go (yes e) = eq-eqb t (n / b) e ∙ sym (eq-eqb (t * b) n (rw e whole))
    go (no d) = ne_eqb t (n / b) d ∙ sym (ne_eqb (t * b) n (λ e. d (sym (div-eq_of_eq-mul_left h (sym e)))))
