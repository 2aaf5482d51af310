-- Keys whose paths begin as one pivot does, as far as their numbers say: what two of them have in common is not walked again.
use Rattle.std.specs.Prelude.{ℕ, zero, suc, ◌+◌, ◌*◌, ◌/◌, ◌%◌, ◌≤◌, ◌<◌, min, ◌≡◌, refl, Bool, List, [], ◌∷◌, map, length, get_or, take, drop}
use Rattle.std.proofs.Common.{sym, ap, ap₂, ◌∙◌, eq-eqb}
use Rattle.std.proofs.lemmas.List.{length-take}
use native.Mathlib.Omega.{arith}
use Rattle.rules.specs.Lists.{pick, All}
use Rattle.rules.specs.Lists.Laws.{pick_true}
use Rattle.rules.specs.Fields.{Bytes, up_to_zero}
use Rattle.rules.specs.Fields.Laws.{up_to_zero-take}
use Rattle.rules.specs.Editions.{Edition}
use Rattle.rules.specs.Index.{name_field}
use Rattle.rules.specs.Index.Frame.{take_same}
use Rattle.laws.proofs.Lists.Every.{all-weaken}
use Rattle.laws.proofs.Lists.Perms.{perm-all}
use Rattle.ordering.specs.Order.{Sorted}
use Rattle.ordering.specs.Paths.{follows}
use Rattle.ordering.specs.Starts.{here-and-behind, zero-behind}
use Rattle.ordering.specs.Keys.{number_of, place_of, key_path, key_le}
use Rattle.ordering.specs.Pivots.{shared_by}
use Rattle.ordering.proofs.Pivots.{shared-bytes}
use Rattle.numbering.specs.Numbers.{Numbered, path_bytes, loaded, loaded-stand}

-- ---- two paths that have their first d bytes in common
abbrev pub Common : ℕ → List ℕ → List ℕ → Type 0
Common d p q = (d ≤ length p) × (d ≤ length q) × (take d p ≡ take d q)

follows-behind : (directory : Bool) (d : ℕ) (p q : List ℕ) → Common d p q → follows directory (drop d p) (drop d q) ≡ follows directory p q
unfolding follows
follows-behind directory zero p q h = refl
follows-behind directory (suc d) [] q h = absurd (omega (arith, h.0))
follows-behind directory (suc d) (x ∷ p) [] h = absurd (omega (arith, h.1))
follows-behind directory (suc d) (x ∷ p) (y ∷ q) h =
    let e : take (suc d) (x ∷ p) ≡ take (suc d) (y ∷ q) = h.2 in
    let f : x ≡ y = cc in
    let g : take d p ≡ take d q = cc in
    follows-behind directory d p q (omega (arith, h.0), omega (arith, h.1), g) ∙ sym (pick_true _ _ (eq-eqb x y f))

-- the same of the paths in two fields
pub names-behind : (directory : Bool) (d : ℕ) (f g : List ℕ) → Common d (up_to_zero f) (up_to_zero g)
    → follows directory (up_to_zero (drop d f)) (up_to_zero (drop d g)) ≡ follows directory (up_to_zero f) (up_to_zero g)
names-behind directory d f g h = ap₂ (follows directory) (zero-behind d f h.0) (zero-behind d g h.1) ∙ follows-behind directory d (up_to_zero f) (up_to_zero g) h

-- they lie in the fields
pub names-inside : (d : ℕ) (f g : List ℕ) → Common d (up_to_zero f) (up_to_zero g) → (d ≤ length f) × (d ≤ length g)
names-inside d f g h =
    (omega (arith, h.0, ap length (up_to_zero-take f), length-take (length (up_to_zero f)) f), omega (arith, h.1, ap length (up_to_zero-take g), length-take (length (up_to_zero g)) g))

-- each has some in common with a third
common-with : (bs : List ℕ) (m n : ℕ) (p q : List ℕ) → (m ≤ length p) × (take m p ≡ take m bs) → (n ≤ length q) × (take n q ≡ take n bs) → Common (min m n) p q
common-with bs m n p q h k =
    (omega (arith, h.0), omega (arith, k.0), take_same m p bs h.1 (min m n) (omega arith) ∙ sym (take_same n q bs k.1 (min m n) (omega arith)))

-- ---- the first bytes of a key's path are the pivot's, as many as its number says
abbrev pub Shares : Edition → List ℕ → ℕ → List ℕ → ℕ → Type 0
Shares ed s at pivot k = (shared_by (number_of k) ≤ length (key_path ed s at k)) × (take (shared_by (number_of k)) (key_path ed s at k) ≡ take (shared_by (number_of k)) pivot)

-- and one pivot serves all the keys
pub record Pivoted (ed : Edition) (s : List ℕ) (at : ℕ) (keys : List ℕ) : Type 0 where
  pub pivot : List ℕ
  pub each : All (Shares ed s at pivot) keys

module _ (ed : Edition) (s : List ℕ) (at : ℕ) where
  -- two such keys, and x and y are the names at their places
  pub names-common : (a b : ℕ) (x y : List ℕ) (d : ℕ) → x ≡ name_field ed (drop (at + 64 * (a % 65_536)) s) → y ≡ name_field ed (drop (at + 64 * (b % 65_536)) s)
      → d ≡ min (shared_by (a / 65_536)) (shared_by (b / 65_536)) → Pivoted ed s at (a ∷ b ∷ []) → Common d (up_to_zero x) (up_to_zero y)
  unfolding key_path number_of place_of
  names-common a b x y d ex ey e p = rw (ex, ey, e) (common-with p.pivot _ _ _ _ p.each.0 p.each.1.0)

  -- ---- the keys from place i on, where k stands
  module _ (keys : List ℕ) (i k : ℕ) (more : i < length keys) (here : k ≡ get_or keys i 0) where
    pub pivoted-first : Pivoted ed s at (drop i keys) → Pivoted ed s at (k ∷ drop (i + 1) keys)
    pivoted-first p = rw (here-and-behind keys i k more here) at p

    pub pivoted-next : (a : ℕ) → Pivoted ed s at (a ∷ drop i keys) → Pivoted ed s at (k ∷ drop (i + 1) keys)
    pivoted-next a p = pivoted-first (record { pivot = p.pivot; each = p.each.1 })

    pub pivoted-two : (a : ℕ) → Pivoted ed s at (a ∷ drop i keys) → Pivoted ed s at (a ∷ k ∷ [])
    pivoted-two a p =
        let q : Pivoted ed s at (a ∷ k ∷ drop (i + 1) keys) = rw (here-and-behind keys i k more here) at p in
        record { pivot = q.pivot; each = (q.each.0, (q.each.1.0, tt)) }

  -- ---- keys without numbers share nothing, and those that are numbered what their numbers say, in any order
  small-shares : (k : ℕ) → k < 65_536 → Shares ed s at [] k
  unfolding number_of shared_by pick
  small-shares k h =
      let e : k / 65_536 ≡ 0 = omega arith in
      rw e (omega arith, refl)

  pub pivoted-small : (ks : List ℕ) → All (λ k. k < 65_536) ks → Pivoted ed s at ks
  pivoted-small ks h = record { pivot = []; each = all-weaken _ _ small-shares ks h }

  pub pivoted-sorted : Bytes s → (old before after : List ℕ) → Numbered ed s at old before → Sorted (key_le ed s at) before after → Pivoted ed s at after
  pivoted-sorted bytes old before after n sorted = record {
    pivot = n.pivot;
    each =
        perm-all _ sorted.same
        (rw n.keys
        (all-weaken _ _ (λ k l. shared-bytes n.pivot (key_path ed s at k) n.few (path_bytes ed s at k bytes) (number_of k) l) (map (loaded ed s at n.pivot) old) (loaded-stand ed s at n.pivot old)));
  }
