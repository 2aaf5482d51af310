-- A name that leads to a path, taken a byte further.
use Rattle.std.specs.Prelude.{ℕ, ◌+◌, ◌≤◌, ◌<◌, ◌≡◌, Bool, List, length, get_or, drop}
use Rattle.std.proofs.Math.Path.{refl, sym}
use Rattle.std.proofs.Common.{◌∙◌}
use Rattle.std.proofs.Math.Bool.{false}
use Rattle.std.proofs.Math.Numerals.{add-one}
use Rattle.std.proofs.Math.ListN.{drop_of_length-le}
use Rattle.std.proofs.Math.Seq.{drop-cons}
use Rattle.std.proofs.Math.Dec.{eqb}
use borrow.Author.Tests.{eq-eqb, ne_eqb}
use Rattle.rules.specs.Lists.{pick}
use Rattle.rules.specs.Fields.{up_to_zero}
use Rattle.rules.specs.Names.{slash, is_below}

module _ (name path : List ℕ) where
  -- what is left from place i on answers as the whole
  abbrev leads_from : ℕ → Bool
  leads_from i = is_below (up_to_zero (drop i name)) (drop i path)

  abbrev pub LeadsAt : ℕ → Type 0
  LeadsAt i = leads_from i ≡ is_below (up_to_zero name) path

  module _ (i : ℕ) (so_far : LeadsAt i) where
    -- the path has no more bytes
    pub leads-out : length path ≤ i → false ≡ is_below (up_to_zero name) path
    unfolding is_below
    leads-out h =
        let a : leads_from i ≡ false = rw (drop_of_length-le path {i = i} h) refl in
        sym a ∙ so_far

    module _ (h : i < length path) where
      -- the name has none
      pub leads-end : length name ≤ i → eqb (get_or path i 0) slash ≡ is_below (up_to_zero name) path
      unfolding is_below up_to_zero
      leads-end k =
          let a : leads_from i ≡ eqb (get_or path i 0) slash = rw (drop-cons path i 0 h, drop_of_length-le name {i = i} k) refl in
          sym a ∙ so_far

      module _ (k : i < length name) where
        -- or its zero
        pub leads-zero : get_or name i 0 ≡ 0 → eqb (get_or path i 0) slash ≡ is_below (up_to_zero name) path
        unfolding is_below up_to_zero pick
        leads-zero z =
            let a : leads_from i ≡ eqb (get_or path i 0) slash = rw (drop-cons path i 0 h, drop-cons name i 0 k, eq-eqb (get_or name i 0) 0 z) refl in
            sym a ∙ so_far

        module _ (z : get_or name i 0 ≡ 0 → ⊥) where
          pub leads-apart : (get_or name i 0 ≡ get_or path i 0 → ⊥) → false ≡ is_below (up_to_zero name) path
          unfolding is_below up_to_zero pick
          leads-apart d =
              let a : leads_from i ≡ false = rw (drop-cons path i 0 h, drop-cons name i 0 k, ne_eqb (get_or name i 0) 0 z, ne_eqb (get_or name i 0) (get_or path i 0) d) refl in
              sym a ∙ so_far

          pub leads-next : get_or name i 0 ≡ get_or path i 0 → LeadsAt (i + 1)
          unfolding is_below up_to_zero pick
          leads-next d =
              let a : leads_from (i + 1) ≡ leads_from i =
              rw (drop-cons path i 0 h, drop-cons name i 0 k, add-one, ne_eqb (get_or name i 0) 0 z, eq-eqb (get_or name i 0) (get_or path i 0) d) refl in
              a ∙ so_far
