-- A run, written field by field: writings side by side are one.
use Rattle.std.specs.Prelude.{ℕ, zero, suc, ◌+◌, ◌-◌, ◌*◌, ◌/◌, ◌≤◌, ◌<◌, ◌≡◌, Bool, true, false, replicate, ℤ}
use Rattle.std.proofs.Math.Path.{sym, ap}
use Rattle.std.proofs.Common.{◌∙◌, mod-eq_of_lt}
use mathlib.Core.List.{List, [], ◌∷◌, ◌++◌, append_assoc}
use native.Mathlib.Omega.{arith}
use Rattle.std.proofs.Math.ListN.{length, length-append, length-replicate}
use Rattle.rules.specs.Lists.{pick, padded, part}
use Rattle.rules.specs.Lists.Laws.{pick_true, pick-false, length-padded, padded-behind}
use Rattle.rules.specs.Fields.{le_bytes, splice, signed_of, stamp_bytes}
use Rattle.rules.specs.Fields.Laws.{length-le_bytes, splice-nil}
use Rattle.rules.specs.Editions.{Edition, edition10, edition110, by_edition, sum_length, sum_of, past_end, stored_end}
use Rattle.rules.specs.Editions.Laws.{sum-short}
use Rattle.rules.specs.Index.{Entry, file_type, name_at, count_at, stamp_at, start_at, end_at, length_at, type_unused, entry_bytes, unused_bytes, region_bytes, run_bytes, retyped}
use Rattle.rules.specs.Index.Laws.{length-bare, length-unused_bytes}
use Rattle.editions.specs.View.{edition_view}
use Rattle.slots.specs.declared.Head.{Head}
use Rattle.fields.specs.Written.{join, byte-alone, length-stamp}
use Rattle.runs.specs.Sealed.{entry-sealed}

-- the entry that a head and a path make
abbrev pub run_entry : Head → List ℕ → Entry
run_entry h path = record {
  kind = h.kind;
  slot = h.slot.0;
  slots = h.slots;
  stamp = signed_of h.stamp;
  start = h.start.0;
  end = past_end (edition_view h.edition) h.end.0;
  length = h.length;
  path = path;
}

-- a type and the zero in the place of its sum are a number
two_bytes : (k : ℕ) → k < 256 → le_bytes 2 k ≡ k ∷ 0 ∷ []
unfolding le_bytes
two_bytes k low =
    let z : k / 256 ≡ 0 = omega arith in
    rw (mod-eq_of_lt low, z)

type-number : (ed : Edition) (k : ℕ) → k < 256 → le_bytes (1 + sum_length ed) k ≡ k ∷ replicate (sum_length ed) 0
unfolding sum_length by_edition
type-number edition10 k low = byte-alone k low
type-number edition110 k low = two_bytes k low

pub type_put : (ed : Edition) (s u : List ℕ) (at kind k n w : ℕ) → k ≡ kind → k < 256 → n ≡ sum_length ed → w ≡ 1 + n → u ≡ splice s at (le_bytes w k) → u ≡ splice s at (kind ∷ replicate (sum_length ed) 0)
type_put ed s u at kind k n w k-is low n-is w-is e =
    e ∙ ap (splice s at) (rw (w-is, n-is) (type-number ed k low) ∙ ap (λ (x : ℕ). x ∷ replicate (sum_length ed) 0) k-is)

-- ---- the head, and a file's fields
module _ (ed : Edition) (s : List ℕ) (at : ℕ) where
  -- each is written at its place: q and r are where the later ones stand
  pub head-put : (kind count : ℕ) (z : ℤ) (q r : ℕ) → at + 12 ≤ length s → count < 256 → q ≡ at + count_at ed → r ≡ at + stamp_at ed → (s₁ s₂ s₃ : List ℕ)
      → s₁ ≡ splice s at (kind ∷ replicate (sum_length ed) 0)
      → s₂ ≡ splice s₁ q (le_bytes 1 count)
      → s₃ ≡ splice s₂ r (stamp_bytes z)
      → s₃ ≡ splice s at ((kind ∷ replicate (sum_length ed) 0) ++ (count ∷ stamp_bytes z))
  head-put kind count z q r room c-fits q-is r-is s₁ s₂ s₃ e₁ e₂ e₃ =
      let x = kind ∷ replicate (sum_length ed) 0 in
      let lx : length x ≡ count_at ed = omega (arith, length-replicate {A = ℕ} (sum_length ed) 0) in
      let lxc : length (x ++ (count ∷ [])) ≡ stamp_at ed = omega (arith, length-append x (count ∷ [])) in
      rw (
        e₃,
        e₂,
        e₁,
        q-is,
        r-is,
        byte-alone count c-fits,
        join s at x (count_at ed) (count ∷ []) lx (omega (arith, sum-short ed)),
        join s at (x ++ (count ∷ [])) (stamp_at ed) (stamp_bytes z) lxc (omega (arith, length-stamp z, sum-short ed)),
      )
      (ap (splice s at) (append_assoc x (count ∷ []) (stamp_bytes z)))

  pub file-put : (a b c p q r : ℕ) → at + 64 ≤ length s → p ≡ at + start_at ed → q ≡ at + end_at ed → r ≡ at + length_at ed → (s₁ s₂ s₃ : List ℕ)
      → s₁ ≡ splice s p (le_bytes 8 a)
      → s₂ ≡ splice s₁ q (le_bytes 8 b)
      → s₃ ≡ splice s₂ r (le_bytes 8 c)
      → s₃ ≡ splice s (at + start_at ed) (le_bytes 8 a ++ (le_bytes 8 b ++ le_bytes 8 c))
  file-put a b c p q r room p-is q-is r-is s₁ s₂ s₃ e₁ e₂ e₃ =
      let o = at + start_at ed in
      let q₁ : q ≡ o + 8 = omega arith in
      let r₁ : r ≡ o + 16 = omega arith in
      let low : o + 24 ≤ length s = omega (arith, sum-short ed) in
      rw (
        e₃,
        e₂,
        e₁,
        p-is,
        q₁,
        r₁,
        join s o (le_bytes 8 a) 8 (le_bytes 8 b) (length-le_bytes 8 a) (rw length-le_bytes (omega arith)),
        join s o (le_bytes 8 a ++ le_bytes 8 b) 16 (le_bytes 8 c) (simp (length-append, length-le_bytes)) (rw length-le_bytes (omega arith)),
      )
      (ap (splice s o) (append_assoc (le_bytes 8 a) (le_bytes 8 b) (le_bytes 8 c)))

-- of a directory no field is written
module _ (s : List ℕ) (at : ℕ) where
  pub fields-some : (t : ℕ) (bs u : List ℕ) → file_type t ≡ true → u ≡ splice s at bs → u ≡ splice s at (pick (file_type t) bs [])
  fields-some t bs u e f = f ∙ ap (splice s at) (sym (pick_true bs [] e))

  pub fields-none : (t : ℕ) (bs : List ℕ) → file_type t ≡ false → s ≡ splice s at (pick (file_type t) bs [])
  fields-none t bs e = sym (ap (splice s at) (pick-false bs [] e) ∙ splice-nil s at)

-- the name starts behind the fields
fields-length : (ed : Edition) (t a b c : ℕ) → start_at ed + length (pick (file_type t) (le_bytes 8 a ++ (le_bytes 8 b ++ le_bytes 8 c)) []) ≡ name_at ed t
unfolding name_at pick
fields-length ed t a b c = by (file_type t)
  where
    by : (f : Bool) → start_at ed + length (pick f (le_bytes 8 a ++ (le_bytes 8 b ++ le_bytes 8 c)) []) ≡ sum_length ed + pick f 34 10
    by true = simp (length-append, length-le_bytes) (omega arith)
    by false = omega arith

-- ---- the run
module _ (ed : Edition) (s : List ℕ) (at : ℕ) (e : Entry) (stored : ℕ) (last : stored_end ed e.end ≡ stored) (some : 1 ≤ e.slots) (room : at + 64 * e.slots ≤ length s) (holds : name_at ed e.kind + length e.path ≤ 64 * e.slots) where
  lead : List ℕ
  lead = e.kind ∷ replicate (sum_length ed) 0

  front : List ℕ
  front = (e.slots - 1) ∷ stamp_bytes e.stamp

  region : List ℕ
  region = pick (file_type e.kind) (le_bytes 8 e.start ++ (le_bytes 8 stored ++ le_bytes 8 e.length)) []

  body : List ℕ
  body = front ++ (region ++ e.path)

  pub run-put : (nm p q : ℕ) → nm ≡ name_at ed e.kind → p ≡ at + nm → q ≡ at + 64 * e.slots → (s₁ s₂ s₃ s₄ : List ℕ)
      → s₁ ≡ splice s at ((e.kind ∷ replicate (sum_length ed) 0) ++ ((e.slots - 1) ∷ stamp_bytes e.stamp))
      → s₂ ≡ splice s₁ (at + start_at ed) (pick (file_type e.kind) (le_bytes 8 e.start ++ (le_bytes 8 stored ++ le_bytes 8 e.length)) [])
      → s₃ ≡ splice s₂ p (padded e.path (q - p))
      → s₄ ≡ splice s₃ (at + 1) (sum_of ed (part s₃ at (64 * e.slots)))
      → s₄ ≡ splice s at (run_bytes ed e)
  unfolding run_bytes region_bytes lead front region body
  run-put nm p q name p-is q-is s₁ s₂ s₃ s₄ e₁ e₂ e₃ e₄ =
      let x = lead ++ front in
      let n = 64 * e.slots - nm in
      let m = 64 * e.slots - count_at ed in
      let w : q - p ≡ n = omega arith in
      let ll : length lead ≡ count_at ed = omega (arith, length-replicate {A = ℕ} (sum_length ed) 0) in
      let lf : length front ≡ 9 = omega (arith, length-stamp e.stamp) in
      let lx : length x ≡ start_at ed = omega (arith, length-append lead front) in
      let ly : start_at ed + length region ≡ nm = fields-length ed e.kind e.start stored e.length ∙ sym name in
      let lxy : length (x ++ region) ≡ nm = omega (arith, length-append x region) in
      let lfr : length (front ++ region) + n ≡ m = omega (arith, length-append front region) in
      let lb : length body ≤ m = omega (arith, length-append front (region ++ e.path), length-append region e.path) in
      let tail : padded body m ≡ (front ++ region) ++ padded e.path n =
      ap (λ (xs : List ℕ). padded xs m) (sym (append_assoc front region e.path))
      ∙ ap (padded ((front ++ region) ++ e.path)) (sym lfr)
      ∙ padded-behind (front ++ region) e.path n in
      let all : (x ++ region) ++ padded e.path n ≡ lead ++ padded body m =
      append_assoc x region (padded e.path n)
      ∙ append_assoc lead front (region ++ padded e.path n)
      ∙ ap (λ (xs : List ℕ). lead ++ xs) (sym (tail ∙ append_assoc front region (padded e.path n))) in
      let put : s₃ ≡ splice s at (lead ++ padded body m) =
      rw (
        e₃,
        e₂,
        e₁,
        w,
        p-is,
        join s at x (start_at ed) region lx (omega arith),
        join s at (x ++ region) nm (padded e.path n) lxy (omega (arith, length-padded e.path n (omega arith))),
      )
      (ap (splice s at) all) in
      entry-sealed ed s at e.kind (64 * e.slots) m body (omega (arith, sum-short ed)) lb (omega arith) room s₃ s₄ put e₄
      ∙ rw last

-- ---- another type and stamp
pub retype-put : (ed : Edition) (s t u : List ℕ) (at kind k q : ℕ) (z : ℤ) → k ≡ kind → k < 256 → q ≡ at + stamp_at ed → t ≡ splice s at (le_bytes 1 k) → u ≡ splice t q (stamp_bytes z) → u ≡ retyped ed s at kind z
unfolding retyped
retype-put ed s t u at kind k q z k-is low q-is e f = rw (f, e, byte-alone k low, k-is, q-is)

-- ---- unused slots, one at a time
pub unused-turn : (ed : Edition) (s t : List ℕ) (at n q : ℕ) → 0 < n → at + 64 * n ≤ length s → q ≡ at + 64 → t ≡ splice s at (entry_bytes ed type_unused [] 64)
    → splice t q (unused_bytes ed (n - 1)) ≡ splice s at (unused_bytes ed n)
unfolding unused_bytes
unused-turn ed s t at zero q low fits q-is e = absurd (omega arith)
unused-turn ed s t at (suc m) q low fits q-is e =
    let l : suc m - 1 ≡ m = omega arith in
    rw (e, q-is, l) (join s at (entry_bytes ed type_unused [] 64) 64 (unused_bytes ed m) (length-bare ed type_unused) (omega (arith, length-unused_bytes ed m)))

pub unused-end : (ed : Edition) (s : List ℕ) (at n : ℕ) → n ≡ 0 → splice s at (unused_bytes ed n) ≡ s
unfolding unused_bytes
unused-end ed s at n z = rw z (splice-nil s at)
