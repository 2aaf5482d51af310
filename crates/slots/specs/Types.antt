-- The types that start an entry, as bits: bit t stands for type t.
use Rattle.std.specs.Prelude.{ℕ, ◌/◌, ◌%◌, ◌^◌, ◌≤◌, ◌<◌, ◌≡◌, Bool, ◌||◌, not, List, get_or, drop}
use Rattle.std.proofs.Math.Path.{refl}
use Rattle.std.proofs.Common.{sym, ◌∙◌, arith, ne_eqb, eqb-true}
use Rattle.std.proofs.Math.Bool.{true, false}
use Rattle.std.proofs.Math.Dec.{eqb}
use Rattle.std.proofs.lemmas.Bool.{not-true}
use Rattle.rules.specs.Lists.{pick}
use Rattle.rules.specs.Lists.Laws.{checked, check-at, agree, agreed, clash, pick_true, pick-false, and-true, and_left, and_right}
use Rattle.rules.specs.Fields.{byte_at}
use Rattle.rules.specs.Editions.{Edition, edition10, edition110, by_edition, keeps_deleted, takes_stray}
use Rattle.rules.specs.Index.{run_type, directory_type, file_type, deleted_type, stale_type, stale_slots, run_slots, type_unusable}
use Rattle.rules.specs.Index.Walk.{pick-both}
use Rattle.rules.specs.Paths.Laws.{gone-run}
use Rattle.slots.specs.View.{unusable-no-run}
use Rattle.rules.specs.Index.Items.{entry_type, type-drop, step_slots, gap_slots, step-gap}

-- deleted directories and files are 0x19 and 0x1A
unfoldable pub entry_types : Edition → ℕ
entry_types ed = pick (keeps_deleted ed) 0x07060000 0x01060000

unfoldable bit_of : ℕ → ℕ → Bool
bit_of w k = eqb (w / 2 ^ k % 2) 1

low-types : (ed : Edition) (t : ℕ) → t < 32 → bit_of (entry_types ed) t ≡ entry_type ed t
unfolding checked agree bit_of entry_types pick keeps_deleted takes_stray by_edition entry_type stale_type run_type directory_type file_type deleted_type
low-types edition10 t h = agreed _ _ (check-at (λ k. agree (bit_of (entry_types edition10) k) (entry_type edition10 k)) 32 t refl h)
low-types edition110 t h = agreed _ _ (check-at (λ k. agree (bit_of (entry_types edition110) k) (entry_type edition110 k)) 32 t refl h)

-- as a program computes it, of a word and a place that it was given
pub entry-bit : (ed : Edition) (t w k : ℕ) → w ≡ entry_types ed → k ≡ t → t < 32 → eqb (w / 2 ^ k % 2) 1 ≡ entry_type ed t
unfolding bit_of
entry-bit ed t w k e f h = rw (e, f) (low-types ed t h)

-- a larger number is none of them
pub entry-none : (ed : Edition) (t : ℕ) → 32 ≤ t → entry_type ed t ≡ false
unfolding entry_type run_type directory_type file_type
entry-none ed t h =
    and_right (not (stale_type ed t)) _
    (rw (ne_eqb t 0x11 (omega arith), ne_eqb t 0x12 (omega arith), ne_eqb t 0x18 (omega arith), ne_eqb t 0x19 (omega arith), ne_eqb t 0x1A (omega arith)))

-- ---- what is left over, by its type
pub stale-keeps : (ed : Edition) (t : ℕ) → stale_type ed t ≡ true → keeps_deleted ed ≡ false
unfolding stale_type keeps_deleted takes_stray by_edition
stale-keeps edition10 t e = sym e
stale-keeps edition110 t e = refl

module _ (ed : Edition) (t : ℕ) (none : entry_type ed t ≡ false) (deleted : deleted_type t ≡ true) where
  -- a deleted run that is no entry
  pub gone-stale : stale_type ed t ≡ true
  unfolding entry_type
  gone-stale = by (stale_type ed t) refl
    where
      by : (b : Bool) → stale_type ed t ≡ b → b ≡ true
      by true e = refl
      by false e = clash (rw (e, gone-run t deleted) at none)

module _ (ed : Edition) (left : ℕ) (s : List ℕ) (at t : ℕ) (byte : t ≡ get_or s at 0) where
  same-type : byte_at (drop at s) 0 ≡ t
  same-type = type-drop s at ∙ sym byte

  -- a slot that starts no entry and is not deleted stands by itself
  pub step-one : entry_type ed t ≡ false → deleted_type t ≡ false → step_slots ed left (drop at s) ≡ 1
  unfolding gap_slots stale_slots
  step-one none live =
      step-gap ed left (drop at s) (rw same-type none)
      ∙ rw same-type (pick-both (λ (n : ℕ). n ≡ 1) _ _ _ (pick-false _ _ (and_left _ _ live)) refl)

  -- a deleted run that is no entry is left over
  pub step_gone : entry_type ed t ≡ false → deleted_type t ≡ true → step_slots ed left (drop at s) ≡ stale_slots ed left (drop at s)
  unfolding step_slots
  step_gone none deleted = pick_true _ _ (rw same-type (gone-stale ed t none deleted))

  -- an entry is a run or unusable
  pub step_run : entry_type ed t ≡ true → (t ≡ type_unusable → ⊥) → step_slots ed left (drop at s) ≡ run_slots ed (drop at s)
  unfolding step_slots entry_type
  step_run starts other =
      let p = and-true (not (stale_type ed t)) (run_type t || eqb t type_unusable) starts in
      pick-false _ _ (rw same-type (not-true _ p.0))
      ∙ pick_true _ _ (rw same-type (by (run_type t) refl p.1))
    where
      by : (b : Bool) → run_type t ≡ b → (b || eqb t type_unusable) ≡ true → b ≡ true
      by true e u = refl
      by false e u = absurd (other (eqb-true t type_unusable u))

  pub step-unusable : entry_type ed t ≡ true → t ≡ type_unusable → step_slots ed left (drop at s) ≡ 1
  unfolding step_slots entry_type
  step-unusable starts u =
      let p = and-true (not (stale_type ed t)) (run_type t || eqb t type_unusable) starts in
      pick-false _ _ (rw same-type (not-true _ p.0))
      ∙ pick-false _ _ (rw (same-type, u) unusable-no-run)
