-- How long an entry's line is, and how many blocks it holds, for each slot of its run. Assumes nothing.
use Prim.Native.Nat.{ℕ, ◌+◌, ◌^◌, ◌≤◌, ◌<◌}
use mathlib.Core.Path.{ap}
use mathlib.Core.List.{List}
use native.Mathlib.Omega.{arith}
use lib.ListN.{length, length-append}
use Rattle.rules.specs.Fields.{Bytes}
use Rattle.rules.specs.Text.Laws.{decimal-64}
use Rattle.rules.proofs.Dates.Text.{moment-text-fits}
use Rattle.rules.specs.Editions.{Edition, edition10, edition110, by_edition, stored_end}
use Rattle.rules.specs.Index.Items.{stale-fits}
use Rattle.rules.specs.Index.{Entry, item_at}
use Rattle.rules.specs.Regions.{blocks_of}
use Rattle.rules.specs.Listing.{line_of}
use Rattle.laws.proofs.Index.Entries.{Numbers, IsRun, item-cases, run-slots, run-within, run-numbers, run-path-length, unusable-slots, unusable-bare, unusable-numbers}
use Rattle.laws.proofs.Listing.Weights.{Weighs}

line-length : (ed : Edition) (e : Entry) → Numbers ed e → length (line_of e) ≤ 55 + length e.path
unfolding line_of
line-length ed e n = simp length-append (omega (arith, decimal-64 e.length n.lengths, moment-text-fits e.stamp n.stamps))

-- an end is stored as it is, or as the number before it
stored-near : (ed : Edition) (n : ℕ) → n ≤ stored_end ed n + 1
unfolding stored_end by_edition
stored-near edition10 n = omega arith
stored-near edition110 n = omega arith

-- by its slots: 64 bytes of path for each, and 55 for the rest of the line
abbrev pub per_slot : ℕ
per_slot = 119

-- a weight of one entry: one slot or more, which are left
module _ (ed : Edition) (left k : ℕ) (a : List ℕ) (more : 0 < left) (b : Bytes a) where
  slots-low : (e : Entry) → IsRun ed left k a e → 1 ≤ e.slots
  slots-low e h = omega (arith, run-slots ed left k a e h)

  pub line-weighs : Weighs (λ e. length (line_of e)) per_slot left (item_at ed left k a)
  line-weighs =
      item-cases ed left k a (Weighs (λ e. length (line_of e)) per_slot left)
      (λ e h. (run-within ed left k a e h, omega (arith, slots-low e h, run-path-length ed left k a e h, line-length ed e (run-numbers ed left k a e h b))))
      (λ e h. (omega (arith, unusable-slots ed k a e h), omega (arith, unusable-slots ed k a e h, ap length (unusable-bare ed k a e h).1, line-length ed e (unusable-numbers ed k a e h b))))
      tt (stale-fits ed left a more) tt

  pub one-weighs : Weighs (λ e. 1) 1 left (item_at ed left k a)
  one-weighs =
      item-cases ed left k a (Weighs (λ e. 1) 1 left)
      (λ e h. (run-within ed left k a e h, omega (arith, slots-low e h)))
      (λ e h. (omega (arith, unusable-slots ed k a e h), omega (arith, unusable-slots ed k a e h)))
      tt (stale-fits ed left a more) tt

  -- its blocks are no more than 64 bits can count
  pub blocks-weigh : Weighs blocks_of (2 ^ 64) left (item_at ed left k a)
  unfolding blocks_of
  blocks-weigh =
      item-cases ed left k a (Weighs blocks_of (2 ^ 64) left)
      (λ e h. (run-within ed left k a e h, omega (arith, slots-low e h, stored-near ed e.end, (run-numbers ed left k a e h b).ends)))
      (λ e h. (omega (arith, unusable-slots ed k a e h), omega (arith, unusable-slots ed k a e h, stored-near ed e.end, (unusable-numbers ed k a e h b).ends)))
      tt (stale-fits ed left a more) tt
