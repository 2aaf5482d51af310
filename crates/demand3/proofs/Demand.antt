-- DEMAND 3: after every list of calls the image holds what the history says, given what each accepted writing call leaves.
use Prim.Native.Nat.{ℕ}
use mathlib.Core.List.{List, []}
use native.Mathlib.Omega.{arith}
use Rattle.rules.specs.Refusals.{entries}
use Rattle.rules.specs.Refusals.Laws.{judge-opens}
use Rattle.rules.specs.History.{History, nothing, name_of_kept, ReadsBack, Holds, Demand3}
use Rattle.rules.specs.Regions.{Extent}
use Rattle.after.specs.After.{AfterFormat, AfterCreate, AfterDelete, AfterDeleteKeep, AfterRestore, AfterReclaim}
use Rattle.laws.proofs.Lists.Perms.{perm-all, perm-map, perm-only, perm-sum}
use Rattle.laws.proofs.Entries.Walked.{settled-entries}
use Rattle.demand3.proofs.Seen.{seen-blocks, files-apart, seen-names}
use Rattle.demand3.proofs.ReadBack.{reads-back}
use Rattle.demand3.proofs.Linked.{Link, formatted, linked}

-- an image that agrees with its history holds what that says
pub held : (s : List ℕ) (h : History) (bad : List Extent) → Link s h bad → Holds s h
held s h bad l =
    let v = l.volume in
    let o = judge-opens s v l.opens in
    record {
      volume = l.volume;
      opens = l.opens;
      blocks = omega (arith, l.sums, seen-blocks s v (settled-entries s v o), perm-sum (λ k. k.blocks) l.agree);
      apart = files-apart v.geometry (entries v) o.regions-sound;
      names = rw (← seen-names s v) (perm-map name_of_kept (perm-only (λ k. k.live) l.agree));
      reads = perm-all (ReadsBack s) l.agree (reads-back s v l.opens);
    }

module _ (format-left : AfterFormat) (create-left : AfterCreate) (delete-left : AfterDelete) (delete-keep-left : AfterDeleteKeep) (restore-left : AfterRestore) (reclaim-left : AfterReclaim) where
  pub demand-3 : Demand3
  demand-3 s version bytes_per_block reserved name stamp e cs =
      held _ _ _
      (linked format-left create-left delete-left delete-keep-left restore-left reclaim-left _ _ [] cs
      (formatted format-left create-left delete-left delete-keep-left restore-left reclaim-left s nothing version bytes_per_block reserved name stamp e))
