-- Calls alone and one after the other, by their contracts: what the laws of the definitions come to.
use Prim.Native.Nat.{ℕ}
use mathlib.Core.Path.{◌≡◌, refl, sym, ap, subst, ◌∙◌}
use mathlib.Core.Bool.{Bool, true, false}
use mathlib.Core.List.{List}
use mathlib.Core.Logic.{inl, inr}
use lib.IntN.{ℤ}
use Rattle.rules.specs.Lists.{pick, any}
use Rattle.rules.specs.Lists.Laws.{pick_true, pick-false}
use Rattle.rules.specs.Fields.{Bytes}
use Rattle.rules.specs.Editions.{keeps_deleted}
use Rattle.rules.specs.Names.{path_good}
use Rattle.rules.specs.Paths.{deleted_at}
use Rattle.rules.specs.Refusals.{accepted, Volume, entries, judge}
use Rattle.rules.specs.Outcome.{done, numbers_of}
use Rattle.rules.specs.Reading.{find_of}
use Rattle.rules.specs.Reading.Laws.{find-done}
use Rattle.rules.specs.Writing.{Written, on_deletable, wiped, Wiped, delete_of, deleted, delete_keep_of, restore_of, reclaim_of}
use Rattle.rules.specs.Writing.Laws.{refused_write, wrote, restore-name}
use Rattle.contracts.specs.Promises.{written_as, Finds, Deletes, DeletesKeeping, Restores, Reclaims}
use Rattle.contracts.specs.declared.Entry.{Entry}
use Rattle.laws.proofs.Images.Accepted.{passed-opens}
use Rattle.after.proofs.Deletable.{delete-passed}
use Rattle.after.proofs.Delete.{delete-wipes}
use Rattle.after.proofs.Unfound.{deleted-unfound}
use Rattle.after.proofs.Reclaim.Left.{Reopens, reclaim-reopens}
use Rattle.after.proofs.Back.{deleted-restored, reclaimed-restored, still-may}
use Rattle.undoing.specs.Undone.{LeavesNothing, UndoneBy, Undone, TooLate}

-- a call answers and leaves what its definition does
same-refusal : (r : ℕ) (t : List ℕ) (o : Written) → written_as r t ≡ o → r ≡ o.refusal
same-refusal r t o e = ap (λ (x : Written). x.refusal) e

same-image : (r : ℕ) (t : List ℕ) (o : Written) → written_as r t ≡ o → o.image ≡ t
same-image r t o e = sym (ap (λ (x : Written). x.image) e)

-- so one that refused was not served
pub not-deleted : {X : Type 0} (s t path : List ℕ) (stamp : ℤ) (r : ℕ) → DeletesKeeping s path stamp r t → (r ≡ 0 → ⊥) → (delete_keep_of s path stamp).refusal ≡ 0 → X
not-deleted s t path stamp r e n z = absurd (n (same-refusal r t (delete_keep_of s path stamp) e ∙ z))

pub not-reclaimed : {X : Type 0} (s t : List ℕ) (stamp : ℤ) (r : ℕ) → Reclaims s stamp r t → (r ≡ 0 → ⊥) → (reclaim_of s stamp).refusal ≡ 0 → X
not-reclaimed s t stamp r e n z = absurd (n (same-refusal r t (reclaim_of s stamp) e ∙ z))

-- ---- nothing left
pub leaves_nothing : (s t path : List ℕ) (stamp : ℤ) (r : ℕ) → Deletes s path stamp r t → LeavesNothing s path r t
unfolding delete_of on_deletable
leaves_nothing s t path stamp r deletes served =
    let w : Written = delete_of s path stamp in
    let z : w.refusal ≡ 0 = sym (same-refusal r t w deletes) ∙ served in
    let o = passed-opens s _ z in
    let d = delete-passed s o.0 path (wiped path stamp) o.1 z in
    let i = same-image r t w deletes in (
      o.0,
      d.it,
      o.1,
      d.found,
      subst (λ (u : List ℕ). Wiped u o.0.geometry d.it) i (delete-wipes s o.0 path d.it stamp o.1 d.found z),
      λ found finds.
          ap (λ x. x.refusal) finds
          ∙ subst (λ (u : List ℕ). (find_of u path).refusal ≡ 11) i ((deleted-unfound s o.0 path stamp o.1).0 z),
    )

-- ---- a delete undone
restored-as : (keeps b : Bool) (s t u : List ℕ) (q : ℕ) → written_as q u ≡ pick keeps (pick b (refused_write t 19) (wrote s)) (refused_write t 11)
    → UndoneBy keeps s t q u
unfolding pick done
restored-as true true s t u q e = inr (ap (λ (x : Written). x.refusal) e, ap (λ (x : Written). x.image) e)
restored-as true false s t u q e = inl (ap (λ (x : Written). x.refusal) e, ap (λ (x : Written). x.image) e)
restored-as false b s t u q e = (ap (λ (x : Written). x.refusal) e, ap (λ (x : Written). x.image) e)

pub undone : (s t u path : List ℕ) (stamp old : ℤ) (f : Entry) (r q : ℕ) → Bytes s → Finds s path f → DeletesKeeping s path stamp r t
    → old ≡ f.stamp → Restores t path old q u → Undone s path stamp q u
unfolding delete_keep_of on_deletable done numbers_of
undone s t u path stamp old f r q bytes finds deletes same restores z =
    let i = same-image r t (delete_keep_of s path stamp) deletes in
    let o = passed-opens s _ z in
    let d = delete-passed s o.0 path (deleted stamp) o.1 z in
    let was : f.stamp ≡ d.it.stamp = ap (λ x. x.answer.stamp) (finds ∙ find-done s o.0 o.1 path d.it d.named d.found) in
    let keeps : Bool = keeps_deleted o.0.geometry.edition in
    let b : Bool = any (deleted_at path) (entries o.0) in
    let back : restore_of t path d.it.stamp ≡ pick keeps (pick b (refused_write t 19) (wrote s)) (refused_write t 11) =
    subst (λ (x : List ℕ). restore_of x path d.it.stamp ≡ pick keeps (pick b (refused_write x 19) (wrote s)) (refused_write x 11)) i
    (deleted-restored s o.0 path d.it stamp bytes o.1 d.found z) in (
      o.0,
      o.1,
      subst (λ (x : List ℕ). UndoneBy keeps s x q u) (sym i)
          (restored-as keeps b s t u q (restores ∙ ap (restore_of t path) (same ∙ was) ∙ back)),
    )

-- ---- a restore too late
refused_as : (t u : List ℕ) (q n m : ℕ) → n ≡ m → written_as q u ≡ refused_write t m → (q ≡ n) × (u ≡ t)
refused_as t u q n m z e = (ap (λ (x : Written). x.refusal) e ∙ sym z, ap (λ (x : Written). x.image) e)

pub too-late : (s t u path : List ℕ) (first second : ℤ) (r q : ℕ) → Reclaims s first r t → Restores t path second q u → TooLate s path first q u
unfolding reclaim_of pick
too-late s t u path first second r q reclaims restores z = subst (λ (x : List ℕ). (q ≡ pick (path_good path) 11 10) × (u ≡ x)) (sym i) (by (path_good path) refl)
  where
    i : (reclaim_of s first).image ≡ t
    i = same-image r t (reclaim_of s first) reclaims

    o : (v : Volume) × (judge s ≡ accepted v)
    o = passed-opens s _ z

    none : path_good path ≡ true → restore_of t path second ≡ refused_write t 11
    none e = subst (λ (x : List ℕ). restore_of x path second ≡ refused_write x 11) i (reclaimed-restored s o.0 path first second o.1 z e)

    reopens : Reopens t o.0
    reopens = subst (λ (x : List ℕ). Reopens x o.0) i (reclaim-reopens s o.0 first o.1 z)

    unnamed : path_good path ≡ false → restore_of t path second ≡ refused_write t 10
    unnamed e = restore-name t reopens.volume reopens.opens (still-may s o.0 first o.1 z reopens.volume reopens.sealed) path second e

    by : (b : Bool) → path_good path ≡ b → (q ≡ pick (path_good path) 11 10) × (u ≡ t)
    by true e = refused_as t u q (pick (path_good path) 11 10) 11 (pick_true 11 10 e) (restores ∙ none e)
    by false e = refused_as t u q (pick (path_good path) 11 10) 10 (pick-false 11 10 e) (restores ∙ unnamed e)
