-- Laws of the history, whatever the calls: the blocks granted and not given back are those of what it keeps.
use Rattle.std.specs.Prelude.{ℕ, ◌+◌, ◌≡◌, true, List, ℤ}
use Rattle.std.proofs.Common.{ap, ◌∙◌, arith}
use Rattle.rules.specs.Lists.{sum}
use Rattle.rules.specs.Lists.Laws.{pick_true, sum-parts, sum-map}
use Rattle.rules.specs.Editions.{keeps_deleted}
use Rattle.rules.specs.Index.Walk.{pick-both}
use Rattle.rules.specs.History.{Call, format, open_volume, find, list, list_all, read, create, delete, delete_keep, restore, reclaim, History, kept_at, marked, marked_in, struck_in, revived, fed}

abbrev pub Balanced : History → Type 0
Balanced h = sum (λ k. k.blocks) h.kept + h.given_back ≡ h.granted

-- a delete that marks and a restore change no entry's blocks, a create grants those that it adds, a reclaim and a delete that strikes give back those that they strike
pub balanced-fed : (h : History) (c : Call) → Balanced h → Balanced (fed h c)
unfolding fed marked_in struck_in marked revived sum
balanced-fed h (format version bytes_per_block reserved name stamp) b = omega arith
balanced-fed h (open_volume out) b = b
balanced-fed h (find path) b = b
balanced-fed h (list slot out) b = b
balanced-fed h (list_all slot out) b = b
balanced-fed h (read path out) b = b
balanced-fed h (create new path stamp) b = omega (arith, b)
balanced-fed h (delete path stamp) b = omega (arith, b, sum-parts (λ k. k.blocks) (kept_at path) h.kept)
balanced-fed h (delete_keep path stamp) b =
    pick-both Balanced (keeps_deleted h.edition) (marked_in h path) (struck_in h path)
    (ap (λ n. n + h.given_back) (sum-map (λ k. k.blocks) (marked path) h.kept) ∙ b)
    (omega (arith, b, sum-parts (λ k. k.blocks) (kept_at path) h.kept))
balanced-fed h (restore path stamp) b = ap (λ n. n + h.given_back) (sum-map (λ k. k.blocks) (revived path) h.kept) ∙ b
balanced-fed h (reclaim stamp) b = omega (arith, b, sum-parts (λ k. k.blocks) (λ k. k.live) h.kept)

-- where deleted entries are kept, a delete that keeps gives nothing back
pub keeping-holds : (h : History) (path : List ℕ) (stamp : ℤ) → keeps_deleted h.edition ≡ true → (fed h (delete_keep path stamp)).given_back ≡ h.given_back
unfolding fed marked_in
keeping-holds h path stamp keeps = ap (λ (x : History). x.given_back) (pick_true _ _ keeps)
