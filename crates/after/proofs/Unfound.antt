-- A path that was deleted, by either call, is not found: what is seen of the image that is left has no live entry of it.
use Prim.Native.Nat.{ℕ}
use mathlib.Core.Path.{◌≡◌, refl, ap, ◌∙◌}
use mathlib.Core.Bool.{Bool, true, false, ◌&&◌, not}
use mathlib.Core.List.{List, [], ◌∷◌, map}
use mathlib.Core.Option.{none}
use borrow.Author.Tests.{not-true}
use Rattle.rules.specs.Lists.{pick, any, only, keep_if, eq_list, All}
use Rattle.rules.specs.Editions.{Edition, keeps_deleted}
use Rattle.rules.specs.Names.{path_good}
use Rattle.rules.specs.Index.{Entry}
use Rattle.rules.specs.Regions.{Extent}
use Rattle.rules.specs.Paths.{live_at, lookup}
use Rattle.rules.specs.Refusals.{Volume, entries}
use Rattle.rules.specs.Reading.{find_of}
use Rattle.rules.specs.Reading.Laws.{find_none}
use Rattle.rules.specs.Writing.{wiped, delete_of, deleted, delete_keep_of}
use Rattle.rules.specs.History.{Kept, kept_at, marked}
use Rattle.after.specs.After.{is_named, seen, sight, Left, DeletedUnfound}
use Rattle.laws.proofs.Lists.Every.{all_of, all_map, all-weaken, all-chosen, any_none, is_false, none_passes, none_first, not-both}
use Rattle.laws.proofs.Lists.Perms.{perm-any}
use Rattle.laws.proofs.Entries.EntryKinds.{live-run}
use Rattle.laws.proofs.Entries.Paths.{live_at-says}
use Rattle.after.proofs.Deletable.{delete-passed}
use Rattle.after.proofs.Delete.{delete-left}
use Rattle.after.proofs.DeleteKeep.{delete-keep-left}

-- ---- what is not seen is not there
module _ (path : List ℕ) where
  -- only files and directories are live
  unnamed : (e : Entry) → is_named e ≡ false → live_at path e ≡ false
  unfolding is_named
  unnamed e n = is_false (live_at path e) (λ l. not-both (is_named e) (live-run e (live_at-says path e l).0) n)

  none-live : (t : List ℕ) (v : Volume) (es : List Entry) → All (λ k. kept_at path k ≡ false) (map (seen t v.geometry) (only is_named es)) → All (λ e. live_at path e ≡ false) es
  unfolding only keep_if seen kept_at live_at
  none-live t v [] h = tt
  none-live t v (e ∷ es) h = by (is_named e) refl h (none-live t v es)
    where
      by : (n : Bool) → is_named e ≡ n → All (λ k. kept_at path k ≡ false) (map (seen t v.geometry) (keep_if n e (only is_named es)))
          → (All (λ k. kept_at path k ≡ false) (map (seen t v.geometry) (only is_named es)) → All (λ f. live_at path f ≡ false) es)
          → All (λ f. live_at path f ≡ false) (e ∷ es)
      by true n h rest = (h.0, rest h.1)
      by false n h rest = (unnamed e n, rest h)

  unseen : (t : List ℕ) (ed : Edition) (block : ℕ) (told : List Kept) (bad : List Extent) → Left t ed block told bad → path_good path ≡ true
      → All (λ k. kept_at path k ≡ false) told → (find_of t path).refusal ≡ 11
  unfolding sight lookup
  unseen t ed block told bad l p h =
      let v : Volume = l.volume in
      let not_seen : any (kept_at path) (sight t v) ≡ false = perm-any (kept_at path) l.agree ∙ any_none (kept_at path) told h in
      let gone : lookup path (entries v) ≡ none = none_first (live_at path) (entries v) (none-live t v (entries v) (none_passes (kept_at path) (sight t v) not_seen)) in
      ap (λ o. o.refusal) (find_none t v l.opens path p gone)

  -- ---- struck, or marked
  struck-gone : (ks : List Kept) → All (λ k. kept_at path k ≡ false) (only (λ k. not (kept_at path k)) ks)
  struck-gone ks = all-weaken _ _ (λ k h. not-true (kept_at path k) h) (only (λ k. not (kept_at path k)) ks) (all-chosen (λ k. not (kept_at path k)) ks)

  neither : (a b : Bool) → ((a && not b) && b) ≡ false
  neither true true = refl
  neither true false = refl
  neither false b = refl

  marked-gone : (ks : List Kept) → All (λ k. kept_at path k ≡ false) (map (marked path) ks)
  unfolding kept_at marked
  marked-gone ks = all_map (λ k. kept_at path k ≡ false) (marked path) ks (all_of _ (λ k. neither k.live (eq_list k.path path)) ks)

  either-gone : (keeps : Bool) (ks : List Kept) → All (λ k. kept_at path k ≡ false) (pick keeps (map (marked path) ks) (only (λ k. not (kept_at path k)) ks))
  unfolding pick
  either-gone true ks = marked-gone ks
  either-gone false ks = struck-gone ks

pub deleted-unfound : DeletedUnfound
unfolding delete_of delete_keep_of
deleted-unfound s v path stamp o = (
  λ z. unseen path _ _ _ _ _ (delete-left s v path stamp o z) (delete-passed s v path (wiped path stamp) o z).named (struck-gone path (sight s v)),
  λ z. unseen path _ _ _ _ _ (delete-keep-left s v path stamp o z) (delete-passed s v path (deleted stamp) o z).named (either-gone path (keeps_deleted v.geometry.edition) (sight s v)),
)
