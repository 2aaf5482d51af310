-- Regions gathered and put in order.
use Rattle.std.specs.Prelude.{ℕ, ◌+◌, ◌/◌, ◌≤◌, ◌≡◌, Bool, ◌&&◌, length, ltb, Option, Some, None}
use Rattle.std.specs.Bool.{then_some}
use Rattle.std.proofs.Math.Path.{refl, ap}
use Rattle.std.proofs.Common.{sym, ◌∙◌, arith}
use Rattle.std.proofs.Math.Bool.{true, false}
use mathlib.Core.List.{List, [], ◌∷◌, ◌++◌, map, append_assoc, append-nil}
use Rattle.std.proofs.Math.ListN.{drop}
use Rattle.std.proofs.Math.Dec.{eqb}
use Rattle.std.proofs.Math.Seq.{drop-length}
use borrow.Author.Tests.{eqb-true, ltb-true, ltb-false}
use Rattle.rules.specs.Lists.{pick, all, only, keep_if, every_two, All, Pairs, Perm, same, thus}
use Rattle.rules.specs.Lists.Laws.{clash, and-true, pick_true, pick-false, or-other}
use Rattle.rules.specs.Editions.{Edition, past_end}
use Rattle.rules.specs.SuperBlock.{data_end}
use Rattle.rules.specs.Index.{Entry, file_type, type_unusable}
use Rattle.rules.specs.Index.Walk.{walk_all}
use Rattle.rules.specs.Regions.{region_good, file_region_good, within_data, regions_sound, apart}
use Rattle.laws.proofs.Index.Entries.{IsRun, IsUnusable, run-bare, unusable-kind, of-walk}
use Rattle.laws.proofs.Lists.Every.{all-weaken, all-and, all-says, pairs-weaken}
use Rattle.ordering.specs.Order.{turned, Sorted}
use Rattle.ordering.specs.Keys.{number_of, key_rest, key_le}
use Rattle.ordering.specs.Paths.{path_le}
use Rattle.ordering.specs.Turning.{turned-perm}
use Rattle.ordering.specs.Regions.{region_key, has_region, in_turn, Small, all-filled}
use Rattle.ordering.proofs.Regions.{in-turn-ascends, in-turn-decides}
use Rattle.editions.specs.View.{edition_view}
use Rattle.slots.specs.declared.Head.{Head}
use Rattle.slots.specs.View.{head_view}
use Rattle.geometry.specs.declared.Geometry.{Geometry}
use Rattle.geometry.specs.View.{geometry_view}
use Rattle.index.specs.declared.Cursor.{Cursor}
use Rattle.index.specs.Steps.{Walks, Step, entries_from}
use Rattle.index.specs.Turns.{all-next}
use Rattle.regions.specs.Bounds.{Bounded, within-true}

-- the keys of the regions that entries have, the last one first
unfoldable pub region_keys : List Entry → List ℕ
region_keys es = turned (map region_key (only has_region es))

unfoldable pub Gathers : List ℕ → Geometry → Cursor → List ℕ → Option ℕ → Type 0
Gathers s g c keys None = all (region_good (geometry_view g)) (entries_from s c) ≡ false
Gathers s g c keys (Some i) = (all (region_good (geometry_view g)) (entries_from s c) ≡ true) × (i ≤ length keys) × (drop i keys ≡ region_keys (entries_from s c))

module _ (s : List ℕ) (g : Geometry) (c : Cursor) (keys : List ℕ) (r : Option ℕ) (h : Gathers s g c keys r) where
  pub gathers-bad : r ≡ None → all (region_good (geometry_view g)) (entries_from s c) ≡ false
  unfolding Gathers
  gathers-bad e = rw e at h

  pub gathers-from : (i : ℕ) → r ≡ Some i
      → (all (region_good (geometry_view g)) (entries_from s c) ≡ true) × (i ≤ length keys) × (drop i keys ≡ region_keys (entries_from s c))
  unfolding Gathers
  gathers-from i e = rw e at h

-- ---- good regions are small
module _ (g : Geometry) (bounded : Bounded g) where
  within-small : (e : Entry) → within_data (geometry_view g) e ≡ true → Small e
  unfolding data_end has_region
  within-small e h =
      let w = within-true (geometry_view g) e h in
      record {
        below = λ l. omega (arith, bounded.area);
        none = λ f. absurd (omega (arith, ltb-false e.start e.end f));
      }

  empty-small : (e : Entry) → e.start ≡ 0 → e.end ≡ 0 → Small e
  empty-small e a b = record { below = λ l. omega arith; none = λ f. (a, b) }

  file-small : (e : Entry) → file_region_good (geometry_view g) e ≡ true → Small e
  unfolding file_region_good
  file-small e h = by (eqb e.start 0 && eqb e.end 0 && eqb e.length 0) refl
    where
      by : (t : Bool) → (eqb e.start 0 && eqb e.end 0 && eqb e.length 0) ≡ t → Small e
      by true f =
          let p = and-true (eqb e.start 0 && eqb e.end 0) _ f in
          let q = and-true (eqb e.start 0) _ p.0 in
          empty-small e (eqb-true _ _ q.0) (eqb-true _ _ q.1)
      by false f = within-small e (and-true (within_data (geometry_view g) e) _ (or-other _ _ h f)).0

  good-run : (ed : Edition) (left k : ℕ) (a : List ℕ) (e : Entry) → IsRun ed left k a e → region_good (geometry_view g) e ≡ true → Small e
  unfolding region_good
  good-run ed left k a e r h = by (file_type e.kind) refl
    where
      by : (t : Bool) → file_type e.kind ≡ t → Small e
      by true f = file-small e (sym (pick_true _ _ f) ∙ h)
      by false f = let b = run-bare ed left k a e r f in empty-small e b.0 b.1

  good-unusable : (ed : Edition) (k : ℕ) (a : List ℕ) (e : Entry) → IsUnusable ed k a e → region_good (geometry_view g) e ≡ true → Small e
  unfolding region_good file_type pick
  good-unusable ed k a e u h = within-small e (by e.kind (unusable-kind ed k a e u) h)
    where
      by : (t : ℕ) → t ≡ type_unusable → pick (file_type t) (file_region_good (geometry_view g) e) (pick (eqb t type_unusable) (within_data (geometry_view g) e) true) ≡ true → within_data (geometry_view g) e ≡ true
      by t f p = rw f at p

  -- of every entry that a cursor has before it
  good-small : (s : List ℕ) (c : Cursor) → All (λ e. region_good (geometry_view g) e ≡ true → Small e) (entries_from s c)
  unfolding walk_all
  good-small s c = let ed : Edition = edition_view c.edition in of-walk ed (λ e. region_good (geometry_view g) e ≡ true → Small e) (good-run ed) (good-unusable ed) _ _ _ _

pub small-end : (e : Entry) → Small e → e.end ≤ 65_536
unfolding has_region
small-end e h = by (ltb e.start e.end) refl
  where
    by : (t : Bool) → ltb e.start e.end ≡ t → e.end ≤ 65_536
    by true f = h.below (ltb-true _ _ f)
    by false f = omega (arith, (h.none f).1)

pub found-small : (s : List ℕ) (g : Geometry) → Bounded g → (c : Cursor) (h : Head) (d : Cursor) → Step s c h d → region_good (geometry_view g) (head_view s h) ≡ true → past_end (edition_view h.edition) h.end.0 ≤ 65_536
unfolding head_view
found-small s g b c h d step ok = small-end (head_view s h) ((rw step.entries at (good-small g b s c)).0 ok)

-- ---- the loop: what is gathered, behind what is to come
keys-next : (x : Entry) (xs : List Entry) (ys : List ℕ) → region_keys xs ++ keep_if (has_region x) (region_key x) ys ≡ region_keys (x ∷ xs) ++ ys
unfolding region_keys only turned keep_if
keys-next x xs ys = by (has_region x)
  where
    by : (t : Bool) → turned (map region_key (only has_region xs)) ++ keep_if t (region_key x) ys ≡ turned (map region_key (keep_if t x (only has_region xs))) ++ ys
    by true = sym (append_assoc (turned (map region_key (only has_region xs))) (region_key x ∷ []) ys)
    by false = refl

pub record Gathering (s : List ℕ) (g : Geometry) (from : Cursor) (keys : List ℕ) (c : Cursor) (i : ℕ) : Type 0 where
  pub walks : Walks s c
  pub good : all (region_good (geometry_view g)) (entries_from s c) ≡ all (region_good (geometry_view g)) (entries_from s from)
  pub room : c.left ≤ i
  pub inside : i ≤ length keys
  pub gathered : region_keys (entries_from s c) ++ drop i keys ≡ region_keys (entries_from s from)

module _ (s : List ℕ) (g : Geometry) (from : Cursor) where
  pub gather_none : (keys : List ℕ) → Walks s from → from.left ≤ length keys → Gathering s g from keys from (length keys)
  gather_none keys w l = record {
    walks = w;
    good = refl;
    room = l;
    inside = omega arith;
    gathered = ap (λ (ks : List ℕ). region_keys (entries_from s from) ++ ks) (drop-length keys) ∙ append-nil (region_keys (entries_from s from));
  }

  module _ (keys : List ℕ) (c : Cursor) (i : ℕ) (at : Gathering s g from keys c i) where
    pub gather-end : entries_from s c ≡ [] → Gathers s g from keys (Some i)
    unfolding Gathers region_keys all only turned
    gather-end e =
        (sym at.good ∙ rw e, at.inside, ap (λ (es : List Entry). region_keys es ++ drop i keys) (sym e) ∙ at.gathered)

    pub gather-next : (h : Head) (d : Cursor) → Step s c h d → region_good (geometry_view g) (head_view s h) ≡ true
        → (keys' : List ℕ) (j : ℕ) → length keys' ≡ length keys → drop j keys' ≡ keep_if (has_region (head_view s h)) (region_key (head_view s h)) (drop i keys)
        → j ≤ i → i ≤ j + 1 → Gathering s g from keys' d j
    gather-next h d step ok keys' j l p less more = record {
      walks = step.walks;
      good = all-next _ _ _ step.entries _ ok ∙ at.good;
      room = omega (arith, step.less, at.room);
      inside = omega (arith, at.inside);
      gathered =
          ap (λ (ks : List ℕ). region_keys (entries_from s d) ++ ks) p
          ∙ keys-next (head_view s h) (entries_from s d) (drop i keys)
          ∙ ap (λ (es : List Entry). region_keys es ++ drop i keys) (sym step.entries)
          ∙ at.gathered;
    }

-- ---- what putting keys in order comes to: the same keys, and they ascend
pub record InTheirOrder (before after : List ℕ) : Type 0 where
  pub same : Perm before after
  pub ascends : Pairs (λ a b. a / 65_536 ≤ b / 65_536) after

-- and where those that stand in turn already are let be: whether they stand in turn
pub record Ordered (before after : List ℕ) (r : Bool) : Type 0 where
  pub same : Perm before after
  pub turns : r ≡ in_turn 0 after
  pub ascends : r ≡ false → Pairs (λ a b. a / 65_536 ≤ b / 65_536) after

number-le : (ed : Edition) (s : List ℕ) (at a b : ℕ) → key_le ed s at a b ≡ true → a / 65_536 ≤ b / 65_536
unfolding key_le number_of
number-le ed s at a b h = by (eqb (a / 65_536) (b / 65_536)) refl
  where
    by : (t : Bool) → eqb (a / 65_536) (b / 65_536) ≡ t → a / 65_536 ≤ b / 65_536
    by true e = omega (arith, eqb-true (a / 65_536) (b / 65_536) e)
    by false e = omega (arith, ltb-true (a / 65_536) (b / 65_536) (sym (pick-false (path_le (key_rest ed s at a) (key_rest ed s at b)) _ e) ∙ h))

module _ (keys : List ℕ) where
  pub sorted-keys : (ed : Edition) (s : List ℕ) (at : ℕ) (after : List ℕ) → Sorted (key_le ed s at) keys after → InTheirOrder keys after
  sorted-keys ed s at after sorted = record { same = sorted.same; ascends = pairs-weaken _ _ (number-le ed s at) after sorted.ascends }

  pub in-turn : true ≡ in_turn 0 keys → Ordered keys keys true
  in-turn e = record { same = same; turns = e; ascends = λ f. clash f }

  pub sorted-turns : (after : List ℕ) (r : Bool) → InTheirOrder keys after → r ≡ in_turn 0 after → Ordered keys after r
  sorted-turns after r sorted e = record { same = sorted.same; turns = e; ascends = λ f. sorted.ascends }

-- ---- THE REGIONS OF ENTRIES, by their keys in order
-- the keys are those of the regions that entries have, and they ascend
pub record HasRegions (es : List Entry) (keys : List ℕ) : Type 0 where
  pub small : All Small es
  pub same : Perm (map region_key (only has_region es)) keys
  pub ascends : Pairs (λ a b. a / 65_536 ≤ b / 65_536) keys

module _ (s : List ℕ) (g : Geometry) (bounded : Bounded g) (c : Cursor) (good : all (region_good (geometry_view g)) (entries_from s c) ≡ true) where
  pub all_small : All Small (entries_from s c)
  all_small =
      all-weaken _ _ (λ e h. h.1 h.0) (entries_from s c)
      (all-and _ _ (entries_from s c) (all-says (region_good (geometry_view g)) (entries_from s c) good) (good-small g bounded s c))

  module _ (keys after : List ℕ) (is : keys ≡ region_keys (entries_from s c)) where
    pub keys-same : Perm keys after → Perm (map region_key (only has_region (entries_from s c))) after
    unfolding region_keys
    keys-same p = thus (turned-perm (map region_key (only has_region (entries_from s c)))) (rw is at p)

    -- they ascend, whether they were in turn or had to be put in order
    keys-ascend : (r : Bool) → Ordered keys after r → Pairs (λ a b. a / 65_536 ≤ b / 65_536) after
    keys-ascend r o = by r refl
      where
        by : (t : Bool) → r ≡ t → Pairs (λ a b. a / 65_536 ≤ b / 65_536) after
        by true f = in-turn-ascends after (all-filled (entries_from s c) after all_small (keys-same o.same)) (sym o.turns ∙ f)
        by false f = o.ascends f

    keys-held : (r : Bool) → Ordered keys after r → HasRegions (entries_from s c) after
    keys-held r o = record { small = all_small; same = keys-same o.same; ascends = keys-ascend r o }

    keys-decide : (r : Bool) → Ordered keys after r → r ≡ every_two apart (entries_from s c)
    keys-decide r o = o.turns ∙ sym (in-turn-decides (entries_from s c) after all_small (keys-same o.same) (keys-ascend r o))

-- ---- THE JUDGEMENT
unfoldable pub JudgesRegions : List ℕ → Geometry → Cursor → List ℕ → Option ℕ → Type 0
JudgesRegions s g c keys None = regions_sound (geometry_view g) (entries_from s c) ≡ false
JudgesRegions s g c keys (Some i) =
    (regions_sound (geometry_view g) (entries_from s c) ≡ true) × HasRegions (entries_from s c) (drop i keys)

module _ (s : List ℕ) (g : Geometry) (c : Cursor) (keys : List ℕ) (r : Option ℕ) (h : JudgesRegions s g c keys r) where
  pub regions-unsound : r ≡ None → regions_sound (geometry_view g) (entries_from s c) ≡ false
  unfolding JudgesRegions
  regions-unsound e = rw e at h

  pub regions-from : (i : ℕ) → r ≡ Some i → (regions_sound (geometry_view g) (entries_from s c) ≡ true) × HasRegions (entries_from s c) (drop i keys)
  unfolding JudgesRegions
  regions-from i e = rw e at h

module _ (s : List ℕ) (g : Geometry) (bounded : Bounded g) (c : Cursor) (good : all (region_good (geometry_view g)) (entries_from s c) ≡ true) (keys kept : List ℕ) (i : ℕ)
    (is : keys ≡ region_keys (entries_from s c)) (r : Bool) (o : Ordered keys (drop i kept) r) where
  pub ordered-unsound : r ≡ false → JudgesRegions s g c kept None
  unfolding JudgesRegions regions_sound
  ordered-unsound f = rw good (sym (keys-decide s g bounded c good keys (drop i kept) is r o) ∙ f)

  pub ordered-from : r ≡ true → JudgesRegions s g c kept (Some i)
  unfolding JudgesRegions regions_sound
  ordered-from f = (rw good (sym (keys-decide s g bounded c good keys (drop i kept) is r o) ∙ f), keys-held s g bounded c good keys (drop i kept) is r o)

  -- the place goes with the answer of the order
  pub ordered-judged : JudgesRegions s g c kept (then_some r i)
  ordered-judged = by r refl
    where
      by : (t : Bool) → r ≡ t → JudgesRegions s g c kept (then_some t i)
      by true f = ordered-from f
      by false f = ordered-unsound f

-- sound regions are small
pub sound-small : (s : List ℕ) (g : Geometry) → Bounded g → (c : Cursor) → regions_sound (geometry_view g) (entries_from s c) ≡ true → All Small (entries_from s c)
unfolding regions_sound
sound-small s g b c h = all_small s g b c (and-true (all (region_good (geometry_view g)) (entries_from s c)) _ h).0
