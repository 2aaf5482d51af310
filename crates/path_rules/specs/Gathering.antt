-- Live entries by their keys: gathered, put in order, and judged by their neighbours.
use Rattle.std.specs.Prelude.{ℕ, ◌+◌, ◌-◌, ◌*◌, ◌%◌, ◌≤◌, ◌<◌, ◌≡◌, Bool, length, get_or, drop, eqb}
use Rattle.std.proofs.Math.Path.{refl, ap, ap₂}
use Rattle.std.proofs.Common.{sym, ◌∙◌, arith, drop_of_length-le}
use Rattle.std.proofs.Math.Bool.{true, false}
use mathlib.Core.List.{List, [], ◌∷◌, ◌++◌, map, append_assoc, append-nil}
use Rattle.std.proofs.Math.Seq.{drop-length}
use Rattle.std.proofs.lemmas.List.{nil_from_length}
use Rattle.rules.specs.Lists.{only, keep_if, All, Pairs, Perm, thus}
use Rattle.rules.specs.Fields.{Bytes, up_to_zero}
use Rattle.rules.specs.Editions.{Edition}
use Rattle.rules.specs.Index.{Entry, entry_at, live_type, run_type, type_directory, name_field, slot_bytes}
use Rattle.rules.specs.Index.Items.{head-run, type-drop}
use Rattle.rules.specs.Paths.{is_live, paths_sound}
use Rattle.rules.specs.Paths.Laws.{live-run}
use Rattle.laws.proofs.Lists.Every.{all_keep}
use Rattle.laws.proofs.Lists.Perms.{perm-all, perm-map}
use Rattle.ordering.specs.Order.{turned, Sorted}
use Rattle.ordering.specs.Starts.{here-and-behind}
use Rattle.ordering.specs.Turning.{turned-perm}
use Rattle.ordering.specs.Keys.{place_of, key_le}
use Rattle.ordering.specs.Paths.{path_le, no_slash, follows, entry_follows, chain_from, chain}
use Rattle.ordering.proofs.Chains.{chain-sound, chain-decides}
use Rattle.numbering.specs.Numbers.{loaded, loaded-place, Stands, loaded-stand, stands-le, key-path-is}
use Rattle.editions.specs.View.{edition_view}
use Rattle.slots.specs.declared.Spot.{Spot}
use Rattle.slots.specs.View.{spot_view}
use Rattle.index.specs.declared.Cursor.{Cursor}
use Rattle.index.specs.Steps.{Walks, Arrives, entries_from}

-- the entry of the run at a key's place, in slots behind a cursor
unfoldable pub key_entry : List ℕ → Cursor → ℕ → Entry
key_entry s c k = entry_at (edition_view c.edition) (c.slot.0 + place_of k) (drop (c.at.0 + slot_bytes * place_of k) s)

-- the keys from place i on are of the live entries, the last one first, and have no numbers yet
pub record Gathered (s : List ℕ) (c : Cursor) (keys : List ℕ) (i : ℕ) : Type 0 where
  pub inside : i ≤ length keys
  pub small : All (λ k. k < 65_536) (drop i keys)
  pub entries : map (key_entry s c) (drop i keys) ≡ turned (only is_live (entries_from s c))

-- ---- the loop: what is gathered, behind what is to come
pub record GatheringLive (s : List ℕ) (from : Cursor) (keys : List ℕ) (c : Cursor) (i : ℕ) : Type 0 where
  pub walks : Walks s c
  pub room : c.left ≤ i
  pub within : i ≤ length keys
  pub edition : c.edition ≡ from.edition
  pub ahead : from.slot.0 ≤ c.slot.0
  pub ends : c.slot.0 + c.left ≡ from.slot.0 + from.left
  pub place : c.at.0 + 64 * from.slot.0 ≡ from.at.0 + 64 * c.slot.0
  pub small : All (λ k. k < 65_536) (drop i keys)
  pub gathered : turned (only is_live (entries_from s c)) ++ map (key_entry s from) (drop i keys) ≡ turned (only is_live (entries_from s from))

-- the entry that was found, by its place
module _ (s : List ℕ) (c : Cursor) (e : Spot) (d : Cursor) (step : Arrives s c e d) where
  live-entry : live_type e.kind ≡ true → spot_view s e ≡ entry_at (edition_view e.edition) e.slot.0 (drop e.at.0 s)
  live-entry t =
      let r : run_type e.kind ≡ true = live-run e.kind t in
      step.view ∙ head-run (edition_view e.edition) e.slot.0 (drop e.at.0 s) (ap run_type (type-drop s e.at.0 ∙ sym (step.spot.type r)) ∙ r)

  found-entry : (from : Cursor) → e.edition ≡ from.edition → (k : ℕ) → k < 65_536 → e.slot.0 ≡ from.slot.0 + k → e.at.0 ≡ from.at.0 + 64 * k → live_type e.kind ≡ true
      → key_entry s from k ≡ spot_view s e
  unfolding key_entry place_of
  found-entry from of k l a b t =
      let m : from.slot.0 + k % 65_536 ≡ e.slot.0 = omega (arith, a) in
      let p : from.at.0 + 64 * (k % 65_536) ≡ e.at.0 = omega (arith, b) in
      rw (← of, m, p) (sym (live-entry t))

  found-kept : (from : Cursor) → e.edition ≡ from.edition → (k : ℕ) → k < 65_536 → e.slot.0 ≡ from.slot.0 + k → e.at.0 ≡ from.at.0 + 64 * k → (ks : List ℕ)
      → map (key_entry s from) (keep_if (live_type e.kind) k ks) ≡ keep_if (is_live (spot_view s e)) (spot_view s e) (map (key_entry s from) ks)
  unfolding is_live spot_view keep_if
  found-kept from of k l a b ks = by (live_type e.kind) refl
    where
      by : (t : Bool) → live_type e.kind ≡ t → map (key_entry s from) (keep_if t k ks) ≡ keep_if t (spot_view s e) (map (key_entry s from) ks)
      by true u = ap (λ (x : Entry). x ∷ map (key_entry s from) ks) (found-entry from of k l a b u)
      by false u = refl

-- one more
entries_next : (x : Entry) (xs ys : List Entry) → turned (only is_live xs) ++ keep_if (is_live x) x ys ≡ turned (only is_live (x ∷ xs)) ++ ys
unfolding only turned keep_if
entries_next x xs ys = by (is_live x)
  where
    by : (t : Bool) → turned (only is_live xs) ++ keep_if t x ys ≡ turned (keep_if t x (only is_live xs)) ++ ys
    by true = sym (append_assoc (turned (only is_live xs)) (x ∷ []) ys)
    by false = refl

module _ (s : List ℕ) (from : Cursor) where
  pub gather_none : (keys : List ℕ) → Walks s from → from.left ≤ length keys → GatheringLive s from keys from (length keys)
  gather_none keys w l = record {
    walks = w;
    room = l;
    within = omega arith;
    edition = refl;
    ahead = omega arith;
    ends = refl;
    place = refl;
    small = rw (drop-length keys) tt;
    gathered = ap (λ (ks : List ℕ). turned (only is_live (entries_from s from)) ++ map (key_entry s from) ks) (drop-length keys) ∙ append-nil (turned (only is_live (entries_from s from)));
  }

  module _ (keys : List ℕ) (c : Cursor) (i : ℕ) (at : GatheringLive s from keys c i) where
    pub gather-end : entries_from s c ≡ [] → Gathered s from keys i
    unfolding only turned
    gather-end e = record {
      inside = at.within;
      small = at.small;
      entries = ap (λ (es : List Entry). turned (only is_live es) ++ map (key_entry s from) (drop i keys)) (sym e) ∙ at.gathered;
    }

    module _ (e : Spot) (d : Cursor) (step : Arrives s c e d) (few : from.left ≤ 65_536) where
      key-small : e.slot.0 - from.slot.0 < 65_536
      key-small = omega (arith, step.number, step.ends, at.ends, step.spot.low)

      pub gather-next : (keys' : List ℕ) (j : ℕ) → length keys' ≡ length keys
          → drop j keys' ≡ keep_if (live_type e.kind) (e.slot.0 - from.slot.0) (drop i keys)
          → j ≤ i → i ≤ j + 1 → GatheringLive s from keys' d j
      gather-next keys' j l p less more = record {
        walks = step.walks;
        room = omega (arith, step.less, at.room);
        within = omega (arith, at.within);
        edition = step.edition ∙ at.edition;
        ahead = omega (arith, step.number, step.ahead, at.ahead);
        ends = step.ends ∙ at.ends;
        place = omega (arith, step.place, step.after, step.number, at.place);
        small = rw p (all_keep _ (live_type e.kind) _ _ key-small at.small);
        gathered =
            ap (λ (ks : List ℕ). turned (only is_live (entries_from s d)) ++ map (key_entry s from) ks) p
            ∙ ap (λ (ys : List Entry). turned (only is_live (entries_from s d)) ++ ys) (found-kept s c e d step from (step.of ∙ at.edition) (e.slot.0 - from.slot.0) key-small (omega (arith, step.ahead, at.ahead)) (omega (arith, step.ahead, at.ahead, step.place, at.place)) (drop i keys))
            ∙ entries_next (spot_view s e) (entries_from s d) (map (key_entry s from) (drop i keys))
            ∙ ap (λ (es : List Entry). turned (only is_live es) ++ map (key_entry s from) (drop i keys)) (sym step.entries)
            ∙ at.gathered;
      }

-- ---- THE JUDGEMENT
module _ (s : List ℕ) (c : Cursor) (keys : List ℕ) (i : ℕ) (g : Gathered s c keys i) where
  abbrev ed : Edition
  ed = edition_view c.edition

  gathered-perm : Perm (only is_live (entries_from s c)) (map (key_entry s c) (drop i keys))
  gathered-perm = rw g.entries (turned-perm (only is_live (entries_from s c)))

  pub sound-at-once : chain (map (key_entry s c) (drop i keys)) ≡ true → true ≡ paths_sound (entries_from s c)
  sound-at-once e = sym (chain-sound (entries_from s c) (map (key_entry s c) (drop i keys)) gathered-perm e)

  -- the keys that were put in order: the same with numbers that tell where their paths stand
  module _ (bytes : Bytes s) (pivot : List ℕ) (few : length pivot ≤ 511) where
    entry-le : (a b : ℕ) → Stands ed s c.at.0 pivot a → Stands ed s c.at.0 pivot b → key_le ed s c.at.0 a b ≡ true
        → path_le (key_entry s c a).path (key_entry s c b).path ≡ true
    unfolding key_entry entry_at
    entry-le a b l m h = rw (← key-path-is ed s c.at.0 a, ← key-path-is ed s c.at.0 b) (stands-le ed s c.at.0 pivot bytes few a b l m h)

    entry-all : (a : ℕ) → Stands ed s c.at.0 pivot a → (ks : List ℕ) → All (Stands ed s c.at.0 pivot) ks → All (λ b. key_le ed s c.at.0 a b ≡ true) ks
        → All (λ f. path_le (key_entry s c a).path f.path ≡ true) (map (key_entry s c) ks)
    entry-all a l [] w h = tt
    entry-all a l (b ∷ ks) w h = (entry-le a b l w.0 h.0, entry-all a l ks w.1 h.1)

    entry-pairs : (ks : List ℕ) → All (Stands ed s c.at.0 pivot) ks → Pairs (λ a b. key_le ed s c.at.0 a b ≡ true) ks
        → Pairs (λ e f. path_le e.path f.path ≡ true) (map (key_entry s c) ks)
    entry-pairs [] w h = tt
    entry-pairs (a ∷ ks) w h = (entry-all a w.0 ks w.1 h.0, entry-pairs ks w.1 h.1)

    loaded-entries : (ks : List ℕ) → map (key_entry s c) (map (loaded ed s c.at.0 pivot) ks) ≡ map (key_entry s c) ks
    unfolding key_entry
    loaded-entries [] = refl
    loaded-entries (k ∷ ks) =
        ap₂ (λ x xs. x ∷ xs) (ap (λ (n : ℕ). entry_at ed (c.slot.0 + n) (drop (c.at.0 + slot_bytes * n) s)) (loaded-place ed s c.at.0 pivot k)) (loaded-entries ks)

    pub sound-sorted : (before after : List ℕ) → before ≡ map (loaded ed s c.at.0 pivot) (drop i keys) → Sorted (key_le ed s c.at.0) before after
        → chain (map (key_entry s c) after) ≡ paths_sound (entries_from s c)
    sound-sorted before after e sorted =
        let p : Perm (map (loaded ed s c.at.0 pivot) (drop i keys)) after = rw e at sorted.same in
        sym (chain-decides (entries_from s c) (map (key_entry s c) after)
        (thus gathered-perm (rw (loaded-entries (drop i keys)) at (perm-map (key_entry s c) p)))
        (entry-pairs after (perm-all _ p (loaded-stand ed s c.at.0 pivot (drop i keys))) sorted.ascends))

-- ---- the loop that goes from neighbour to neighbour
module _ (f : ℕ → Entry) (keys : List ℕ) (i : ℕ) where
  pub chain-end : (e : Entry) → length keys ≤ i → true ≡ chain_from e (map f (drop i keys))
  unfolding chain_from
  chain-end e h = rw (drop_of_length-le keys {i = i} h)

  module _ (k : ℕ) (more : i < length keys) (here : k ≡ get_or keys i 0) where
    pub chain-stop : (e : Entry) → entry_follows e (f k) ≡ false → false ≡ chain_from e (map f (drop i keys))
    unfolding chain_from
    chain-stop e h = rw (here-and-behind keys i k more here, h)

    pub chain_next : (e : Entry) → entry_follows e (f k) ≡ true → chain_from (f k) (map f (drop (i + 1) keys)) ≡ chain_from e (map f (drop i keys))
    unfolding chain_from
    chain_next e h = rw (here-and-behind keys i k more here, h)

-- and what it begins with
module _ (f : ℕ → Entry) (keys : List ℕ) where
  pub chain-nothing : length keys ≡ 0 → true ≡ chain (map f keys)
  unfolding chain
  chain-nothing e = rw (nil_from_length keys e)

  module _ (k : ℕ) (ks : List ℕ) (cons : keys ≡ k ∷ ks) where
    pub chain-above : no_slash (f k).path ≡ false → false ≡ chain (map f keys)
    unfolding chain
    chain-above h = rw (cons, h)

    pub chain_first : no_slash (f k).path ≡ true → chain_from (f k) (map f ks) ≡ chain (map f keys)
    unfolding chain
    chain_first h = rw (cons, h)

-- what is read of an entry at its key's place
module _ (s : List ℕ) (c : Cursor) (k p : ℕ) (place : p ≡ k % 65_536) where
  pub key-path : (name : List ℕ) → name ≡ name_field (edition_view c.edition) (drop (c.at.0 + 64 * p) s) → up_to_zero name ≡ (key_entry s c k).path
  unfolding key_entry entry_at place_of
  key-path name e = ap up_to_zero e ∙ rw place

  pub key-kind : (at : ℕ) → at ≡ c.at.0 + 64 * p → get_or s at 0 ≡ (key_entry s c k).kind
  unfolding key_entry entry_at place_of
  key-kind at e = rw (e, place) (sym (type-drop s (c.at.0 + 64 * (k % 65_536))))

pub read-follows : (x : ℕ) (p q : List ℕ) (e f : Entry) → x ≡ e.kind → p ≡ e.path → q ≡ f.path → follows (eqb x type_directory) p q ≡ entry_follows e f
unfolding entry_follows
read-follows x p q e f a b c = rw (a, b, c)
