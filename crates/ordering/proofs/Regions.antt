-- Regions are apart exactly where their keys, in order, are in turn.
use Rattle.std.specs.Prelude.{ℕ, ◌/◌, ◌≤◌, ◌≡◌, Bool, true, false, ◌&&◌, ◌||◌, leb}
use Rattle.std.proofs.Math.Path.{refl, ap₂}
use Rattle.std.proofs.Common.{sym, ap, ◌∙◌, arith, leb-true, le-leb}
use mathlib.Core.List.{List, [], ◌∷◌, map}
use Rattle.rules.specs.Lists.{all, every_two, keep_if, only, All, Pairs, Perm}
use Rattle.rules.specs.Lists.Laws.{and-true, and_both, or_right, or-other}
use Rattle.rules.specs.Index.{Entry}
use Rattle.rules.specs.Regions.{apart}
use Rattle.rules.specs.Regions.Laws.{apart-before, apart-behind}
use Rattle.laws.proofs.Lists.Every.{or_left, same_test, all-weaken, all_of, all-holds, two-map, two-says, two-holds, pairs-weaken}
use Rattle.laws.proofs.Lists.Perms.{perm-two}
use Rattle.ordering.specs.Regions.{region_key, has_region, key_start, key_end, in_turn, Small, Keyed, all-keyed, Filled, all-filled, start-le}

-- ---- regions that are apart, over their keys
unfoldable keys_apart : ℕ → ℕ → Bool
keys_apart a b = leb (key_end a) (key_start b) || leb (key_end b) (key_start a)

keys-back : (a b : ℕ) → keys_apart a b ≡ true → keys_apart b a ≡ true
unfolding keys_apart
keys-back a b h = by (leb (key_end a) (key_start b)) refl
  where
    by : (t : Bool) → leb (key_end a) (key_start b) ≡ t → (leb (key_end b) (key_start a) || leb (key_end a) (key_start b)) ≡ true
    by true e = or_right (leb (key_end b) (key_start a)) (leb (key_end a) (key_start b)) e
    by false e = or_left (leb (key_end b) (key_start a)) (leb (key_end a) (key_start b)) (or-other (leb (key_end a) (key_start b)) (leb (key_end b) (key_start a)) h e)

keyed-apart : (e f : Entry) → Keyed e → Keyed f → apart e f ≡ keys_apart (region_key e) (region_key f)
unfolding apart keys_apart
keyed-apart e f k l = sym (ap₂ (λ t u. t || u) (ap₂ leb k.end l.start) (ap₂ leb l.end k.start))

-- tests that say the same of the elements
module _ {A : Type 0} (P : A → Type 0) where
  every-on : (p q : A → Bool) → ((x : A) → P x → p x ≡ q x) → (xs : List A) → All P xs → all p xs ≡ all q xs
  unfolding all
  every-on p q e [] h = refl
  every-on p q e (x ∷ xs) h = ap₂ (λ s t. s && t) (e x h.0) (every-on p q e xs h.1)

  two-on : (r s : A → A → Bool) → ((x y : A) → P x → P y → r x y ≡ s x y) → (xs : List A) → All P xs → every_two r xs ≡ every_two s xs
  unfolding every_two
  two-on r s e [] h = refl
  two-on r s e (x ∷ xs) h = ap₂ (λ t u. t && u) (every-on (r x) (s x) (λ y k. e x y h.0 k) xs h.1) (two-on r s e xs h.1)

-- what has no region is apart from everything
all-regions : (x : Entry) (es : List Entry) → All Small es → all (apart x) es ≡ all (apart x) (only has_region es)
unfolding all only keep_if
all-regions x [] s = refl
all-regions x (e ∷ es) s = by (has_region e) refl (all-regions x es s.1)
  where
    by : (t : Bool) → has_region e ≡ t → all (apart x) es ≡ all (apart x) (only has_region es) → (apart x e && all (apart x) es) ≡ all (apart x) (keep_if t e (only has_region es))
    by true h r = ap (λ t. apart x e && t) r
    by false h r = rw (apart-behind x e (omega (arith, s.0.none h))) r

two-regions : (es : List Entry) → All Small es → every_two apart es ≡ every_two apart (only has_region es)
unfolding every_two only keep_if
two-regions [] s = refl
two-regions (e ∷ es) s = by (has_region e) refl (two-regions es s.1)
  where
    by : (t : Bool) → has_region e ≡ t → every_two apart es ≡ every_two apart (only has_region es)
        → (all (apart e) es && every_two apart es) ≡ every_two apart (keep_if t e (only has_region es))
    by true h r = ap₂ (λ t u. t && u) (all-regions e es s.1) r
    by false h r = rw (all-holds (apart e) es (all_of (λ f. apart e f ≡ true) (λ f. apart-before e f (omega (arith, s.0.none h))) es)) r

-- so entries are apart where the keys of their regions are
apart-keys : (es : List Entry) (ks : List ℕ) → All Small es → Perm (map region_key (only has_region es)) ks → every_two apart es ≡ every_two keys_apart ks
apart-keys es ks s p =
    two-regions es s
    ∙ two-on Keyed apart (λ e f. keys_apart (region_key e) (region_key f)) keyed-apart (only has_region es) (all-keyed es s)
    ∙ sym (two-map keys_apart region_key (only has_region es))
    ∙ perm-two keys_apart keys-back p

-- ---- in turn
-- all start at or past b, and each at or past the end of any before it
turn-says : (b : ℕ) (ks : List ℕ) → All Filled ks → in_turn b ks ≡ true → All (λ k. b ≤ key_start k) ks × Pairs (λ a c. key_end a ≤ key_start c) ks
unfolding in_turn
turn-says b [] s h = (tt, tt)
turn-says b (k ∷ ks) s h =
    let p = and-true (leb b (key_start k)) (in_turn (key_end k) ks) h in
    let r = turn-says (key_end k) ks s.1 p.1 in
    let l = leb-true b (key_start k) p.0 in
    ((l, all-weaken (λ c. key_end k ≤ key_start c) (λ c. b ≤ key_start c) (λ c q. omega (arith, s.0)) ks r.0), (r.0, r.1))

turn_holds : (b : ℕ) (ks : List ℕ) → All (λ k. b ≤ key_start k) ks → Pairs (λ a c. key_end a ≤ key_start c) ks → in_turn b ks ≡ true
unfolding in_turn
turn_holds b [] h p = refl
turn_holds b (k ∷ ks) h p = and_both (leb b (key_start k)) (in_turn (key_end k) ks) (le-leb b (key_start k) h.0) (turn_holds (key_end k) ks p.0 p.1)

-- so keys in turn are in order
turn-le : (a c : ℕ) → Filled a → key_end a ≤ key_start c → a / 65_536 ≤ c / 65_536
unfolding key_start key_end
turn-le a c f h = omega arith

turn-order : (ks : List ℕ) → All Filled ks → Pairs (λ a c. key_end a ≤ key_start c) ks → Pairs (λ a b. a / 65_536 ≤ b / 65_536) ks
turn-order [] f p = tt
turn-order (k ∷ ks) f p =
    (all-weaken (λ c. key_end k ≤ key_start c) (λ c. k / 65_536 ≤ c / 65_536) (λ c h. turn-le k c f.0 h) ks p.0, turn-order ks f.1 p.1)

pub in-turn-ascends : (ks : List ℕ) → All Filled ks → in_turn 0 ks ≡ true → Pairs (λ a b. a / 65_536 ≤ b / 65_536) ks
in-turn-ascends ks f h = turn-order ks f (turn-says 0 ks f h).1

turn-apart : (ks : List ℕ) → All Filled ks → in_turn 0 ks ≡ true → every_two keys_apart ks ≡ true
unfolding keys_apart
turn-apart ks s h =
    two-holds keys_apart ks (pairs-weaken (λ a c. key_end a ≤ key_start c) (λ a c. keys_apart a c ≡ true)
    (λ a c l. or_left (leb (key_end a) (key_start c)) (leb (key_end c) (key_start a)) (le-leb (key_end a) (key_start c) l)) ks (turn-says 0 ks s h).1)

-- of two that are apart and in order, the first ends where the other starts, or before
apart-turn : (a c : ℕ) → Filled c → a / 65_536 ≤ c / 65_536 → keys_apart a c ≡ true → key_end a ≤ key_start c
unfolding keys_apart
apart-turn a c s o h = by (leb (key_end a) (key_start c)) refl
  where
    by : (t : Bool) → leb (key_end a) (key_start c) ≡ t → key_end a ≤ key_start c
    by true e = leb-true (key_end a) (key_start c) e
    by false e = absurd (omega (arith, start-le a c o, leb-true (key_end c) (key_start a) (or-other (leb (key_end a) (key_start c)) (leb (key_end c) (key_start a)) h e)))

ahead : (a : ℕ) (ks : List ℕ) → All Filled ks → All (λ c. a / 65_536 ≤ c / 65_536) ks → All (λ c. keys_apart a c ≡ true) ks → All (λ c. key_end a ≤ key_start c) ks
ahead a [] s o h = tt
ahead a (c ∷ ks) s o h = (apart-turn a c s.0 o.0 h.0, ahead a ks s.1 o.1 h.1)

all-ahead : (ks : List ℕ) → All Filled ks → Pairs (λ a b. a / 65_536 ≤ b / 65_536) ks → Pairs (λ a c. keys_apart a c ≡ true) ks → Pairs (λ a c. key_end a ≤ key_start c) ks
all-ahead [] s o h = tt
all-ahead (k ∷ ks) s o h = (ahead k ks s.1 o.0 h.0, all-ahead ks s.1 o.1 h.1)

apart-in-turn : (ks : List ℕ) → All Filled ks → Pairs (λ a b. a / 65_536 ≤ b / 65_536) ks → every_two keys_apart ks ≡ true → in_turn 0 ks ≡ true
apart-in-turn ks s o h = turn_holds 0 ks (all_of (λ k. 0 ≤ key_start k) (λ k. omega arith) ks) (all-ahead ks s o (two-says keys_apart ks h))

-- ---- regions are apart exactly where their keys, in order, are in turn
pub in-turn-decides : (es : List Entry) (ks : List ℕ) → All Small es → Perm (map region_key (only has_region es)) ks → Pairs (λ a b. a / 65_536 ≤ b / 65_536) ks
    → every_two apart es ≡ in_turn 0 ks
in-turn-decides es ks s p o =
    let f = all-filled es ks s p in
    apart-keys es ks s p ∙ same_test (every_two keys_apart ks) (in_turn 0 ks) (apart-in-turn ks f o) (turn-apart ks f)
