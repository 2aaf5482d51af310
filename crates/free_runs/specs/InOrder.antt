-- The search for the lowest free run goes once over the regions in order.
use Prim.Native.Nat.{ℕ, ◌+◌, ◌/◌, ◌≤◌, ◌<◌, max}
use Rattle.std.specs.Prelude.{◌≡◌, Bool, true, false, ◌&&◌, ◌||◌, length, get_or, drop, ltb, leb}
use Rattle.std.proofs.Math.Path.{refl, ap}
use Rattle.std.proofs.Common.{sym, ap₂, ◌∙◌, arith, drop_of_length-le, leb-true, leb-false, lt-ltb, le-ltb}
use Rattle.std.proofs.Math.Bool.{not}
use mathlib.Core.List.{List, [], ◌∷◌, map}
use Rattle.std.proofs.Math.Option.{Option, none, some}
use Rattle.rules.specs.Lists.{pick, any, keep_if, only, All, Pairs, Perm}
use Rattle.rules.specs.Lists.Laws.{and_both, and_left, and_right, pick_true, pick-false}
use Rattle.rules.specs.Index.{Entry}
use Rattle.rules.specs.Regions.{run_free, lowest_free}
use Rattle.laws.proofs.Lists.Every.{or_left, any_none, all-weaken}
use Rattle.laws.proofs.Lists.Perms.{perm-any}
use Rattle.ordering.specs.Regions.{region_key, has_region, key_start, key_end, free_from, Small, Keyed, Filled, all-keyed, all-filled, start-le}
use Rattle.ordering.specs.Starts.{here-and-behind}
use Rattle.regions.specs.Gathering.{HasRegions}
use Rattle.free_runs.specs.Runs.{meets, run-free, lowest-none, lowest-here, lowest-skip}

-- ---- a key's region reaches into n blocks from b on
unfoldable key_meets : ℕ → ℕ → ℕ → Bool
key_meets b n k = ltb (max b (key_start k)) (b + n) && ltb (max b (key_start k)) (key_end k)

key-beyond : (b n k : ℕ) → b + n ≤ key_start k → key_meets b n k ≡ false
unfolding key_meets
key-beyond b n k h = and_left (ltb (max b (key_start k)) (b + n)) _ (le-ltb (max b (key_start k)) (b + n) (omega arith))

key-behind : (b n k : ℕ) → key_end k ≤ b → key_meets b n k ≡ false
unfolding key_meets
key-behind b n k h = and_right (ltb (max b (key_start k)) (b + n)) _ (le-ltb (max b (key_start k)) (key_end k) (omega arith))

key_meets_lem : (b n k : ℕ) → 1 ≤ n → Filled k → key_start k < b + n → b < key_end k → key_meets b n k ≡ true
unfolding key_meets
key_meets_lem b n k m f h l =
    and_both (ltb (max b (key_start k)) (b + n)) _ (lt-ltb (max b (key_start k)) (b + n) (omega arith)) (lt-ltb (max b (key_start k)) (key_end k) (omega arith))

-- ---- a run is free when no key's region reaches into it
keyed-meets : (b n : ℕ) (e : Entry) → Keyed e → meets b n e ≡ key_meets b n (region_key e)
unfolding meets key_meets
keyed-meets b n e k =
    sym (ap₂ (λ t u. t && u) (ap (λ x. ltb (max b x) (b + n)) k.start) (ap₂ (λ x y. ltb (max b x) y) k.start k.end))

empty-meets : (b n : ℕ) (e : Entry) → Small e → has_region e ≡ false → meets b n e ≡ false
unfolding meets
empty-meets b n e s h =
    and_right (ltb (max b e.start) (b + n)) _ (le-ltb (max b e.start) e.end (omega (arith, s.none h)))

any-regions : (b n : ℕ) (es : List Entry) → All Small es → any (meets b n) es ≡ any (meets b n) (only has_region es)
unfolding any only keep_if
any-regions b n [] s = refl
any-regions b n (e ∷ es) s = by (has_region e) refl (any-regions b n es s.1)
  where
    by : (t : Bool) → has_region e ≡ t → any (meets b n) es ≡ any (meets b n) (only has_region es)
        → (meets b n e || any (meets b n) es) ≡ any (meets b n) (keep_if t e (only has_region es))
    by true h r = ap (λ t. meets b n e || t) r
    by false h r = rw (empty-meets b n e s.0 h) r

any-keys : (b n : ℕ) (es : List Entry) → All Keyed es → any (meets b n) es ≡ any (key_meets b n) (map region_key es)
unfolding any
any-keys b n [] k = refl
any-keys b n (e ∷ es) k = ap₂ (λ t u. t || u) (keyed-meets b n e k.0) (any-keys b n es k.1)

free-keys : (es : List Entry) (ks : List ℕ) → All Small es → Perm (map region_key (only has_region es)) ks → (b n : ℕ) → run_free es b n ≡ not (any (key_meets b n) ks)
free-keys es ks s p b n =
    run-free es b n
    ∙ ap not (any-regions b n es s ∙ any-keys b n (only has_region es) (all-keyed es s) ∙ perm-any (key_meets b n) p)

-- ---- the search
module _ (es : List Entry) (n c : ℕ) (some-blocks : 1 ≤ n) where
  -- the answer, where the search stops at b
  abbrev stop : ℕ → Option ℕ
  stop b = pick (leb (b + n) c) (some b) none

  stopped : (b : ℕ) → run_free es b n ≡ true → lowest_free es n b c ≡ stop b
  stopped b f = by (leb (b + n) c) refl
    where
      by : (t : Bool) → leb (b + n) c ≡ t → lowest_free es n b c ≡ stop b
      by true e = lowest-here es n c b (leb-true (b + n) c e) f ∙ sym (pick_true (some b) none e)
      by false e = lowest-none es n c b (leb-false (b + n) c e) ∙ sym (pick-false (some b) none e)

  -- from b on, the regions of ks are all there are
  abbrev Left : ℕ → List ℕ → Type 0
  Left b ks = (v : ℕ) → b ≤ v → run_free es v n ≡ not (any (key_meets v n) ks)

  -- the first region leaves room before it, and so do the others
  room : (b k : ℕ) (ks : List ℕ) → All (λ j. k / 65_536 ≤ j / 65_536) ks → Left b (k ∷ ks) → b + n ≤ key_start k → run_free es b n ≡ true
  room b k ks o left h =
      left b (omega arith)
      ∙ ap not (any_none (key_meets b n) (k ∷ ks) (
        key-beyond b n k h,
        all-weaken (λ j. k / 65_536 ≤ j / 65_536) (λ j. key_meets b n j ≡ false) (λ j l. key-beyond b n j (omega (arith, start-le k j l))) ks o,
      ))

  -- it leaves none: no start before its end will do
  taken : (b k : ℕ) (ks : List ℕ) → Filled k → Left b (k ∷ ks) → key_start k < b + n → (v : ℕ) → b ≤ v → v < max b (key_end k) → run_free es v n ≡ false
  unfolding any
  taken b k ks f left h v l u =
      left v l ∙ ap not (or_left (key_meets v n k) (any (key_meets v n) ks) (key_meets_lem v n k some-blocks f (omega arith) (omega arith)))

  past : (b k : ℕ) (ks : List ℕ) → Left b (k ∷ ks) → Left (max b (key_end k)) ks
  unfolding any
  past b k ks left v l = left v (omega arith) ∙ ap (λ t. not (t || any (key_meets v n) ks)) (key-behind v n k (omega arith))

  searched : (b : ℕ) (ks : List ℕ) → All Filled ks → Pairs (λ i j. i / 65_536 ≤ j / 65_536) ks → Left b ks → lowest_free es n b c ≡ stop (free_from n b ks)
  unfolding free_from any
  searched b [] f o left = stopped b (left b (omega arith))
  searched b (k ∷ ks) f o left =
      by (leb (b + n) (key_start k)) refl (searched (max b (key_end k)) ks f.1 o.1 (past b k ks left))
    where
      next : ℕ
      next = free_from n (max b (key_end k)) ks

      by : (t : Bool) → leb (b + n) (key_start k) ≡ t → lowest_free es n (max b (key_end k)) c ≡ stop next → lowest_free es n b c ≡ stop (pick (leb (b + n) (key_start k)) b next)
      by true e r = stopped b (room b k ks o.0 left (leb-true (b + n) (key_start k) e)) ∙ sym (ap stop (pick_true b next e))
      by false e r =
          sym (lowest-skip es n c b (max b (key_end k)) (omega arith) (taken b k ks f.0 left (leb-false (b + n) (key_start k) e)))
          ∙ r
          ∙ sym (ap stop (pick-false b next e))

-- of any entries, apart or not
pub free-in-order : (es : List Entry) (ks : List ℕ) → HasRegions es ks → (n low ceiling : ℕ) → 1 ≤ n
    → (b : ℕ) → b ≡ free_from n low ks → pick (leb (b + n) ceiling) (some b) none ≡ lowest_free es n low ceiling
free-in-order es ks h n low ceiling m b e =
    rw e (sym (searched es n ceiling m low ks (all-filled es ks h.small h.same) h.ascends (λ v l. free-keys es ks h.small h.same v n)))

-- the loop that goes from key to key
module _ (ks : List ℕ) (n b i : ℕ) where
  pub free-end : length ks ≤ i → b ≡ free_from n b (drop i ks)
  unfolding free_from
  free-end h = rw (drop_of_length-le ks h)

  module _ (k : ℕ) (h : i < length ks) (here : k ≡ get_or ks i 0) where
    pub free-here : leb (b + n) (key_start k) ≡ true → b ≡ free_from n b (drop i ks)
    unfolding free_from
    free-here e = rw (here-and-behind ks i k h here) (sym (pick_true b (free_from n (max b (key_end k)) (drop (i + 1) ks)) e))

    pub free-next : leb (b + n) (key_start k) ≡ false → free_from n (max b (key_end k)) (drop (i + 1) ks) ≡ free_from n b (drop i ks)
    unfolding free_from
    free-next e = rw (here-and-behind ks i k h here) (sym (pick-false b (free_from n (max b (key_end k)) (drop (i + 1) ks)) e))
