-- CHAINS DECIDE THE PATHS: live entries of which each may stand behind the one before it have sound paths, and of entries in order only those.
-- Assumes nothing.
use Rattle.std.specs.Prelude.{ℕ, ◌≡◌, refl, Bool, true, false, ◌&&◌, List, [], ◌∷◌, ◌++◌, eqb}
use Rattle.std.proofs.Common.{sym, subst, ◌∙◌, append_assoc}
use Rattle.rules.specs.Lists.{only, eq_list, All, Pairs, Perm}
use Rattle.rules.specs.Lists.Laws.{and-true, and_both, only_yes, only_no, eq_list-refl, eq_list-true}
use Rattle.rules.specs.Names.{leading}
use Rattle.rules.specs.Index.{Entry, type_directory}
use Rattle.rules.specs.Paths.{is_live, is_directory_at, directory_live, paths_sound}
use Rattle.laws.proofs.Lists.Parts.{any-only}
use Rattle.laws.proofs.Lists.Every.{not-both, is_false, same_test, all-weaken, all_of, all-and, all_join, all_placed, all-chosen, only-says, pairs-weaken, pairs-split, any_found, all_found, any_at, any-weaken}
use Rattle.laws.proofs.Lists.Perms.{perm-all}
use Rattle.laws.proofs.Entries.Paths.{Differ, DirectoriesLive, PathsGood, paths-says, paths-holds, paths-perm, paths-only}
use Rattle.ordering.specs.Paths.{path_le, no_slash, entry_follows, chain_from, chain}
use Rattle.ordering.proofs.PathOrder.{path-refl, path-total, path-one, later-carries, later-differs, lead-none, none-leads, lead-before, follows-later, follows-leading, Suits, follows-holds}

-- ---- the live entries alone
directory-only : (es : List Entry) (d : List ℕ) → directory_live (only is_live es) d ≡ true → directory_live es d ≡ true
unfolding directory_live
directory-only es d h =
    any-weaken (λ e. is_live e && is_directory_at d e) (is_directory_at d) es (all_of _ (λ e t. (and-true (is_live e) (is_directory_at d e) t).1) es)
    (sym (any-only (is_directory_at d) is_live es) ∙ h)

differ-only : (es : List Entry) → Pairs Differ (only is_live es) → Pairs Differ es
differ-only [] h = tt
differ-only (e ∷ es) h = by (is_live e) refl (differ-only es)
  where
    by : (t : Bool) → is_live e ≡ t → (Pairs Differ (only is_live es) → Pairs Differ es) → Pairs Differ (e ∷ es)
    by true l rec =
        let k = rw (only_yes is_live e es l) at h in
        (all-weaken _ (Differ e) (λ f q a b c. q b a b c) es (only-says (Differ e) is_live es k.0), rec k.1)
    by false l rec = (all_of (Differ e) (λ f a b c. not-both (is_live e) a l) es, rec (rw (only_no is_live e es l) at h))

paths-live : (es : List Entry) → paths_sound es ≡ paths_sound (only is_live es)
paths-live es = same_test (paths_sound es) (paths_sound (only is_live es)) (paths-only is_live (λ e l. l) es) back
  where
    back : paths_sound (only is_live es) ≡ true → paths_sound es ≡ true
    back h =
        let g = paths-says (only is_live es) h in
        paths-holds es (record {
          differ = differ-only es g.differ;
          directories =
              all-weaken _ _ (λ e q a. all-weaken _ _ (directory-only es) (leading e.path) (q a a)) es (only-says _ is_live es g.directories);
        })

-- ---- a chain is sound
-- the one's path comes strictly before the other's
abbrev Before : Entry → Entry → Type 0
Before e f = path_le f.path e.path ≡ false

-- an entry that is a directory
abbrev is_dir : Entry → Bool
is_dir e = eqb e.kind type_directory

follows-before : (e f : Entry) → entry_follows e f ≡ true → Before e f
unfolding entry_follows
follows-before e f h = follows-later (is_dir e) e.path f.path h

chain-ascends : (e : Entry) (fs : List Entry) → chain_from e fs ≡ true → Pairs Before (e ∷ fs)
unfolding chain_from
chain-ascends e [] h = (tt, tt)
chain-ascends e (f ∷ fs) h =
    let r = and-true (entry_follows e f) (chain_from f fs) h in
    let p = chain-ascends f fs r.1 in
    let b = follows-before e f r.0 in
    ((b, all-weaken (Before f) (Before e) (λ g c. later-carries e.path f.path g.path b c) fs p.0), p)

-- whatever holds of the directories' paths holds of the leading paths
chain-leading : (P : List ℕ → Type 0) (e : Entry) (fs : List Entry) → All (λ f. is_dir f ≡ true → P f.path) (e ∷ fs) → All P (leading e.path)
    → chain_from e fs ≡ true → All (λ f. All P (leading f.path)) (e ∷ fs)
unfolding chain_from entry_follows
chain-leading P e [] d a h = (a, tt)
chain-leading P e (f ∷ fs) d a h =
    let r = and-true (entry_follows e f) (chain_from f fs) h in
    (a, chain-leading P f fs d.1 (follows-leading P (is_dir e) e.path f.path r.0 a d.0) r.1)

-- the directories of a list are live there
directories-there : (es : List Entry) → All (λ e. is_dir e ≡ true → directory_live es e.path ≡ true) es
unfolding directory_live is_directory_at
directories-there es = all_placed _ es (λ pre e post w d. rw w (any_at (is_directory_at e.path) pre e post (and_both (is_dir e) _ d (eq_list-refl e.path))))

before-differ : (e f : Entry) → Before e f → Differ e f
before-differ e f h a b c = later-differs e.path f.path h c

chain-good : (fs : List Entry) → chain fs ≡ true → PathsGood fs
unfolding chain
chain-good [] h = record { differ = tt; directories = tt }
chain-good (e ∷ fs) h =
    let r = and-true (no_slash e.path) (chain_from e fs) h in
    record {
      differ = pairs-weaken Before Differ before-differ (e ∷ fs) (chain-ascends e fs r.1);
      directories =
          all-weaken _ _ (λ f k a. k) (e ∷ fs)
          (chain-leading (λ d. directory_live (e ∷ fs) d ≡ true) e fs (directories-there (e ∷ fs)) (rw (lead-none e.path r.0) tt) r.1);
    }

pub chain-sound : (es fs : List Entry) → Perm (only is_live es) fs → chain fs ≡ true → paths_sound es ≡ true
chain-sound es fs p h = paths-live es ∙ paths-perm p ∙ paths-holds fs (chain-good fs h)

-- ---- of live entries in order, sound ones are a chain
ascends-before : (fs : List Entry) → All (λ e. is_live e ≡ true) fs → Pairs (λ e f. path_le e.path f.path ≡ true) fs → Pairs Differ fs → Pairs Before fs
ascends-before [] l h d = tt
ascends-before (e ∷ fs) l h d = (all-weaken _ (Before e) one fs (all-and _ _ fs l.1 (all-and _ _ fs h.0 d.0)), ascends-before fs l.1 h.1 d.1)
  where
    one : (f : Entry) → (is_live f ≡ true) × ((path_le e.path f.path ≡ true) × Differ e f) → Before e f
    one f k = is_false (path_le f.path e.path) (λ t. k.1.1 l.0 k.0 (path-one e.path f.path k.1.0 t))

-- what holds of the directories' paths, of a live directory's
directory-by : (P : List ℕ → Type 0) (es : List Entry) → All (λ f. is_dir f ≡ true → P f.path) es → (d : List ℕ) → directory_live es d ≡ true → P d
unfolding directory_live is_directory_at
directory-by P es h d l =
    let f = any_found (is_directory_at d) es l in
    let r = and-true (is_dir f.it) (eq_list f.it.path d) f.passes in
    subst P (eq_list-true f.it.path d r.1) (all_found _ (is_directory_at d) es h f r.0)

-- and so of the leading paths of p, if it holds of the directories that come strictly before p
leading-by : (P : List ℕ → Type 0) (es : List Entry) (p : List ℕ) → All (λ f. is_dir f ≡ true → path_le p f.path ≡ false → P f.path) es
    → DirectoriesLive es p → All P (leading p)
leading-by P es p h l =
    all-weaken _ P (λ d k. directory-by (λ q. path_le p q ≡ false → P q) es h d k.1 k.0) (leading p) (all-and _ _ (leading p) (lead-before p) l)

first_plain : (e : Entry) (fs : List Entry) → All (Before e) fs → DirectoriesLive (e ∷ fs) e.path → no_slash e.path ≡ true
first_plain e fs h l = none-leads e.path (leading-by (λ d. ⊥) (e ∷ fs) e.path seen l)
  where
    seen : All (λ f. is_dir f ≡ true → path_le e.path f.path ≡ false → ⊥) (e ∷ fs)
    seen = (λ d n. not-both _ (path-refl e.path) n, all-weaken _ _ (λ f b d n. not-both _ (path-total f.path e.path b) n) fs h)

-- an entry and its neighbour: a directory that comes before the neighbour is the entry or comes before that
neighbours : (es pre : List Entry) (e f : Entry) (post : List Entry) → es ≡ pre ++ (e ∷ f ∷ post) → Pairs Before es → DirectoriesLive es f.path
    → entry_follows e f ≡ true
unfolding entry_follows
neighbours es pre e f post w h l =
    let (a, b, c) = pairs-split Before pre (e ∷ f ∷ post) (rw w at h) in
    let there : All Seen (e ∷ f ∷ post) = (here, (λ d n. absurd (not-both _ (path-refl f.path) n), all-weaken (Before f) Seen behind post b.1.0)) in
    follows-holds (is_dir e) e.path f.path b.0.0
    (leading-by (Suits (is_dir e) e.path) es f.path (rw w (all_join Seen pre (e ∷ f ∷ post) (all-weaken _ Seen (λ x k. ahead x k.0) pre c) there)) l)
  where
    Seen : Entry → Type 0
    Seen x = is_dir x ≡ true → path_le f.path x.path ≡ false → Suits (is_dir e) e.path x.path

    ahead : (x : Entry) → Before x e → Seen x
    ahead x k d n = (path-total e.path x.path k, λ q. absurd (later-differs x.path e.path k q))

    here : Seen e
    here d n = (path-refl e.path, λ q. d)

    behind : (x : Entry) → Before f x → Seen x
    behind x k d n = absurd (not-both _ (path-total x.path f.path k) n)

chain-from : (es pre : List Entry) (e : Entry) (fs : List Entry) → es ≡ pre ++ (e ∷ fs) → Pairs Before es → All (λ f. DirectoriesLive es f.path) fs
    → chain_from e fs ≡ true
unfolding chain_from
chain-from es pre e [] w h l = refl
chain-from es pre e (f ∷ fs) w h l =
    and_both (entry_follows e f) (chain_from f fs)
    (neighbours es pre e f fs w h l.0)
    (chain-from es (pre ++ (e ∷ [])) f fs (w ∙ sym (append_assoc pre (e ∷ []) (f ∷ fs))) h l.1)

good-chain : (fs : List Entry) → Pairs Before fs → All (λ f. DirectoriesLive fs f.path) fs → chain fs ≡ true
unfolding chain
good-chain [] h l = refl
good-chain (e ∷ fs) h l =
    and_both (no_slash e.path) (chain_from e fs) (first_plain e fs h.0 l.0) (chain-from (e ∷ fs) [] e fs refl h l.1)

pub chain-decides : (es fs : List Entry) → Perm (only is_live es) fs → Pairs (λ e f. path_le e.path f.path ≡ true) fs → paths_sound es ≡ chain fs
chain-decides es fs p h = paths-live es ∙ paths-perm p ∙ same_test (paths_sound fs) (chain fs) there (λ c. paths-holds fs (chain-good fs c))
  where
    live : All (λ e. is_live e ≡ true) fs
    live = perm-all _ p (all-chosen is_live es)

    there : paths_sound fs ≡ true → chain fs ≡ true
    there s =
        let g = paths-says fs s in
        good-chain fs (ascends-before fs live h g.differ) (all-weaken _ _ (λ f k. k.1 k.0) fs (all-and _ _ fs live g.directories))
