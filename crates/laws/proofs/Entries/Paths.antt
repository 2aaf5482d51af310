-- Sound paths stay sound: in another order, with one live entry more, with one deleted or struck, with one restored, and without the deleted ones. Assumes nothing.
use Prim.Native.Nat.{ℕ}
use mathlib.Core.Path.{◌≡◌, refl, sym, ap, ap₂, subst, ◌∙◌}
use mathlib.Core.Bool.{Bool, true, false, ◌&&◌, ◌||◌, not}
use mathlib.Core.List.{List, [], ◌∷◌, ◌++◌, map}
use mathlib.Core.Option.{none, some}
use lib.Dec.{eqb}
use borrow.Author.Tests.{not-true, eqb-true}
use Rattle.rules.specs.Lists.{any, every_two, only, eq_list, All, Pairs, Perm}
use Rattle.rules.specs.Lists.Laws.{and-true, and_both, and_left, or_right, only_yes, eq_list-refl, eq_list-true}
use Rattle.rules.specs.Names.{leading, is_below}
use Rattle.rules.specs.Index.{Entry, live_type, type_file, type_directory}
use Rattle.rules.specs.Paths.{is_live, is_deleted, live_at, deleted_at, lookup, is_directory_at, directory_live, directories_live, paths_differ, paths_sound, any_below}
use Rattle.rules.specs.Writing.{nearest_live}
use Rattle.laws.proofs.Lists.Parts.{any-map, any-ext, any-only}
use Rattle.laws.proofs.Lists.Every.{or_left, or-not-says, or-not-holds, not-both, is_false, all-weaken, all_of, all-and, all_join, all-at, all-only, all_map, pairs-weaken, pairs-split, pairs-only, pairs-map, all-says, all-holds, two-says, two-holds, none_passes, any_found, all_found, any-weaken, first-at, none-says, every_map, every-ext, two-map, two-ext, only-but}
use Rattle.laws.proofs.Lists.Perms.{perm-every, perm-any, perm-two, perm-insert}
use Rattle.laws.proofs.Entries.EntryKinds.{live-kept}
use Rattle.laws.proofs.Entries.Leading.{Above, top, under, above, below-leading}

-- ---- as statements
-- not two live entries of one path
abbrev pub Differ : Entry → Entry → Type 0
Differ e f = is_live e ≡ true → is_live f ≡ true → e.path ≡ f.path → ⊥

differ-says : (e f : Entry) → paths_differ e f ≡ true → Differ e f
unfolding paths_differ
differ-says e f h a b c =
    not-both _
    (and_both (is_live e && is_live f) (eq_list e.path f.path) (and_both (is_live e) (is_live f) a b) (ap (λ q. eq_list q f.path) c ∙ eq_list-refl f.path))
    (not-true (is_live e && is_live f && eq_list e.path f.path) h)

differ-holds : (e f : Entry) → Differ e f → paths_differ e f ≡ true
unfolding paths_differ
differ-holds e f h =
    ap not (is_false (is_live e && is_live f && eq_list e.path f.path) (λ t.
    let p = and-true (is_live e && is_live f) (eq_list e.path f.path) t in
    let q = and-true (is_live e) (is_live f) p.0 in
    h q.0 q.1 (eq_list-true e.path f.path p.1)))

differ_back : (e f : Entry) → paths_differ e f ≡ true → paths_differ f e ≡ true
differ_back e f h = differ-holds f e (λ a b c. differ-says e f h b a (sym c))

-- the leading paths of p are live directories of es
abbrev pub DirectoriesLive : List Entry → List ℕ → Type 0
DirectoriesLive es p = All (λ d. directory_live es d ≡ true) (leading p)

pub record PathsGood (es : List Entry) : Type 0 where
  pub differ : Pairs Differ es
  pub directories : All (λ e. is_live e ≡ true → DirectoriesLive es e.path) es

pub paths-says : (es : List Entry) → paths_sound es ≡ true → PathsGood es
unfolding paths_sound directories_live
paths-says es h =
    let p = and-true (every_two paths_differ es) _ h in
    record {
      differ = pairs-weaken _ Differ differ-says es (two-says paths_differ es p.0);
      directories = all-weaken _ _ (λ e q a. all-says (directory_live es) (leading e.path) (or-not-says (is_live e) _ q a)) es (all-says _ es p.1);
    }

pub paths-holds : (es : List Entry) → PathsGood es → paths_sound es ≡ true
unfolding paths_sound directories_live
paths-holds es r =
    and_both (every_two paths_differ es) _
    (two-holds paths_differ es (pairs-weaken Differ _ differ-holds es r.differ))
    (all-holds _ es (all-weaken _ _ (λ e q. or-not-holds (is_live e) _ (λ a. all-holds (directory_live es) (leading e.path) (q a))) es r.directories))

-- ---- another order
directories-ext : (es fs : List Entry) → ((d : List ℕ) → directory_live es d ≡ directory_live fs d) → (p : List ℕ) → directories_live es p ≡ directories_live fs p
unfolding directories_live
directories-ext es fs h p = every-ext (directory_live es) (directory_live fs) h (leading p)

pub paths-perm : {es fs : List Entry} → Perm es fs → paths_sound es ≡ paths_sound fs
unfolding paths_sound directory_live
paths-perm {es} {fs} p =
    ap₂ (λ s t. s && t) (perm-two paths_differ differ_back p)
    (perm-every _ p
    ∙ every-ext _ _ (λ e. ap (λ t. not (is_live e) || t) (directories-ext es fs (λ d. perm-any (is_directory_at d) p) e.path)) fs)

-- ---- entries changed in place: paths depend on kind and path, and on nothing else
pub record SamePath (e f : Entry) : Type 0 where
  pub kind : f.kind ≡ e.kind
  pub path : f.path ≡ e.path

live_same : (e f : Entry) → SamePath e f → is_live f ≡ is_live e
unfolding is_live
live_same e f s = ap live_type s.kind

differ_same : (e f x y : Entry) → SamePath e x → SamePath f y → paths_differ x y ≡ paths_differ e f
unfolding paths_differ
differ_same e f x y s t = rw (live_same e x s, live_same f y t, s.path, t.path)

directory-same : (d : List ℕ) (e f : Entry) → SamePath e f → is_directory_at d f ≡ is_directory_at d e
unfolding is_directory_at
directory-same d e f s = rw (s.kind, s.path)

pub paths-map : (f : Entry → Entry) → ((e : Entry) → SamePath e (f e)) → (es : List Entry) → paths_sound (map f es) ≡ paths_sound es
unfolding paths_sound directory_live
paths-map f s es =
    ap₂ (λ t u. t && u)
    (two-map paths_differ f es ∙ two-ext _ _ (λ x y. differ_same x y (f x) (f y) (s x) (s y)) es)
    (every_map _ f es
    ∙ every-ext _ _ (λ e. ap₂ (λ t u. not t || u) (live_same e (f e) (s e)) (directories-ext (map f es) es go (f e).path ∙ ap (directories_live es) (s e).path)) es)
  where
    go : (d : List ℕ) → directory_live (map f es) d ≡ directory_live es d
    go d = any-map (is_directory_at d) f es ∙ any-ext _ _ (λ e. directory-same d e (f e) (s e)) es

-- ---- a live entry's place among the others
pub live_at-says : (p : List ℕ) (e : Entry) → live_at p e ≡ true → (is_live e ≡ true) × (e.path ≡ p)
unfolding live_at
live_at-says p e h = let q = and-true (is_live e) (eq_list e.path p) h in (q.0, eq_list-true e.path p q.1)

live_at-holds : (p : List ℕ) (e : Entry) → is_live e ≡ true → e.path ≡ p → live_at p e ≡ true
unfolding live_at
live_at-holds p e a b = and_both (is_live e) (eq_list e.path p) a (ap (λ q. eq_list q p) b ∙ eq_list-refl p)

live_at-not : (e f : Entry) → is_live e ≡ true → (is_live f ≡ true → f.path ≡ e.path → ⊥) → live_at e.path f ≡ false
live_at-not e f a h = is_false (live_at e.path f) (λ t. let q = live_at-says e.path f t in h q.0 q.1)

-- no other live entry has its path
pub live-alone : (pre : List Entry) (e : Entry) (post : List Entry) → Pairs Differ (pre ++ (e ∷ post)) → is_live e ≡ true
    → All (λ f. live_at e.path f ≡ false) pre × All (λ f. live_at e.path f ≡ false) post
live-alone pre e post h a =
    let (p, q, r) = pairs-split Differ pre (e ∷ post) h in
    (all-weaken _ _ (λ f c. live_at-not e f a (λ b s. c.0 b a s)) pre r, all-weaken _ _ (λ f d. live_at-not e f a (λ b s. d a b (sym s))) post q.0)

pub lookup-live : (es pre : List Entry) (e : Entry) (post : List Entry) → paths_sound es ≡ true → es ≡ pre ++ (e ∷ post) → is_live e ≡ true
    → lookup e.path es ≡ some e
unfolding lookup
lookup-live es pre e post h w a =
    let r = live-alone pre e post (paths-says _ (rw w at h)).differ a in
    rw w (first-at (live_at e.path) pre e post r.0 (live_at-holds e.path e a refl))

-- ---- a new live entry
directory-more : (e : Entry) (es : List Entry) (d : List ℕ) → directory_live es d ≡ true → directory_live (e ∷ es) d ≡ true
unfolding directory_live any
directory-more e es d h = or_right (is_directory_at d e) (any (is_directory_at d) es) h

more-directories : (e : Entry) (es : List Entry) (p : List ℕ) → DirectoriesLive es p → DirectoriesLive (e ∷ es) p
more-directories e es p h = all-weaken _ _ (directory-more e es) (leading p) h

directory-live : (d : List ℕ) (e : Entry) → is_directory_at d e ≡ true → (is_live e ≡ true) × (e.path ≡ d)
unfolding is_directory_at is_live live_type
directory-live d e h =
    let q = and-true (eqb e.kind type_directory) (eq_list e.path d) h in
    (or_left (eqb e.kind type_directory) (eqb e.kind type_file) q.0, eq_list-true e.path d q.1)

directory-kind : (d : List ℕ) (e : Entry) → is_directory_at d e ≡ true → e.kind ≡ type_directory
unfolding is_directory_at
directory-kind d e h = eqb-true e.kind type_directory (and-true (eqb e.kind type_directory) (eq_list e.path d) h).0

-- a live directory's own directories are live
directory-above : (es : List Entry) (d : List ℕ) → PathsGood es → directory_live es d ≡ true → DirectoriesLive es d
unfolding directory_live
directory-above es d g h =
    let f = any_found (is_directory_at d) es h in
    let q = directory-live d f.it f.passes in
    subst (DirectoriesLive es) q.1 (all_found _ (is_directory_at d) es g.directories f q.0)

-- the nearest is the last
pub nearest-last : (es : List Entry) (ds : List (List ℕ)) (d : List ℕ) → nearest_live es (ds ++ (d ∷ [])) ≡ directory_live es d
unfolding nearest_live
nearest-last es [] d = refl
nearest-last es (p ∷ []) d = refl
nearest-last es (p ∷ q ∷ ps) d = nearest-last es (q ∷ ps) d

-- where the nearest directory is live, all are
nearest-all : (es : List Entry) (p : List ℕ) → PathsGood es → nearest_live es (leading p) ≡ true → DirectoriesLive es p
nearest-all es p g h = go (above p)
  where
    go : Above p → DirectoriesLive es p
    go (top e) = rw e tt
    go (under d e) =
        let l : directory_live es d ≡ true = sym (nearest-last es (leading d) d) ∙ ap (nearest_live es) (sym e) ∙ h in
        rw e (all_join (λ q. directory_live es q ≡ true) (leading d) (d ∷ []) (directory-above es d g l) (l, tt))

pub paths-create : (es : List Entry) (e : Entry) → lookup e.path es ≡ none → nearest_live es (leading e.path) ≡ true → paths_sound es ≡ true
    → paths_sound (e ∷ es) ≡ true
unfolding lookup
paths-create es e l n h =
    let g = paths-says es h in
    paths-holds (e ∷ es) (record {
      differ = (all-weaken _ _ (λ f q a b c. not-both (live_at e.path f) (live_at-holds e.path f b (sym c)) q) es (none-says (live_at e.path) es l), g.differ);
      directories = (λ a. more-directories e es e.path (nearest-all es e.path g n), all-weaken _ _ (λ f q a. more-directories e es f.path (q a)) es g.directories);
    })

-- ---- below a file
-- a live directory is the live entry of its path
directory-found : (es : List Entry) (p : List ℕ) (e : Entry) → paths_sound es ≡ true → lookup p es ≡ some e → directory_live es p ≡ true → e.kind ≡ type_directory
unfolding directory_live
directory-found es p e h l t =
    let d = any_found (is_directory_at p) es t in
    let q = directory-live p d.it d.passes in
    let w = subst (λ (x : List ℕ). lookup x es ≡ some d.it) q.1 (lookup-live es d.before d.it d.after h d.whole q.0) in
    let s : e ≡ d.it = cc in
    ap (λ (x : Entry). x.kind) s ∙ directory-kind p d.it d.passes

-- what has a live entry below it is a live directory, so nothing lies below a file
pub file-alone : (es : List Entry) (p : List ℕ) (e : Entry) → paths_sound es ≡ true → lookup p es ≡ some e → (e.kind ≡ type_directory → ⊥) → any_below p es ≡ false
unfolding any_below
file-alone es p e h l n =
    is_false (any_below p es) (λ t.
    let f = any_found _ es t in
    let b = and-true (is_live f.it) (is_below p f.it.path) f.passes in
    let d = any_found (eq_list p) (leading f.it.path) (sym (below-leading p f.it.path) ∙ b.1) in
    n (directory-found es p e h l
    (ap (directory_live es) (eq_list-true p d.it d.passes)
    ∙ all_found _ (eq_list p) (leading f.it.path) (all_found _ _ es (paths-says es h).directories f b.0) d)))

-- ---- without some entries that are not live
pub paths-only : (q : Entry → Bool) → ((e : Entry) → is_live e ≡ true → q e ≡ true) → (es : List Entry) → paths_sound es ≡ true → paths_sound (only q es) ≡ true
unfolding directory_live
paths-only q k es h =
    let g = paths-says es h in
    paths-holds (only q es) (record {
      differ = pairs-only Differ q es g.differ;
      directories = all-only _ q es (all-weaken _ _ (λ e r a. all-weaken _ _ go (leading e.path) (r a)) es g.directories);
    })
  where
    go : (d : List ℕ) → directory_live es d ≡ true → directory_live (only q es) d ≡ true
    go d l =
        any-only (is_directory_at d) q es
        ∙ any-weaken (is_directory_at d) (λ e. q e && is_directory_at d e) es
        (all_of _ (λ e t. and_both (q e) (is_directory_at d e) (k e (directory-live d e t).0) t) es) l

pub paths-reclaim : (es : List Entry) → paths_sound es ≡ true → paths_sound (only (λ e. not (is_deleted e)) es) ≡ true
paths-reclaim es h = paths-only (λ e. not (is_deleted e)) live-kept es h

-- ---- a deleted entry live again
pub deleted_at-says : (p : List ℕ) (e : Entry) → deleted_at p e ≡ true → (is_deleted e ≡ true) × (e.path ≡ p)
unfolding deleted_at
deleted_at-says p e h = let q = and-true (is_deleted e) (eq_list e.path p) h in (q.0, eq_list-true e.path p q.1)

pub deleted_at-holds : (p : List ℕ) (e : Entry) → is_deleted e ≡ true → e.path ≡ p → deleted_at p e ≡ true
unfolding deleted_at
deleted_at-holds p e a b = and_both (is_deleted e) (eq_list e.path p) a (ap (λ q. eq_list q p) b ∙ eq_list-refl p)

pub live-not-deleted : (p : List ℕ) (e : Entry) → is_live e ≡ true → not (deleted_at p e) ≡ true
unfolding deleted_at
live-not-deleted p e a = ap not (and_left (is_deleted e) (eq_list e.path p) (not-true (is_deleted e) (live-kept e a)))

-- f in the place of e, the one deleted entry of its path, where the path is not live and its directory is: f is new, and e is gone
module _ (p : List ℕ) (pre : List Entry) (e f : Entry) (post : List Entry)
    (before : All (λ x. deleted_at p x ≡ false) pre) (here : deleted_at p e ≡ true) (behind : All (λ x. deleted_at p x ≡ false) post) where
  pub paths-restore : is_live f ≡ true → f.path ≡ p → lookup p (pre ++ (e ∷ post)) ≡ none → nearest_live (pre ++ (e ∷ post)) (leading p) ≡ true
      → paths_sound (pre ++ (e ∷ post)) ≡ true → paths_sound (pre ++ (f ∷ post)) ≡ true
  paths-restore live is l n h =
      let q : Entry → Bool = λ x. not (deleted_at p x) in
      let more : paths_sound (f ∷ (pre ++ (e ∷ post))) ≡ true =
      paths-create (pre ++ (e ∷ post)) f
      (ap (λ u. lookup u (pre ++ (e ∷ post))) is ∙ l) (ap (λ u. nearest_live (pre ++ (e ∷ post)) (leading u)) is ∙ n) h in
      let one : only q (f ∷ (pre ++ (e ∷ post))) ≡ f ∷ (pre ++ post) =
      only_yes q f (pre ++ (e ∷ post)) (live-not-deleted p f live)
      ∙ ap (λ us. f ∷ us)
      (only-but q pre e post (all-weaken _ _ (λ x k. ap not k) pre before) (ap not here) (all-weaken _ _ (λ x k. ap not k) post behind)) in
      sym (paths-perm (perm-insert f pre post)) ∙ sym (ap paths_sound one) ∙ paths-only q (live-not-deleted p) (f ∷ (pre ++ (e ∷ post))) more

-- ---- a live entry deleted
-- the entry of the path is no longer live, and the others are as they were
pub record TakesAway (path : List ℕ) (f : Entry → Entry) : Type 0 where
  pub gone : (e : Entry) → live_at path e ≡ true → is_live (f e) ≡ false
  pub others : (e : Entry) → live_at path e ≡ false → SamePath e (f e)

-- an entry that is still live is as it was
still : (path : List ℕ) (f : Entry → Entry) → TakesAway path f → (e : Entry) → is_live (f e) ≡ true → SamePath e (f e)
still path f k e a = go (live_at path e) refl
  where
    go : (t : Bool) → live_at path e ≡ t → SamePath e (f e)
    go true l = absurd (not-both (is_live (f e)) a (k.gone e l))
    go false l = k.others e l

still-live : (path : List ℕ) (f : Entry → Entry) → TakesAway path f → (e : Entry) → is_live (f e) ≡ true → is_live e ≡ true
still-live path f k e a = sym (live_same e (f e) (still path f k e a)) ∙ a

-- an entry of another path
not_at : (path d : List ℕ) (e : Entry) → eq_list path d ≡ false → e.path ≡ d → live_at path e ≡ false
not_at path d e n p = is_false (live_at path e) (λ a. not-both (eq_list path d) (ap (λ q. eq_list q d) (sym (live_at-says path e a).1 ∙ p) ∙ eq_list-refl d) n)

-- a live directory of another path stays
directory-stays : (path : List ℕ) (f : Entry → Entry) → TakesAway path f → (es : List Entry) (d : List ℕ) → eq_list path d ≡ false → directory_live es d ≡ true
    → directory_live (map f es) d ≡ true
unfolding directory_live
directory-stays path f k es d n l =
    any-map (is_directory_at d) f es ∙ any-weaken (is_directory_at d) (λ e. is_directory_at d (f e)) es (all_of _ go es) l
  where
    go : (e : Entry) → is_directory_at d e ≡ true → is_directory_at d (f e) ≡ true
    go e t = directory-same d e (f e) (k.others e (not_at path d e n (directory-live d e t).1)) ∙ t

-- where all directories are live, the nearest is
all-nearest : (es : List Entry) (p : List ℕ) → DirectoriesLive es p → nearest_live es (leading p) ≡ true
unfolding nearest_live
all-nearest es p h = go (above p)
  where
    go : Above p → nearest_live es (leading p) ≡ true
    go (top e) = rw e
    go (under d e) = ap (nearest_live es) e ∙ nearest-last es (leading d) d ∙ all-at (λ q. directory_live es q ≡ true) (leading d) d [] (rw e at h)

-- the path is no directory of a live entry that is not below it
not-above : (path : List ℕ) (e : Entry) → (is_live e && is_below path e.path) ≡ false → is_live e ≡ true → All (λ d. eq_list path d ≡ false) (leading e.path)
not-above path e h a =
    none_passes (eq_list path) (leading e.path) (sym (below-leading path e.path) ∙ sym (ap (λ t. t && is_below path e.path) a) ∙ h)

-- the directories of a live entry that stays one, or of the one that is taken away, are live afterwards
directories-stay : (path : List ℕ) (f : Entry → Entry) (es : List Entry) → TakesAway path f → (e : Entry) → is_live e ≡ true
    → (is_live e && is_below path e.path) ≡ false → DirectoriesLive es e.path → DirectoriesLive (map f es) e.path
directories-stay path f es k e l b q =
    all-weaken _ _ (λ d r. directory-stays path f k es d r.0 r.1) (leading e.path) (all-and _ _ (leading e.path) (not-above path e b l) q)

-- so the nearest directory of the entry that was taken away is still live
pub nearest-stays : (path : List ℕ) (f : Entry → Entry) (pre : List Entry) (e : Entry) (post : List Entry) → TakesAway path f → is_live e ≡ true
    → e.path ≡ path → any_below path (pre ++ (e ∷ post)) ≡ false → paths_sound (pre ++ (e ∷ post)) ≡ true
    → nearest_live (map f (pre ++ (e ∷ post))) (leading path) ≡ true
unfolding any_below
nearest-stays path f pre e post k l is b h =
    let es : List Entry = pre ++ (e ∷ post) in
    all-nearest (map f es) path
    (subst (DirectoriesLive (map f es)) is
    (directories-stay path f es k e l (all-at _ pre e post (none_passes _ es b)) (all-at _ pre e post (paths-says es h).directories l)))

pub paths-delete : (path : List ℕ) (f : Entry → Entry) (es : List Entry) → TakesAway path f → any_below path es ≡ false → paths_sound es ≡ true
    → paths_sound (map f es) ≡ true
unfolding any_below
paths-delete path f es k b h =
    let g = paths-says es h in
    paths-holds (map f es) (record {
      differ = pairs-map Differ Differ f two es g.differ;
      directories = all_map _ f es (all-weaken _ _ one es (all-and _ _ es (none_passes _ es b) g.directories));
    })
  where
    two : (x y : Entry) → Differ x y → Differ (f x) (f y)
    two x y d a c e = d (still-live path f k x a) (still-live path f k y c) (sym (still path f k x a).path ∙ e ∙ (still path f k y c).path)

    one : (e : Entry) → ((is_live e && is_below path e.path) ≡ false) × (is_live e ≡ true → DirectoriesLive es e.path) → is_live (f e) ≡ true
        → DirectoriesLive (map f es) (f e).path
    one e q a =
        let l = still-live path f k e a in
        subst (DirectoriesLive (map f es)) (sym (still path f k e a).path) (directories-stay path f es k e l q.0 (q.1 l))

-- ---- a live entry struck: the others are as they were
pub paths-strike : (path : List ℕ) (es : List Entry) → any_below path es ≡ false → paths_sound es ≡ true → paths_sound (only (λ e. not (live_at path e)) es) ≡ true
unfolding any_below directory_live
paths-strike path es b h =
    let g = paths-says es h in
    paths-holds (only (λ e. not (live_at path e)) es) (record {
      differ = pairs-only Differ (λ e. not (live_at path e)) es g.differ;
      directories = all-only _ (λ e. not (live_at path e)) es (all-weaken _ _ one es (all-and _ _ es (none_passes _ es b) g.directories));
    })
  where
    stays : (d : List ℕ) → eq_list path d ≡ false → directory_live es d ≡ true → directory_live (only (λ e. not (live_at path e)) es) d ≡ true
    stays d n l =
        any-only (is_directory_at d) (λ e. not (live_at path e)) es
        ∙ any-weaken (is_directory_at d) (λ e. not (live_at path e) && is_directory_at d e) es
        (all_of _ (λ e t. and_both (not (live_at path e)) (is_directory_at d e) (ap not (not_at path d e n (directory-live d e t).1)) t) es) l

    one : (e : Entry) → ((is_live e && is_below path e.path) ≡ false) × (is_live e ≡ true → DirectoriesLive es e.path) → is_live e ≡ true
        → DirectoriesLive (only (λ e. not (live_at path e)) es) e.path
    one e q a = all-weaken _ _ (λ d r. stays d r.0 r.1) (leading e.path) (all-and _ _ (leading e.path) (not-above path e q.0 a) (q.1 a))
