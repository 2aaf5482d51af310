-- The code's answers in the rules' words.
use Rattle.std.specs.Prelude.{ℕ, ◌<◌, ◌≡◌, refl, Bool, true, false, ◌&&◌, ◌||◌, List, [], ◌∷◌, ◌⊎◌, drop, eqb, Option as Maybe, None, Some, option_map, is_some as is_found}
use Rattle.std.proofs.Math.Path.{sym, ap}
use Rattle.std.proofs.Common.{◌∙◌, arith}
use Rattle.std.proofs.Math.Option.{Option, none, some}
use Rattle.rules.specs.Lists.{pick, any, is_some, only, first, eq_list}
use Rattle.rules.specs.Lists.Laws.{first-chosen, first-unchosen}
use Rattle.rules.specs.Paths.Laws.{any-first}
use Rattle.rules.specs.Editions.{Edition}
use Rattle.rules.specs.SuperBlock.{Geometry}
use Rattle.rules.specs.Names.{slash, is_below}
use Rattle.rules.specs.Index.{Entry, run_type, stale_type, name_field, slot_at}
use Rattle.rules.specs.Comparing.{looked, search_looked}
use Rattle.editions.specs.View.{edition_view}
use Rattle.editions.specs.declared.Edition.{Edition as Held}
use Rattle.slots.specs.declared.Head.{Head}
use Rattle.slots.specs.declared.Spot.{Spot}
use Rattle.slots.specs.View.{head_view, spot_view, HeadIn}
use Rattle.index.specs.declared.Cursor.{Cursor}
use Rattle.index.specs.View.{Behind}
use Rattle.index.specs.Steps.{Walks, entries_from}
use Rattle.paths.specs.declared.Sought.{Sought}

-- ---- what is looked for
unfoldable pub sought_kind : Sought → ℕ → Bool
sought_kind what t = eqb t what.one || eqb t what.other

-- what a path is to the one that is looked for, by the byte behind it: the same, or below it
unfoldable pub reaches : ℕ → List ℕ → List ℕ → Bool
reaches end p q = pick (eqb end 0) (eq_list q p) (is_below p q)

unfoldable pub passes : Sought → List ℕ → Entry → Bool
passes what p e = sought_kind what e.kind && reaches what.end p e.path

-- whose names are compared with the path
unfoldable pub compares : Sought → Entry → Bool
compares what e = sought_kind what e.kind

-- a type of runs that are entries
abbrev pub StartsRun : Edition → ℕ → Type 0
StartsRun ed t = (run_type t ≡ true) × (stale_type ed t ≡ false)

-- only runs are looked for that are entries of the edition, by a path or by one that they lie below
pub record OfRuns (ed : Edition) (what : Sought) : Type 0 where
  pub one : StartsRun ed what.one
  pub other : StartsRun ed what.other
  pub end : (what.end ≡ 0) ⊎ (what.end ≡ slash)

-- the name of the run at a spot, by all its bytes, and how many of them are looked at
abbrev pub name_of : List ℕ → Spot → List ℕ
name_of s e = name_field (edition_view e.edition) (drop e.at.0 s)

unfoldable pub spot_looked : List ℕ → Spot → Sought → List ℕ → ℕ
spot_looked s e what p = pick (compares what (spot_view s e)) (looked (name_of s e) p) 0

-- what a search from a cursor looks at is the rules' sum over the entries that it meets; the cursor is of its edition
-- and stands where its slot lies
abbrev pub LookedFrom : List ℕ → Cursor → (Entry → Bool) → (Entry → Bool) → List ℕ → ℕ → Type 0
LookedFrom s c sought passing p n = (g : Geometry) → edition_view c.edition ≡ g.edition → c.at.0 ≡ slot_at s g c.slot.0 → n ≡ search_looked s g sought passing p (entries_from s c)

-- ---- what was found
unfoldable pub search_view : List ℕ → Maybe Head → Option Entry
search_view s None = none
search_view s (Some h) = some (head_view s h)

-- an entry that was found lies in the image
unfoldable pub Lies : List ℕ → Maybe Head → Type 0
Lies s None = Unit {0}
Lies s (Some h) = HeadIn s h

pub record Searched (s : List ℕ) (o : Option Entry) (r : Maybe Head) : Type 0 where
  pub view : search_view s r ≡ o
  pub lies : Lies s r

pub searched-none : (s : List ℕ) (o : Option Entry) → o ≡ none → Searched s o None
unfolding search_view Lies
searched-none s o e = record { view = sym e; lies = tt }

pub searched-some : (s : List ℕ) (o : Option Entry) (h : Head) → o ≡ some (head_view s h) → HeadIn s h → Searched s o (Some h)
unfolding search_view Lies
searched-some s o h e i = record { view = sym e; lies = i }

-- what an answer says, by what it is
module _ (s : List ℕ) (o : Option Entry) (r : Maybe Head) (told : Searched s o r) where
  pub searched-nothing : r ≡ None → o ≡ none
  unfolding search_view
  searched-nothing e = sym told.view ∙ ap (search_view s) e

  pub searched-entry : (h : Head) → r ≡ Some h → (o ≡ some (head_view s h)) × HeadIn s h
  unfolding search_view Lies
  searched-entry h e = (sym told.view ∙ ap (search_view s) e, rw e at told.lies)

pub searched-found : (s : List ℕ) (o : Option Entry) (r : Maybe Head) → Searched s o r → is_found r ≡ is_some o
unfolding search_view is_some
searched-found s o None told = ap is_some told.view
searched-found s o (Some h) told = ap is_some told.view

-- and is of the edition that the search goes by
unfoldable pub FoundOf : Held → Maybe Head → Type 0
FoundOf ed None = Unit {0}
FoundOf ed (Some h) = h.edition ≡ ed

pub none_of : (ed : Held) → FoundOf ed None
unfolding FoundOf
none_of ed = tt

pub some_of : (ed : Held) (h : Head) → h.edition ≡ ed → FoundOf ed (Some h)
unfolding FoundOf
some_of ed h e = e

pub found_of : (ed : Held) (r : Maybe Head) → FoundOf ed r → (h : Head) → r ≡ Some h → h.edition ≡ ed
unfolding FoundOf
found_of ed r told h e = rw e at told

-- ---- the same, and what lies behind it
pub record HitAt (s : List ℕ) (p : Entry → Bool) (es : List Entry) (h : Head) (rest : Cursor) : Type 0 where
  pub chosen : only p es ≡ head_view s h ∷ only p (entries_from s rest)
  pub head : HeadIn s h
  pub walks : Walks s rest
  pub passed : h.slot.0 < rest.slot.0

unfoldable pub Hits : List ℕ → (Entry → Bool) → List Entry → Maybe (Head × Cursor) → Type 0
Hits s p es None = only p es ≡ []
Hits s p es (Some (h, rest)) = HitAt s p es h rest

module _ (s : List ℕ) (p : Entry → Bool) (es : List Entry) where
  pub hits-none : only p es ≡ [] → Hits s p es None
  unfolding Hits
  hits-none e = e

  pub hits-some : (h : Head) (rest : Cursor) → HitAt s p es h rest → Hits s p es (Some (h, rest))
  unfolding Hits
  hits-some h rest k = k

  -- an entry by where it stands, and its numbers as they were read
  pub hits-read : (x : Entry) (h : Head) (rest : Cursor) → only p es ≡ x ∷ only p (entries_from s rest) → x ≡ head_view s h → HeadIn s h → Walks s rest → x.slot < rest.slot.0 → Hits s p es (Some (h, rest))
  unfolding head_view
  hits-read x h rest e same i w l = hits-some h rest (record {
    chosen = e ∙ ap (λ y. y ∷ only p (entries_from s rest)) same;
    head = i;
    walks = w;
    passed = omega (arith, l, ap (λ (y : Entry). y.slot) same);
  })

  module _ (r : Maybe (Head × Cursor)) (told : Hits s p es r) where
    pub hit-none : r ≡ None → only p es ≡ []
    unfolding Hits
    hit-none e = rw e at told

    pub hit-nothing : r ≡ None → first p es ≡ none
    hit-nothing e = first-unchosen p es (hit-none e)

    pub hit-entry : (h : Head) (rest : Cursor) → r ≡ Some (h, rest) → HitAt s p es h rest
    unfolding Hits
    hit-entry h rest e = rw e at told

  pub hit-first : (h : Head) (rest : Cursor) → HitAt s p es h rest → first p es ≡ some (head_view s h)
  hit-first h rest k = first-chosen p es (head_view s h) (only p (entries_from s rest)) k.chosen

-- it is of the walk's edition, and the walk goes on behind it
unfoldable pub HitOf : Cursor → Maybe (Head × Cursor) → Type 0
HitOf c None = Unit {0}
HitOf c (Some (h, rest)) = (h.edition ≡ c.edition) × Behind c rest

pub no-hit-of : (c : Cursor) → HitOf c None
unfolding HitOf
no-hit-of c = tt

pub some-hit-of : (c : Cursor) (h : Head) (rest : Cursor) → h.edition ≡ c.edition → Behind c rest → HitOf c (Some (h, rest))
unfolding HitOf
some-hit-of c h rest e b = (e, b)

pub hit-of : (c : Cursor) (r : Maybe (Head × Cursor)) → HitOf c r → (h : Head) (rest : Cursor) → r ≡ Some (h, rest) → (h.edition ≡ c.edition) × Behind c rest
unfolding HitOf
hit-of c r told h rest e = rw e at told

-- ---- the entry of a hit is what a search finds
abbrev pub entry_of : Maybe (Head × Cursor) → Maybe Head
entry_of r = option_map (λ x. x.0) r

pub hit-searched : (s : List ℕ) (p : Entry → Bool) (es : List Entry) (r : Maybe (Head × Cursor)) → Hits s p es r → Searched s (first p es) (entry_of r)
hit-searched s p es None told = searched-none _ _ (hit-nothing s p es None told refl)
hit-searched s p es (Some (h, rest)) told =
    let k = hit-entry s p es (Some (h, rest)) told h rest refl in
    searched-some _ _ _ (hit-first s p es h rest k) k.head

pub hit-any : (s : List ℕ) (p : Entry → Bool) (es : List Entry) (r : Maybe (Head × Cursor)) → Hits s p es r → is_found r ≡ any p es
hit-any s p es None told = searched-found s (first p es) None (hit-searched s p es None told) ∙ sym (any-first p es)
hit-any s p es (Some m) told = searched-found s (first p es) (Some m.0) (hit-searched s p es (Some m) told) ∙ sym (any-first p es)

pub found-of-hit : (c : Cursor) (r : Maybe (Head × Cursor)) → HitOf c r → FoundOf c.edition (entry_of r)
unfolding HitOf FoundOf
found-of-hit c None told = tt
found-of-hit c (Some m) told = told.0
