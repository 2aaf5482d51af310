-- A search, taken an entry further: what it finds, and what it looks at on the way.
use Rattle.std.specs.Prelude.{ℕ, ◌+◌, ◌*◌, ◌^◌, ◌≤◌, ◌<◌, ◌≡◌, Bool, List, [], drop, Option, None, Some}
use Rattle.std.proofs.Math.Path.{refl, sym}
use Rattle.std.proofs.Common.{ap, ap₂, ◌∙◌, arith, zero-add, add-zero}
use Rattle.std.proofs.Math.Bool.{true, false}
use Rattle.rules.specs.Lists.{pick, only}
use Rattle.rules.specs.Lists.Laws.{pick_true, pick-false, and-true}
use Rattle.rules.specs.Editions.{Edition}
use Rattle.rules.specs.SuperBlock.{Geometry}
use Rattle.rules.specs.Index.{name_field, slot_at}
use Rattle.rules.specs.Index.Items.{head_of, entry_type}
use Rattle.rules.specs.Comparing.{looked, name_in, entry_looked, search_looked}
use Rattle.rules.specs.Comparing.Laws.{looked-most, looked-end, looked-stop, looked-next}
use Rattle.editions.specs.View.{edition_view}
use Rattle.slots.specs.declared.Head.{Head}
use Rattle.slots.specs.declared.Spot.{Spot}
use Rattle.slots.specs.View.{head_view, spot_view, SpotIn, name-short, head-spot}
use Rattle.index.specs.declared.Cursor.{Cursor}
use Rattle.index.specs.declared.Ahead.{Ahead}
use Rattle.index.specs.View.{Behind, behind-itself, behind-on}
use Rattle.index.specs.Steps.{Walks, entries_from, Arrives, Onward, behind-onward, behind-arrives, arrives-before}
use Rattle.paths.specs.declared.Sought.{Sought}
use Rattle.paths.specs.declared.Way.{Way}
use Rattle.paths.specs.declared.Way.TheVariants.{On, At}
use Rattle.paths.specs.View.{sought_kind, passes, compares, OfRuns, name_of, spot_looked, LookedFrom, Hits, hits-none, hits-read, HitOf, no-hit-of, some-hit-of}
use Rattle.paths.specs.Entries.{only_end, only-stop, only_next, compared-run, sought-entry, unsought}

-- ---- one entry
-- no name has more than 16,384 bytes, and one of them may be looked at twice
pub spot-few : (s : List ℕ) (e : Spot) (what : Sought) (p : List ℕ) (ed : Edition) → OfRuns ed what → SpotIn s e → spot_looked s e what p ≤ 16_385
unfolding spot_looked
spot-few s e what p ed of here = by (compares what (spot_view s e)) refl
  where
    by : (t : Bool) → compares what (spot_view s e) ≡ t → pick t (looked (name_of s e) p) 0 ≤ 16_385
    by true c = omega (arith, pick_true (looked (name_of s e) p) 0 refl, looked-most (name_of s e) p, name-short _ s _ _ _ here (compared-run s p e what ed of c))
    by false c = omega (arith, pick-false (looked (name_of s e) p) 0 refl)

-- a spot of the edition at its slot's place is looked at as the rules' entry is
spot-entry : (s : List ℕ) (g : Geometry) (e : Spot) (what : Sought) (p : List ℕ) → edition_view e.edition ≡ g.edition → e.at.0 ≡ slot_at s g e.slot.0
    → entry_looked s g (compares what) p (spot_view s e) ≡ spot_looked s e what p
unfolding entry_looked spot_looked name_in spot_view
spot-entry s g e what p of q = ap₂ (λ (ed : Edition) (at : ℕ). pick (compares what (spot_view s e)) (looked (name_field ed (drop at s)) p) 0) (sym of) (sym q)

-- as many at most as the slots passed allow: no image has more than 262,144
abbrev pub FewLooked : Cursor → ℕ → Type 0
FewLooked d n = n + 16_385 * d.left ≤ 16_385 * 262_144

-- ---- a search from c that has come to d and looked at n bytes
module _ (s : List ℕ) (what : Sought) (p : List ℕ) (c : Cursor) where
  abbrev looked_from : Geometry → Cursor → ℕ
  looked_from g d = search_looked s g (compares what) (passes what p) p (entries_from s d)

  -- what it comes to
  abbrev pub Comes : Option (Head × Cursor) → ℕ → Type 0
  Comes r n = Hits s (passes what p) (entries_from s c) r × (LookedFrom s c (compares what) (passes what p) p n × HitOf c r)

  pub record Going (d : Cursor) (n : ℕ) : Type 0 where
    pub behind : Behind c d
    pub walks : Walks s d
    pub chosen : only (passes what p) (entries_from s d) ≡ only (passes what p) (entries_from s c)
    pub count : (g : Geometry) → edition_view c.edition ≡ g.edition → c.at.0 ≡ slot_at s g c.slot.0 → n + looked_from g d ≡ looked_from g c
    pub few : FewLooked d n

  pub going-first : Walks s c → Going c 0
  going-first w = record {
    behind = behind-itself c;
    walks = w;
    chosen = refl;
    count = λ g o e. zero-add _;
    few = omega (arith, w.inside.fits, w.inside.short);
  }

  module _ (d : Cursor) (n : ℕ) (going : Going d n) where
    pub going_end : entries_from s d ≡ [] → Comes None n
    going_end z = (
      hits-none _ _ _ (sym going.chosen ∙ only_end _ _ z),
      (λ g o e. sym (add-zero n) ∙ ap (λ (k : ℕ). n + k) (sym (looked-end s g _ _ p _ z)) ∙ going.count g o e, no-hit-of c),
    )

    -- an unused slot
    pub going-skip : (d' : Cursor) → Behind d d' → entries_from s d' ≡ entries_from s d → Walks s d' → d'.left < d.left → (m : ℕ) → m ≡ 0 → Going d' (n + m)
    going-skip d' b e w l m z = record {
      behind = behind-on c d d' going.behind b;
      walks = w;
      chosen = ap (only (passes what p)) e ∙ going.chosen;
      count = λ g o h. rw (e, z, add-zero n) (going.count g o h);
      few = omega (arith, going.few, l, z);
    }

    module _ (ed : Edition) (of : OfRuns ed what) (e : Spot) (d' : Cursor) (step : Arrives s d e d') (m : ℕ) (tried : m ≡ spot_looked s e what p) where
      here : (g : Geometry) → edition_view c.edition ≡ g.edition → c.at.0 ≡ slot_at s g c.slot.0 → entry_looked s g (compares what) p (spot_view s e) ≡ m
      unfolding slot_at
      here g o q = spot-entry s g e what p (ap edition_view (step.of ∙ going.behind.edition) ∙ o) (omega (arith, q, going.behind.place, step.place)) ∙ sym tried

      pub going-room : n + m < 2 ^ 64
      going-room = omega (arith, going.few, tried, spot-few s e what p ed of step.spot)

      pub going-found : passes what p (spot_view s e) ≡ true → (h : Head) → head_view s h ≡ head_of (edition_view e.edition) e.slot.0 (drop e.at.0 s) → h.edition ≡ e.edition → h.at.0 ≡ e.at.0 → Comes (Some (h, d')) (n + m)
      going-found t h view own place =
          let same : spot_view s e ≡ head_view s h = step.view ∙ sym view in (
            hits-read _ _ _ (spot_view s e) h d' (sym going.chosen ∙ only-stop _ _ _ _ step.entries t) same (head-spot s e h same own place step.spot) step.walks (arrives-before s d d' e step),
            (
              λ g o q. ap (λ (k : ℕ). n + k) (sym (looked-stop s g _ _ p _ _ _ step.entries t ∙ here g o q)) ∙ going.count g o q,
              some-hit-of c h d' (own ∙ step.of ∙ going.behind.edition) (behind-on c d d' going.behind (behind-arrives s d d' e step)),
            ),
          )

      pub going_next : passes what p (spot_view s e) ≡ false → Going d' (n + m)
      going_next t = record {
        behind = behind-on c d d' going.behind (behind-arrives s d d' e step);
        walks = step.walks;
        chosen = only_next _ _ _ _ step.entries t ∙ going.chosen;
        count = λ g o q.
            let next : looked_from g d ≡ entry_looked s g (compares what) p (spot_view s e) + looked_from g d' = looked-next s g _ _ p _ _ _ step.entries t in
            omega (arith, next, here g o q, going.count g o q);
        few = omega (arith, going.few, step.less, tried, spot-few s e what p ed of step.spot);
      }

-- ---- a search that had come to d with n bytes has come to d' with n' then, wherever it began
pub record Over (s : List ℕ) (what : Sought) (p : List ℕ) (d : Cursor) (n : ℕ) (d' : Cursor) (n' : ℕ) : Type 0 where
  pub behind : Behind d d'
  pub walks : Walks s d'
  pub few : FewLooked d' n'
  pub onward : d'.left ≤ d.left
  pub going : (c : Cursor) → Going s what p c d n → Going s what p c d' n'

module _ (s : List ℕ) (what : Sought) (p : List ℕ) (d : Cursor) (n : ℕ) where
  pub over_none : Walks s d → FewLooked d n → Over s what p d n d n
  over_none w f = record { behind = behind-itself d; walks = w; few = f; onward = omega arith; going = λ c g. g }

  -- what is sought are entries of the spot's edition
  pub over_runs : OfRuns (edition_view d.edition) what → (d' : Cursor) (n' : ℕ) → Over s what p d n d' n' → (e : Spot) (d'' : Cursor) → Onward s d' e d'' → OfRuns (edition_view e.edition) what
  over_runs of d' n' over e d'' step = rw (step.of ∙ over.behind.edition) of

  module _ (of : OfRuns (edition_view d.edition) what) (d' : Cursor) (n' : ℕ) (over : Over s what p d n d' n') (e : Spot) (d'' : Cursor) (step : Onward s d' e d'') (m : ℕ) (tried : m ≡ spot_looked s e what p) where
    abbrev ed : Edition
    ed = edition_view e.edition

    runs : OfRuns ed what
    runs = over_runs of d' n' over e d'' step

    -- what is looked at of an entry, and of an unused slot
    by-slot : {A : Type 0} → (Arrives s d' e d'' → A) → (entries_from s d'' ≡ entries_from s d' → m ≡ 0 → A) → A
    unfolding spot_looked compares spot_view pick
    by-slot {A} f g = by (entry_type ed e.kind) refl
      where
        by : (t : Bool) → entry_type ed e.kind ≡ t → A
        by true u = f (step.entry u)
        by false u = g (step.unused u) (tried ∙ rw (unsought ed what e.kind runs u))

    few-more : m ≤ 16_385
    few-more = by-slot (λ r. omega (arith, tried, spot-few s e what p ed runs r.spot)) (λ x z. omega (arith, z))

    pub over-room : n' + m < 2 ^ 64
    over-room = omega (arith, over.few, few-more)

    pub over-next : passes what p (spot_view s e) ≡ false → Over s what p d n d'' (n' + m)
    over-next t = record {
      behind = behind-on d d' d'' over.behind (behind-onward s d' d'' e step);
      walks = step.walks;
      few = omega (arith, over.few, step.less, few-more);
      onward = omega (arith, over.onward, step.less);
      going = λ c g.
          by-slot (λ r. going_next s what p c d' n' (over.going c g) ed runs e d'' r m tried t)
          (λ x z. going-skip s what p c d' n' (over.going c g) d'' (behind-onward s d' d'' e step) x step.walks step.less m z);
    }

pub over-over : (s : List ℕ) (what : Sought) (p : List ℕ) (d : Cursor) (n : ℕ) (d' : Cursor) (n' : ℕ) (d'' : Cursor) (n'' : ℕ) → Over s what p d n d' n' → Over s what p d' n' d'' n''
    → Over s what p d n d'' n''
over-over s what p d n d' n' d'' n'' a b = record {
  behind = behind-on d d' d'' a.behind b.behind;
  walks = b.walks;
  few = b.few;
  onward = omega (arith, a.onward, b.onward);
  going = λ c g. b.going c (a.going c g);
}

-- ---- how far a search came
-- to the entry at a spot, which passes: whatever the search had come to before, with the numbers read it comes to that entry
pub record Strikes (s : List ℕ) (what : Sought) (p : List ℕ) (d : Cursor) (n : ℕ) (e : Spot) (rest : Cursor) (n' : ℕ) : Type 0 where
  pub spot : SpotIn s e
  pub comes : (c : Cursor) → Going s what p c d n → (h : Head) → head_view s h ≡ head_of (edition_view e.edition) e.slot.0 (drop e.at.0 s) → h.edition ≡ e.edition → h.at.0 ≡ e.at.0 → Comes s what p c (Some (h, rest)) n'

unfoldable pub Goes : List ℕ → Sought → List ℕ → Cursor → ℕ → Way → Type 0
Goes s what p d n (On d' n') = Over s what p d n d' n'
Goes s what p d n (At a n') = Strikes s what p d n a.here a.rest n'

unfoldable pub Ends : Way → Type 0
Ends (On d n) = d.left ≡ 0
Ends (At a n) = Unit {0}

module _ (s : List ℕ) (what : Sought) (p : List ℕ) (d : Cursor) (n : ℕ) (r : Way) (told : Goes s what p d n r) where
  pub goes_on : (d' : Cursor) (n' : ℕ) → r ≡ On d' n' → Over s what p d n d' n'
  unfolding Goes
  goes_on d' n' e = rw e at told

  pub goes_at : (a : Ahead) (n' : ℕ) → r ≡ At a n' → Strikes s what p d n a.here a.rest n'
  unfolding Goes
  goes_at a n' q = rw q at told

pub ends_on : (r : Way) → Ends r → (d : Cursor) (n : ℕ) → r ≡ On d n → d.left ≡ 0
unfolding Ends
ends_on r told d n e = rw e at told

-- the entry behind a step passes
pub strikes : (s : List ℕ) (what : Sought) (p : List ℕ) (d : Cursor) (n : ℕ) (of : OfRuns (edition_view d.edition) what) (d' : Cursor) (n' : ℕ) → Over s what p d n d' n' → (e : Spot) (rest : Cursor) → Onward s d' e rest
    → (m : ℕ) → m ≡ spot_looked s e what p → passes what p (spot_view s e) ≡ true → Strikes s what p d n e rest (n' + m)
unfolding passes spot_view
strikes s what p d n of d' n' over e rest step m tried t =
    let runs = over_runs s what p d n of d' n' over e rest step in
    let r = step.entry (sought-entry _ what e.kind runs (and-true (sought_kind what e.kind) _ t).0) in
    record {
      spot = r.spot;
      comes = λ c g h view own place. going-found s what p c d' n' (over.going c g) _ runs e rest r m tried t h view own place;
    }

pub strikes-over : (s : List ℕ) (what : Sought) (p : List ℕ) (d : Cursor) (n : ℕ) (d' : Cursor) (n' : ℕ) → Over s what p d n d' n' → (e : Spot) (rest : Cursor) (n'' : ℕ) → Strikes s what p d' n' e rest n''
    → Strikes s what p d n e rest n''
strikes-over s what p d n d' n' over e rest n'' k = record { spot = k.spot; comes = λ c g. k.comes c (over.going c g) }

-- a search that goes on from where another came to
pub goes-over : (s : List ℕ) (what : Sought) (p : List ℕ) (d : Cursor) (n : ℕ) (d' : Cursor) (n' : ℕ) → Over s what p d n d' n' → (r : Way) → Goes s what p d' n' r → Goes s what p d n r
unfolding Goes
goes-over s what p d n d' n' over (On d'' n'') told = over-over s what p d n d' n' d'' n'' over told
goes-over s what p d n d' n' over (At a n'') told = strikes-over s what p d n d' n' over a.here a.rest n'' told
