-- What leaves the image as it was: the calls that read, and every refusal. Assumes nothing.
use Prim.Native.Nat.{ℕ}
use mathlib.Core.Path.{◌≡◌, refl}
use mathlib.Core.Bool.{Bool, true, false}
use mathlib.Core.List.{List}
use mathlib.Core.Option.{Option, none, some}
use lib.Dec.{eqb}
use lib.IntN.{ℤ}
use borrow.Author.Tests.{eqb-false}
use Rattle.rules.specs.Editions.{Edition}
use Rattle.rules.specs.Paths.{next_live}
use Rattle.rules.specs.Index.{Entry}
use Rattle.rules.specs.Refusals.{Verdict, refused, accepted, need, need_found, and_then, Volume, entries}
use Rattle.rules.specs.Outcome.{Outcome, done, conclude, on_volume}
use Rattle.rules.specs.Reading.{open_of, find_of, read_of, listed, list_of}
use Rattle.rules.specs.Records.{records_outcome, list_all_of}
use Rattle.rules.specs.Writing.{New, format_of, create_of, on_deletable, wiped, delete_of, deleted, delete_keep_of, restore_of, reclaim_of}

-- what holds of the outcome, where there is one
Each : {A : Type 0} → (A → Type 0) → Verdict A → Type 0
Each P (refused n) = Unit {0}
Each P (accepted a) = P a

module _ {A : Type 0} (P : A → Type 0) where
  each-accepted : (a : A) → P a → Each P (accepted a)
  unfolding Each
  each-accepted a h = h

  each-need : (b : Bool) (n : ℕ) (d : Verdict A) → Each P d → Each P (need b n d)
  unfolding Each need
  each-need true n d h = h
  each-need false n d h = tt

  each-found : {B : Type 0} (o : Option B) (n : ℕ) (next : B → Verdict A) → ((x : B) → Each P (next x)) → Each P (need_found o n next)
  unfolding Each need_found
  each-found none n next h = tt
  each-found (some x) n next h = h x

  each-then : {B : Type 0} (d : Verdict B) (next : B → Verdict A) → ((x : B) → Each P (next x)) → Each P (and_then d next)
  unfolding Each and_then
  each-then (refused n) next h = tt
  each-then (accepted x) next h = h x

-- ---- the calls that read
abbrev Same : {A : Type 0} → List ℕ → Outcome A → Type 0
Same s o = o.image ≡ s

same-image : {A : Type 0} (zeros : A) (s out : List ℕ) (d : Verdict (Outcome A)) → Each (Same s) d → (conclude zeros s out d).image ≡ s
unfolding Each conclude
same-image zeros s out (refused n) h = refl
same-image zeros s out (accepted o) h = h

pub open-image : (s out : List ℕ) → (open_of s out).image ≡ s
unfolding open_of on_volume done
open-image s out =
    same-image _ s out _ (each-then (Same s) _ _ (λ v. each-need (Same s) _ _ _ (each-accepted (Same s) _ refl)))

pub find-image : (s path : List ℕ) → (find_of s path).image ≡ s
unfolding find_of on_volume done
find-image s path =
    same-image _ s _ _
    (each-then (Same s) _ _ (λ v. each-need (Same s) _ _ _ (each-found (Same s) _ _ _ (λ e. each-accepted (Same s) _ refl))))

pub read-image : (s path out : List ℕ) → (read_of s path out).image ≡ s
unfolding read_of on_volume done
read-image s path out =
    same-image _ s out _
    (each-then (Same s) _ _ (λ v.
    each-need (Same s) _ _ _
    (each-found (Same s) _ _ _ (λ e.
    each-need (Same s) _ _ _ (each-need (Same s) _ _ _ (each-accepted (Same s) _ refl))))))

pub list-image : (s : List ℕ) (slot : ℕ) (out : List ℕ) → (list_of s slot out).image ≡ s
unfolding list_of on_volume listed done
list-image s slot out = same-image _ s out _ (each-then (Same s) _ _ (λ v. by v.geometry.edition (next_live slot (entries v))))
  where
    by : (ed : Edition) (o : Option _) → Each (Same s) (listed ed s out o)
    by ed none = each-accepted (Same s) _ refl
    by ed (some e) = each-need (Same s) _ _ _ (each-accepted (Same s) _ refl)

pub list-all-image : (s : List ℕ) (slot : ℕ) (out : List ℕ) → (list_all_of s slot out).image ≡ s
unfolding list_all_of records_outcome done
list-all-image s slot out = same-image _ s out _ (each-need (Same s) _ _ _ (each-accepted (Same s) _ refl))

-- ---- the calls that write
abbrev Zero : {A : Type 0} → Outcome A → Type 0
Zero o = o.refusal ≡ 0

-- a number other than 0 is a refusal
refused-image : {A : Type 0} (zeros : A) (s out : List ℕ) (d : Verdict (Outcome A)) → Each Zero d
    → eqb (conclude zeros s out d).refusal 0 ≡ false → (conclude zeros s out d).image ≡ s
unfolding Each conclude
refused-image zeros s out (refused n) h e = refl
refused-image zeros s out (accepted o) h e = absurd (eqb-false o.refusal 0 e h)

pub format-refused : (s : List ℕ) (version bytes_per_block reserved : ℕ) (name : List ℕ) (stamp : ℤ)
    → eqb (format_of s version bytes_per_block reserved name stamp).refusal 0 ≡ false
    → (format_of s version bytes_per_block reserved name stamp).image ≡ s
unfolding format_of done
format-refused s version bytes_per_block reserved name stamp =
    refused-image _ s _ _
    (each-need Zero _ _ _
    (each-need Zero _ _ _
    (each-found Zero _ _ _ (λ b.
    each-need Zero _ _ _ (each-need Zero _ _ _ (each-accepted Zero _ refl))))))

pub create-refused : (s : List ℕ) (new : New) (path : List ℕ) (stamp : ℤ)
    → eqb (create_of s new path stamp).refusal 0 ≡ false → (create_of s new path stamp).image ≡ s
unfolding create_of on_volume done
create-refused s new path stamp =
    refused-image _ s _ _
    (each-then Zero _ _ (λ v.
    each-need Zero _ _ _
    (each-need Zero _ _ _
    (each-need Zero _ _ _
    (each-need Zero _ _ _
    (each-found Zero _ _ _ (λ p. each-found Zero _ _ _ (λ start. each-accepted Zero _ refl))))))))

-- both deletes, whatever they write
deletable-image : (s path : List ℕ) (write : List ℕ → Volume → Entry → List ℕ)
    → eqb (on_deletable s path write).refusal 0 ≡ false → (on_deletable s path write).image ≡ s
unfolding on_deletable on_volume done
deletable-image s path write =
    refused-image _ s _ _
    (each-then Zero _ _ (λ v.
    each-need Zero _ _ _
    (each-need Zero _ _ _
    (each-found Zero _ _ _ (λ e. each-need Zero _ _ _ (each-accepted Zero _ refl))))))

pub delete-refused : (s path : List ℕ) (stamp : ℤ)
    → eqb (delete_of s path stamp).refusal 0 ≡ false → (delete_of s path stamp).image ≡ s
unfolding delete_of
delete-refused s path stamp = deletable-image s path (wiped path stamp)

pub delete-keep-refused : (s path : List ℕ) (stamp : ℤ)
    → eqb (delete_keep_of s path stamp).refusal 0 ≡ false → (delete_keep_of s path stamp).image ≡ s
unfolding delete_keep_of
delete-keep-refused s path stamp = deletable-image s path (deleted stamp)

pub restore-refused : (s path : List ℕ) (stamp : ℤ)
    → eqb (restore_of s path stamp).refusal 0 ≡ false → (restore_of s path stamp).image ≡ s
unfolding restore_of on_volume done
restore-refused s path stamp =
    refused-image _ s _ _
    (each-then Zero _ _ (λ v.
    each-need Zero _ _ _
    (each-need Zero _ _ _
    (each-found Zero _ _ _ (λ e.
    each-need Zero _ _ _ (each-need Zero _ _ _ (each-need Zero _ _ _ (each-accepted Zero _ refl))))))))

pub reclaim-refused : (s : List ℕ) (stamp : ℤ)
    → eqb (reclaim_of s stamp).refusal 0 ≡ false → (reclaim_of s stamp).image ≡ s
unfolding reclaim_of on_volume done
reclaim-refused s stamp =
    refused-image _ s _ _ (each-then Zero _ _ (λ v. each-need Zero _ _ _ (each-accepted Zero _ refl)))
