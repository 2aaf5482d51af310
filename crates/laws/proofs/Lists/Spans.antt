-- A write and what it leaves: two lists of one length that are the same but from one place up to another. Assumes nothing.
-- Every law about a call's writes is one of these spans: the sizes, the marker, a run, the blocks of a region.
use Prim.Native.Nat.{ℕ, ◌+◌, ◌-◌, ◌≤◌, ◌<◌}
use mathlib.Core.Path.{◌≡◌, refl, sym, ap, ◌∙◌}
use mathlib.Core.List.{List, ◌++◌, append_assoc}
use mathlib.Core.Logic.{◌⊎◌, inl, inr}
use native.Mathlib.Omega.{arith}
use lib.ListN.{length, take, drop, length-drop}
use lib.Seq.{take_at, drop_at, take-take, drop-drop, take-add, take_all, drop-append-add, length-take-le}
use Rattle.rules.specs.Lists.{part}
use Rattle.rules.specs.Lists.Laws.{drop-take}
use Rattle.rules.specs.Fields.{byte_at, splice}
use Rattle.rules.specs.Fields.Laws.{length-splice}
use Rattle.rules.specs.Index.Frame.{byte-same, take_same}
use Rattle.rules.specs.Index.Items.{type-drop}

-- ---- what was written, from the front and from behind
module _ (s : List ℕ) (at : ℕ) (bs : List ℕ) (h : at ≤ length s) where
  pub take-splice : take at (splice s at bs) ≡ take at s
  unfolding splice
  take-splice = take_at (take at s) (bs ++ drop (at + length bs) s) at (length-take-le at s h)

  pub take-splice-before : (n : ℕ) → n ≤ at → take n (splice s at bs) ≡ take n s
  take-splice-before n l = sym (take-take n at (splice s at bs) l) ∙ ap (take n) take-splice ∙ take-take n at s l

  pub drop-splice : drop at (splice s at bs) ≡ bs ++ drop (at + length bs) s
  unfolding splice
  drop-splice = drop_at (take at s) (bs ++ drop (at + length bs) s) at (length-take-le at s h)

  pub drop-splice-after : (n : ℕ) → at + length bs ≤ n → drop n (splice s at bs) ≡ drop n s
  drop-splice-after n l =
      let r : ℕ = n - (at + length bs) in
      let e₁ : n ≡ at + (length bs + r) = omega arith in
      let e₂ : at + length bs + r ≡ n = omega arith in
      ap (λ (j : ℕ). drop j (splice s at bs)) e₁
      ∙ sym (drop-drop (length bs + r) at (splice s at bs))
      ∙ ap (drop (length bs + r)) drop-splice
      ∙ drop-append-add bs (drop (at + length bs) s) r
      ∙ drop-drop r (at + length bs) s
      ∙ ap (λ (j : ℕ). drop j s) e₂

-- a part's writing is the whole's, further on
pub drop-splice-part : (n : ℕ) (s : List ℕ) (at : ℕ) (bs : List ℕ) → n ≤ length s → drop n (splice s (n + at) bs) ≡ splice (drop n s) at bs
unfolding splice
drop-splice-part n s at bs h =
    let r : List ℕ = bs ++ drop (n + at + length bs) s in
    let e : n + at + length bs ≡ n + (at + length bs) = omega arith in
    ap (λ (xs : List ℕ). drop n (xs ++ r)) (take-add n at s)
    ∙ ap (drop n) (append_assoc (take n s) (take at (drop n s)) r)
    ∙ drop_at (take n s) (take at (drop n s) ++ r) n (length-take-le n s h)
    ∙ ap (λ (xs : List ℕ). take at (drop n s) ++ (bs ++ xs)) (ap (λ (j : ℕ). drop j s) e ∙ sym (drop-drop (at + length bs) n s))

-- ---- alike from a place on
module _ (s t : List ℕ) (at : ℕ) (same : drop at t ≡ drop at s) where
  pub drop-from : (p : ℕ) → at ≤ p → drop p t ≡ drop p s
  drop-from p h =
      let e : at + (p - at) ≡ p = omega arith in
      rw (← e) (sym (drop-drop (p - at) at t) ∙ ap (drop (p - at)) same ∙ drop-drop (p - at) at s)

  pub part-from : (p n : ℕ) → at ≤ p → part t p n ≡ part s p n
  unfolding part
  part-from p n h = ap (take n) (drop-from p h)

  pub byte-from : (p : ℕ) → at ≤ p → byte_at t p ≡ byte_at s p
  unfolding byte_at
  byte-from p h = sym (type-drop t p) ∙ ap (λ (x : List ℕ). byte_at x 0) (drop-from p h) ∙ type-drop s p

-- ---- alike but from a up to b
pub record SameBut (a b : ℕ) (s t : List ℕ) : Type 0 where
  pub long : length t ≡ length s
  pub front : take a t ≡ take a s
  pub back : drop b t ≡ drop b s

pub but-none : (a b : ℕ) (s : List ℕ) → SameBut a b s s
but-none a b s = record { long = refl; front = refl; back = refl }

pub but-splice : (s : List ℕ) (at : ℕ) (bs : List ℕ) → at + length bs ≤ length s → SameBut at (at + length bs) s (splice s at bs)
but-splice s at bs h = record {
  long = length-splice s at bs h;
  front = take-splice-before s at bs (omega arith) at (omega arith);
  back = drop-splice-after s at bs (omega arith) (at + length bs) (omega arith);
}

-- by its parts
pub but-parts : (a b : ℕ) (s t : List ℕ) → length t ≡ length s → ((p n : ℕ) → p + n ≤ a → part t p n ≡ part s p n) → ((p n : ℕ) → b ≤ p → part t p n ≡ part s p n)
    → SameBut a b s t
unfolding part
but-parts a b s t long before behind = record {
  long = long;
  front = before 0 a (omega arith);
  back =
      let n : ℕ = length s in
      let whole : (x : List ℕ) → length x ≡ n → take n (drop b x) ≡ drop b x = λ x l. take_all n (drop b x) (omega (arith, length-drop b x)) in
      sym (whole t long) ∙ behind b n (omega arith) ∙ whole s refl;
}

module _ {a b : ℕ} {s t : List ℕ} (k : SameBut a b s t) where
  pub but-wider : (c d : ℕ) → c ≤ a → b ≤ d → SameBut c d s t
  but-wider c d l h = record { long = k.long; front = take_same a t s k.front c l; back = drop-from s t b k.back d h }

  -- what lies beside it
  pub but-part : (p n : ℕ) → (p + n ≤ a) ⊎ (b ≤ p) → part t p n ≡ part s p n
  unfolding part
  but-part p n (inl h) = sym (drop-take p n t) ∙ ap (drop p) (take_same a t s k.front (p + n) h) ∙ drop-take p n s
  but-part p n (inr h) = part-from s t b k.back p n h

  pub but-byte : (p : ℕ) → (p < a) ⊎ (b ≤ p) → byte_at t p ≡ byte_at s p
  but-byte p (inl h) = byte-same a t s k.front p h
  but-byte p (inr h) = byte-from s t b k.back p h

  pub but-drop : (p : ℕ) → b ≤ p → drop p t ≡ drop p s
  but-drop p h = drop-from s t b k.back p h

  -- one write after the other
  pub but-then : {u : List ℕ} → SameBut a b t u → SameBut a b s u
  but-then j = record { long = j.long ∙ k.long; front = j.front ∙ k.front; back = j.back ∙ k.back }
