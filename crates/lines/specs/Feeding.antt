-- A line of which some was read: what is kept of it, and what feeding more comes to, whatever follows.
use Prim.Native.Nat.{ℕ, zero, suc, ◌+◌, ◌-◌, ◌≤◌, ◌<◌}
use Rattle.std.specs.Prelude.{◌≡◌, Bool, true, false, not, ◌||◌, length, get_or, take, drop, eqb, leb, min, Option, Some, None, IsSome, IsNone, IfSome, ◌==◌, position}
use Rattle.std.proofs.Math.Path.{refl, sym}
use Rattle.std.proofs.Common.{ap, ◌∙◌, add-one, append-nil, append_assoc, le_refl, arith, length-append, length-take, drop_of_length-le, take_all, drop-cons}
use mathlib.Core.List.{List, [], ◌∷◌, ◌++◌}
use Rattle.std.proofs.Math.Decide.{dec_le}
use Rattle.std.proofs.Math.Seq.{take-nil, take-length, take-append-add}
use Rattle.std.proofs.lemmas.List.{take-append-le, take_min, drop-drop}
use Rattle.std.proofs.lemmas.List.Quantifiers.{position-Some}
use Rattle.std.proofs.lemmas.List.Sums.{fails_before_first}
use Rattle.std.proofs.lemmas.Slice.{take-put_mid}
use Rattle.std.specs.List.{position_or_len, list_any}
use borrow.Rule.Slice.PartMut.{put_mid}
use borrow.Author.Tests.{eq-eqb, ne_eqb, le-leb, lt-leb, lt-ltb}
use Rattle.rules.specs.Lists.Laws.{clash, pick_true, pick-false, and_left, and_right}
use Rattle.rules.specs.Fields.{has_zero}
use Rattle.rules.specs.Report.{newline, lines_after, name_of_file}
use Rattle.lines.specs.declared.Fed.{Fed}

-- the names to come, of which so many may still be used
abbrev pub names_after : ℕ → List ℕ → List ℕ → List (List ℕ)
names_after left p bs = take left (lines_after p bs)

-- ---- a line is held in a buffer: n bytes of it, the first 256
pub record LineKept (p : List ℕ) (n : ℕ) (buffer : List ℕ) : Type 0 where
  pub count : n ≡ length (take 256 p)
  pub bytes : take n buffer ≡ take 256 p

pub holds-none : (buffer : List ℕ) → LineKept [] 0 buffer
holds-none buffer = record { count = refl; bytes = refl }

-- ---- more bytes
take-append : (n : ℕ) (xs ys : List ℕ) → take n (xs ++ ys) ≡ take n xs ++ take (n - length xs) ys
take-append n xs ys = by (dec_le n (length xs))
  where
    by : Dec (n ≤ length xs) → take n (xs ++ ys) ≡ take n xs ++ take (n - length xs) ys
    by (yes l) = rw (sub_none n (length xs) l, append-nil) (take-append-le n xs ys l)
      where
        sub_none : (a b : ℕ) → a ≤ b → a - b ≡ 0
        sub_none a b l = omega arith
    by (no l) = ap (λ k. take k (xs ++ ys)) (sym (past n (length xs) (omega arith))) ∙ take-append-add xs ys (n - length xs) ∙ ap (λ t. t ++ take (n - length xs) ys) (sym (take_all n xs (omega arith)))
      where
        past : (a b : ℕ) → b ≤ a → b + (a - b) ≡ a
        past a b l = omega arith

-- as many are kept as there is room for
module _ (p more : List ℕ) (n : ℕ) (buffer : List ℕ) (long : 256 ≡ length buffer) (h : LineKept p n buffer) where
  abbrev room : ℕ
  room = min (length more) (length buffer - n)

  pub kept-more : LineKept (p ++ more) (n + room) (put_mid n room buffer (take room more))
  kept-more =
      let count : n ≡ min 256 (length p) = h.count ∙ length-take 256 p in
      record {
        count = omega (arith, length-take 256 (p ++ more), length-append p more);
        bytes =
            take-put_mid n room buffer (take room more) (n + room) (omega (arith, length-take room more)) (omega arith)
            ∙ ap (λ t. t ++ take room more) h.bytes
            ∙ ap (λ t. take 256 p ++ t) (ap (λ k. take k more) {x = room} {y = min (256 - length p) (length more)} (omega arith) ∙ take_min (256 - length p) more)
            ∙ sym (take-append 256 p more);
      }

-- ---- feeding
-- the piece was used up: what follows goes on as before, with what was read of the line. Past the last line that is used nothing is read
pub record GoesOn (left : ℕ) (p bs : List ℕ) (n left' : ℕ) (buffer : List ℕ) : Type 0 where
  pub read : List ℕ
  pub holds : LineKept read n buffer
  pub same : (more : List ℕ) → names_after left p (bs ++ more) ≡ names_after left' read more

-- a line has ended before the rest of the piece: it is the first name, and the others follow
pub record Ended (left : ℕ) (p bs rest : List ℕ) (n left' : ℕ) (buffer : List ℕ) : Type 0 where
  pub line : List ℕ
  pub holds : LineKept line n buffer
  pub first : (more : List ℕ) → names_after left p (bs ++ more) ≡ line ∷ names_after left' [] (rest ++ more)

-- feeding a piece from a place on comes to one of the two
pub record FedTo (left : ℕ) (p piece : List ℕ) (from : ℕ) (r : Fed) (buffer : List ℕ) : Type 0 where
  pub ended : (k : ℕ) → r.line ≡ Some k → Ended left p (drop from piece) (drop r.at piece) k r.next.left buffer × (r.next.length ≡ 0)
  pub going : r.line ≡ None → GoesOn left p (drop from piece) r.next.length r.next.left buffer

-- how far it went in a piece of n bytes, and how many lines may be used then
pub record GoneOn (left from : ℕ) (r : Fed) (n : ℕ) : Type 0 where
  pub inside : r.at ≤ n
  pub ended : IsSome r.line → (from < r.at) × (r.next.left + 1 ≡ left)
  pub going : IsNone r.line → (r.at ≡ n) × (r.next.left ≡ left)
  pub few : IfSome r.line (λ k. k ≤ 256) × (r.next.length ≤ 256)

-- the two answers
pub record AllFed (at n left : ℕ) (r : Fed) : Type 0 where
  pub place : r.at ≡ at
  pub still : r.line ≡ None
  pub count : r.next.length ≡ n
  pub lines : r.next.left ≡ left

pub record LineEnded (at n left : ℕ) (r : Fed) : Type 0 where
  pub place : r.at ≡ at
  pub over : r.line ≡ Some n
  pub count : r.next.length ≡ 0
  pub lines : r.next.left ≡ left

-- ---- up to the first newline, and past it
abbrev pub newline_at : List ℕ → Option ℕ
newline_at bs = position (λ b. b == newline) bs

lines-byte : (q : List ℕ) (b : ℕ) (bs : List ℕ) → (b == newline) ≡ false → lines_after q (b ∷ bs) ≡ lines_after (q ++ (b ∷ [])) bs
unfolding lines_after
lines-byte q b bs d = pick-false _ _ d

lines_end : (q : List ℕ) (b : ℕ) (bs : List ℕ) → (b == newline) ≡ true → lines_after q (b ∷ bs) ≡ q ∷ lines_after [] bs
unfolding lines_after
lines_end q b bs e = pick_true _ _ e

drop_here : (s : List ℕ) (i : ℕ) → i < length s → drop i s ≡ get_or s i 0 ∷ drop (i + 1) s
drop_here s i h = rw (add-one i) (drop-cons s i 0 h)

drop_past : (s : List ℕ) (from i : ℕ) → drop (i + 1) (drop from s) ≡ drop (from + i + 1) s
drop_past s from i = drop-drop (i + 1) from s ∙ ap (λ k. drop k s) {x = from + (i + 1)} {y = from + i + 1} (omega arith)

-- the bytes of a part without newlines are read
lines-part : (q bs more : List ℕ) (i : ℕ) → i ≤ length bs → ((k : ℕ) → k < i → (get_or bs k 0 == newline) ≡ false) → lines_after q (bs ++ more) ≡ lines_after (q ++ take i bs) (drop i bs ++ more)
lines-part q bs more zero l d = rw (append-nil)
lines-part q [] more (suc i) l d = absurd (omega arith)
lines-part q (b ∷ bs) more (suc i) l d =
    lines-byte q b (bs ++ more) (d 0 (omega arith))
    ∙ lines-part (q ++ (b ∷ [])) bs more i (omega arith) (λ k m. d (suc k) (omega arith))
    ∙ ap (λ t. lines_after t (drop i bs ++ more)) (append_assoc q (b ∷ []) (take i bs))

no_newline : (bs : List ℕ) → newline_at bs ≡ None → (k : ℕ) → k < length bs → (get_or bs k 0 == newline) ≡ false
no_newline bs e k l = by (dec_le (length bs) (position_or_len (λ b. b == newline) bs))
  where
    by : Dec (length bs ≤ position_or_len (λ b. b == newline) bs) → (get_or bs k 0 == newline) ≡ false
    by (yes h) = fails_before_first (λ b. b == newline) bs k 0 (omega arith)
    by (no h) = clash_some (position_or_len (λ b. b == newline) bs) (rw (lt-ltb (position_or_len (λ b. b == newline) bs) (length bs) (omega arith)) at e)
      where
        clash_some : (n : ℕ) → Some n ≡ None → (get_or bs k 0 == newline) ≡ false
        clash_some n f = absurd (cc)

-- ---- as it is answered
-- a line that has ended is one that may be used
less_one : (left : ℕ) (line : List ℕ) (names : List (List ℕ)) → (left ≡ 0 → ⊥) → take left (line ∷ names) ≡ line ∷ take (left - 1) names
less_one zero line names some = absurd (some refl)
less_one (suc left) line names some = ap (λ (k : ℕ). line ∷ take k names) {x = left} {y = suc left - 1} (omega arith)

line_is_some : {A : Type 0} {n m : A} {x : Option A} → x ≡ Some n → x ≡ Some m → m ≡ n
line_is_some e f = cc

none_is_some : {A B : Type 0} {n : A} {x : Option A} → x ≡ None → x ≡ Some n → B
none_is_some e f = absurd (cc)

module _ (left : ℕ) (p piece : List ℕ) (from : ℕ) (buffer : List ℕ) (r : Fed) where
  abbrev rest : List ℕ
  rest = drop from piece

  pub fed-end : (n i : ℕ) → newline_at rest ≡ Some i → LineKept (p ++ take i rest) n buffer → (left ≡ 0 → ⊥) → LineEnded (from + i + 1) n (left - 1) r → FedTo left p piece from r buffer
  fed-end n i e kept some a =
      let found = position-Some (λ b. b == newline) rest i 0 e in
      record {
        ended = λ k t.
            rw (a.place, line_is_some a.over t, a.lines) (
              record {
                line = p ++ take i rest;
                holds = kept;
                first = λ more.
                    ap (take left)
                    (lines-part p rest more i (omega (arith, found.0)) found.2
                    ∙ ap (λ t. lines_after (p ++ take i rest) (t ++ more)) (drop_here rest i found.0)
                    ∙ lines_end (p ++ take i rest) (get_or rest i 0) (drop (i + 1) rest ++ more) found.1
                    ∙ ap (λ t. (p ++ take i rest) ∷ lines_after [] (t ++ more)) (drop_past piece from i))
                    ∙ less_one left (p ++ take i rest) (lines_after [] (drop (from + i + 1) piece ++ more)) some;
              },
              a.count,
            );
        going = λ f. none_is_some f a.over;
      }

  pub fed-all : (n : ℕ) → newline_at rest ≡ None → LineKept (p ++ rest) n buffer → AllFed (length piece) n left r → FedTo left p piece from r buffer
  fed-all n none kept a = record {
    ended = λ k t. none_is_some a.still t;
    going = λ f. rw (a.count, a.lines) (record {
      read = p ++ rest;
      holds = kept;
      same = λ more. ap (take left) (lines-part p rest more (length rest) (le_refl _) (no_newline rest none) ∙ rw (take-length rest, drop_of_length-le rest {i = length rest} (le_refl _)));
    });
  }

-- a name, by what is asked of it
module _ (s : List ℕ) where
  pub name-empty : length s ≡ 0 → false ≡ name_of_file s
  unfolding name_of_file
  name-empty z = sym (and_left _ _ (and_left _ _ (lt-leb 1 (length s) (omega arith))))

  pub name-long : 255 < length s → false ≡ name_of_file s
  unfolding name_of_file
  name-long h = sym (and_left _ _ (and_right (leb 1 (length s)) _ (lt-leb (length s) 255 h)))

  pub name_by : (length s ≡ 0 → ⊥) → length s ≤ 255 → not (has_zero s) ≡ name_of_file s
  unfolding name_of_file
  name_by d h = sym (rw (le-leb 1 (length s) (omega (arith, d)), le-leb (length s) 255 h))

-- no byte is 0, as std asks it
pub none_zero : (s : List ℕ) → list_any (λ y. eqb y 0) s ≡ has_zero s
unfolding has_zero
none_zero [] = refl
none_zero (b ∷ bs) = ap (λ z. eqb b 0 || z) (none_zero bs)

-- ---- at the end of the input
pub record LastLine (left : ℕ) (r : Bool) (p : List ℕ) : Type 0 where
  pub is : r ≡ true → names_after left p [] ≡ p ∷ []
  pub none : r ≡ false → names_after left p [] ≡ []

pub some_left : (left : ℕ) → not (eqb left 0) ≡ true → 0 < left
some_left zero h = clash (sym h)
some_left (suc left) h = omega arith

module _ (p : List ℕ) (n : ℕ) (buffer : List ℕ) (h : LineKept p n buffer) where
  some_bytes : 0 < n → 0 < length p
  some_bytes l = omega (arith, h.count, length-take 256 p)

  no_bytes : n ≡ 0 → length p ≡ 0
  no_bytes z = omega (arith, h.count, length-take 256 p)

  last-is : (left : ℕ) → 0 < n → names_after (suc left) p [] ≡ p ∷ []
  unfolding lines_after
  last-is left l = rw (pick-false {A = List (List ℕ)} [] (p ∷ []) (ne_eqb (length p) 0 (λ e. omega (arith, some_bytes l)))) (ap (λ (ns : List (List ℕ)). p ∷ ns) (take-nil left))

  last_none : (left : ℕ) → n ≡ 0 → names_after left p [] ≡ []
  unfolding lines_after
  last_none zero z = refl
  last_none (suc left) z = rw (pick_true {A = List (List ℕ)} [] (p ∷ []) (eq-eqb (length p) 0 (no_bytes z)))

  -- nothing was read of it
  pub last_empty : (left : ℕ) → n ≡ 0 → LastLine left false p
  last_empty left z = record { is = λ t. clash (sym t); none = λ f. last_none left z }

  -- some was: it is one where another may be used
  pub last_some : (left : ℕ) → (n ≡ 0 → ⊥) → LastLine left (not (eqb left 0)) p
  last_some zero d = record { is = λ t. clash (sym t); none = λ f. refl }
  last_some (suc left) d = record { is = λ t. last-is left (omega (arith, d)); none = λ f. clash (sym (ap not (ne_eqb (suc left) 0 (λ e. omega arith))) ∙ f) }

  -- ---- what is kept of a line is a name where the line is
  pub kept-name : name_of_file (take n buffer) ≡ name_of_file p
  kept-name = ap name_of_file h.bytes ∙ by (dec_le (length p) 256)
    where
      by : Dec (length p ≤ 256) → name_of_file (take 256 p) ≡ name_of_file p
      by (yes l) = ap name_of_file (take_all 256 p l)
      by (no l) = long (take 256 p) (omega (arith, length-take 256 p)) ∙ sym (long p (omega arith))
        where
          long : (q : List ℕ) → 255 < length q → name_of_file q ≡ false
          long q m = sym (name-long q m)
