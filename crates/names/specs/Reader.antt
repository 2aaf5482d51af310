-- A reader of a name: what is left of it decides, from where the reader stands, as the whole does.
use Rattle.std.specs.Prelude.{ℕ, zero, suc, ◌-◌, ◌+◌, ◌≤◌, ◌<◌, ◌≡◌, refl, Bool, ◌&&◌, List, [], ◌∷◌, length, drop, ltb, Option, Some, None}
use Rattle.std.proofs.Math.Path.{sym, ap}
use Rattle.std.proofs.Common.{ap₂, ◌∙◌}
use Rattle.std.proofs.Math.Bool.{true, false, not}
use native.Mathlib.Omega.{arith}
use Rattle.std.proofs.Math.Decide.{dec_lt}
use Rattle.std.proofs.Math.ListN.{get_or}
use Rattle.std.proofs.Math.Dec.{eqb}
use borrow.Author.Tests.{ne_eqb, not-true}
use Rattle.std.specs.Option.{MatchOption, option_eq}
use Rattle.rules.specs.Lists.{pick, any}
use Rattle.rules.specs.Lists.Laws.{and-true, and_right, and_last}
use Rattle.rules.specs.Fields.{up_to_zero, has_zero}
use Rattle.rules.specs.Fields.Laws.{has_zero-ltb, zero-next, zero_more}
use Rattle.rules.specs.Names.{slash, dot, text_good, path_good, volume_text_good}
use Rattle.rules.specs.Names.Laws.{whole-text, no-whole-text}
use Rattle.names.specs.Automaton.{part_step, run_parts, run-parts, run-bad, part-plain, part-most}
use Rattle.names.specs.Masks.{turns_nothing}
use Rattle.names.specs.Texts.{good_from, ascii_good, ascii-zero, from-ascii, from-nil}
use Rattle.names.specs.declared.Reader.{Reader}

-- what a reader promises: the bytes behind it make a good name of those before it
abbrev pub good_at : Reader → List ℕ → Bool
good_at r bs = good_from r.due r.low r.high bs

-- up to the first zero the rule P holds, of so many bytes, or it does not
abbrev pub In : (List ℕ → Bool) → List ℕ → Option ℕ → Type 0
In P s (Some n) = (P (up_to_zero s) ≡ true) × (n ≡ length (up_to_zero s))
In P s None = P (up_to_zero s) ≡ false

module _ (P : List ℕ → Bool) (s : List ℕ) where
  -- of a field, which a zero must end
  pub field : (Q : ℕ → Type 0) (t : Bool) (r : Option ℕ) → In P s r → ((n : ℕ) → Q n → t ≡ ltb n (length s)) → MatchOption r (t ≡ false) Q
      → t ≡ (has_zero s && P (up_to_zero s))
  field Q t (Some n) (f, g) test h = test n h ∙ rw (g, f, has_zero-ltb s) (sym (and_last _))
  field Q t None f test h = h ∙ sym (and_right (has_zero s) _ f)

  -- of all of s
  pub whole : ((s : List ℕ) → P s ≡ true → text_good s ≡ true) → (r : Option ℕ) → In P s r → option_eq eqb r (Some (length s)) ≡ P s
  whole texts (Some n) (f, g) = rw g (whole-text P texts s f)
  whole texts None f = no-whole-text P texts s f

-- where a reader ends: its last test tells whether the rule holds
ended-in : (P : List ℕ → Bool) (s : List ℕ) (i : ℕ) (t : Bool) → up_to_zero (drop i s) ≡ [] → i + length (up_to_zero (drop i s)) ≡ length (up_to_zero s)
    → t ≡ P (up_to_zero s) → (e : Option ℕ) → e ≡ pick t (Some i) None → In P s e
unfolding pick
ended-in P s i t z h f e g = rw g (by t f)
  where
    by : (t : Bool) → t ≡ P (up_to_zero s) → In P s (pick t (Some i) None)
    by true f = let k : length (up_to_zero (drop i s)) ≡ 0 = ap length z in (sym f, omega (arith, h, k))
    by false f = sym f

-- ---- a path, of which `rest` is left
abbrev Reached : List ℕ → List ℕ → Reader → ℕ → Type 0
Reached path rest r part = (part < 4) × (good_at r rest ≡ text_good path) × (run_parts part rest ≡ run_parts 0 path)

-- the part's state behind one byte more
run-cons : (part b : ℕ) (bs : List ℕ) → run_parts (part_step part b) bs ≡ run_parts part (b ∷ bs)
unfolding run_parts
run-cons part b bs = refl

run-nil : (part : ℕ) → part ≡ run_parts part []
unfolding run_parts
run-nil part = refl

module _ (path : List ℕ) (b : ℕ) (rest : List ℕ) (r : Reader) (part : ℕ) (h : Reached path (b ∷ rest) r part) where
  on-plain : r.due ≡ 0 → ascii_good b ≡ true → eqb b slash ≡ false → eqb b dot ≡ false → Reached path rest r 3
  on-plain e f g k =
      let q = part-plain part b h.0 g k in
      (omega arith, from-ascii _ _ _ b rest e f ∙ h.1, rw (← q) (run-cons part b rest ∙ h.2))

  on-other : (q : ℕ) → q ≡ part_step part b → (q ≡ 4 → ⊥) → (n : Reader) → ((bs : List ℕ) → good_at n bs ≡ good_at r (b ∷ bs)) → Reached path rest n q
  on-other q e d n f = (omega (arith, part-most part b, e, d), f rest ∙ h.1, rw e (run-cons part b rest ∙ h.2))

  on-bad : (q : ℕ) → q ≡ part_step part b → q ≡ 4 → path_good path ≡ false
  unfolding path_good
  on-bad q e f = and_right (text_good path) _ (run-bad path rest (rw (← f, e) (run-cons part b rest ∙ h.2)))

on-end : (path : List ℕ) (r : Reader) (part : ℕ) → Reached path [] r part → (eqb r.due 0 && eqb part 3) ≡ path_good path
unfolding path_good
on-end path r part h = ap₂ (λ a b. a && b) (from-nil _ _ _ ∙ h.1) (ap (λ q. eqb q 3) (run-nil part ∙ h.2) ∙ run-parts path)

-- every byte of s from place a up to b is a plain character
abbrev pub Plain : List ℕ → ℕ → ℕ → Type 0
Plain s a b = (j : ℕ) → a ≤ j → j < b → (ascii_good (get_or s j 0) && turns_nothing (get_or s j 0)) ≡ true

pub plain_more : (s : List ℕ) (a b : ℕ) → Plain s a b → (ascii_good (get_or s b 0) && turns_nothing (get_or s b 0)) ≡ true → Plain s a (b + 1)
plain_more s a b h e j k l = by (dec_lt j b)
  where
    by : Dec (j < b) → (ascii_good (get_or s j 0) && turns_nothing (get_or s j 0)) ≡ true
    by (yes m) = h j k m
    by (no m) = let f : j ≡ b = omega arith in rw f e

-- ---- the loop over a path, at byte i of s
abbrev pub PathAt : List ℕ → Reader → ℕ → ℕ → Type 0
PathAt s r part i = (i ≤ length s) × (i + length (up_to_zero (drop i s)) ≡ length (up_to_zero s)) × Reached (up_to_zero s) (up_to_zero (drop i s)) r part

module _ (s : List ℕ) (r : Reader) (part i : ℕ) (h : PathAt s r part i) where
  pub plain_turn : i < length s → r.due ≡ 0 → (ascii_good (get_or s i 0) && turns_nothing (get_or s i 0)) ≡ true → PathAt s r 3 (i + 1)
  unfolding turns_nothing
  plain_turn l e f =
      let b = get_or s i 0 in
      let (g, k) = and-true (ascii_good b) (turns_nothing b) f in
      let (m, n) = and-true (not (eqb b slash)) (not (eqb b dot)) k in
      let z : b ≡ 0 → ⊥ = ascii-zero b g in
      (omega arith, zero_more s i l z ∙ h.1, on-plain (up_to_zero s) b _ r part (rw (← zero-next s i l z) h.2) e g (not-true _ m) (not-true _ n))

  module _ (l : i < length s) (z : get_or s i 0 ≡ 0 → ⊥) (q : ℕ) (e : q ≡ part_step part (get_or s i 0)) where
    pub other-turn : (q ≡ 4 → ⊥) → (n : Reader) → ((bs : List ℕ) → good_at n bs ≡ good_at r (get_or s i 0 ∷ bs)) → PathAt s n q (i + 1)
    other-turn d n f = (omega arith, zero_more s i l z ∙ h.1, on-other (up_to_zero s) (get_or s i 0) _ r part (rw (← zero-next s i l z) h.2) q e d n f)

    pub bad-part : q ≡ 4 → path_good (up_to_zero s) ≡ false
    bad-part f = on-bad (up_to_zero s) (get_or s i 0) (up_to_zero (drop (i + 1) s)) r part (rw (← zero-next s i l z) h.2) q e f

  pub path-ended : up_to_zero (drop i s) ≡ [] → (e : Option ℕ) → e ≡ pick (eqb r.due 0 && eqb part 3) (Some i) None → In path_good s e
  path-ended z e f = ended-in path_good s i _ z h.1 (on-end (up_to_zero s) r part (rw (← z) h.2)) e f

-- any number of plain bytes, the last of them before place n
module _ (s : List ℕ) (r : Reader) (z : r.due ≡ 0) (n : ℕ) (m : n ≤ length s) where
  run : (k i : ℕ) → i + k ≡ n → Plain s i n → PathAt s r 3 i → PathAt s r 3 n
  run zero i e p h = let f : i ≡ n = omega arith in rw (← f) h
  run (suc k) i e p h =
      run k (i + 1) (omega arith) (λ j a b. p j (omega arith) b) (plain_turn s r 3 i h (omega arith) z (p i (omega arith) (omega arith)))

  pub plain-run : (i : ℕ) → i ≤ n → Plain s i n → PathAt s r 3 i → PathAt s r 3 n
  plain-run i l p h = run (n - i) i (omega arith) p h

-- ---- the loop over a volume name, at byte i of s
abbrev pub NameAt : List ℕ → Reader → ℕ → Type 0
NameAt s r i =
    (i ≤ length s) × (i + length (up_to_zero (drop i s)) ≡ length (up_to_zero s))
    × (good_at r (up_to_zero (drop i s)) ≡ text_good (up_to_zero s)) × (any (eqb slash) (up_to_zero (drop i s)) ≡ any (eqb slash) (up_to_zero s))

module _ (s : List ℕ) (r : Reader) (i : ℕ) (h : NameAt s r i) where
  module _ (l : i < length s) (z : get_or s i 0 ≡ 0 → ⊥) where
    pub slash-found : get_or s i 0 ≡ slash → volume_text_good (up_to_zero s) ≡ false
    unfolding volume_text_good any
    slash-found e =
        let g : any (eqb slash) (up_to_zero (drop i s)) ≡ true = rw (zero-next s i l z, e) in
        and_right (text_good (up_to_zero s)) _ (ap not (sym h.3 ∙ g))

    pub name-turn : (get_or s i 0 ≡ slash → ⊥) → (n : Reader) → ((bs : List ℕ) → good_at n bs ≡ good_at r (get_or s i 0 ∷ bs)) → NameAt s n (i + 1)
    unfolding any
    name-turn d n f =
        let e : eqb slash (get_or s i 0) ≡ false = ne_eqb _ _ (λ e. d (sym e)) in
        (omega arith, zero_more s i l z ∙ h.1, f (up_to_zero (drop (i + 1) s)) ∙ rw (← zero-next s i l z) h.2, sym (rw (zero-next s i l z, e)) ∙ h.3)

  name-end : up_to_zero (drop i s) ≡ [] → eqb r.due 0 ≡ volume_text_good (up_to_zero s)
  unfolding volume_text_good any
  name-end z =
      let f : any (eqb slash) (up_to_zero s) ≡ false = sym h.3 ∙ ap (any (eqb slash)) z in
      from-nil _ _ _ ∙ sym (ap (good_at r) z) ∙ h.2 ∙ rw f (sym (and_last _))

  pub name-ended : up_to_zero (drop i s) ≡ [] → (e : Option ℕ) → e ≡ pick (eqb r.due 0 && eqb 3 3) (Some i) None → In volume_text_good s e
  name-ended z e f = ended-in volume_text_good s i _ z h.1 (and_last (eqb r.due 0) ∙ name-end z) e f
