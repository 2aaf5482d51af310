-- Laws of names and paths: codes, texts character by character, and what is sure of one that is good.
use Rattle.std.specs.Prelude.{ℕ, suc, ◌-◌, ◌≤◌, ◌<◌, ◌≡◌, refl, Bool, true, false, ◌&&◌, List, [], ◌∷◌, ◌++◌, map, length, get_or, take, eqb, leb}
use Rattle.std.proofs.Common.{sym, ap, ◌∙◌, append_assoc, append-nil, arith, take-suc}
use Rattle.std.proofs.Math.Bool.{not}
use Rattle.std.proofs.lemmas.List.{map-append}
use Rattle.std.proofs.Math.Option.{Option, none, some}
use Rattle.std.proofs.Math.Decide.{dec_lt}
use Rattle.std.proofs.Math.Seq.{take-length}
use borrow.Author.Tests.{eq-eqb, ne_eqb, le-leb, lt-leb, leb-true}
use Rattle.rules.specs.Lists.{pick, all, any}
use Rattle.rules.specs.Lists.Laws.{clash, and-true, and_right}
use Rattle.rules.specs.Fields.{up_to_zero}
use Rattle.rules.specs.Fields.Laws.{zero-cons, zero-here, up_to_zero-take}
use Rattle.rules.specs.Utf8.{within, encode, encode_all, First, ill, char, first_char, also, onward, decode}
use Rattle.rules.specs.Utf8.Laws.{within_in, within-above, first_one, decode-equation, encode_one, encode-two, encode-three, encode-four, encode-decode}
use Rattle.rules.specs.Names.{slash, is_mark, code_good, codes_good, text_good, into_first, parts, part_good, path_good, new_path_good, volume_text_good, volume_name_good, lead_if, leading}

-- ---- codes
mark-high : (c : ℕ) → 0x7F ≤ c → is_mark c ≡ false
unfolding is_mark any
mark-high c h =
    rw (
      ne_eqb c 0x22 (omega arith),
      ne_eqb c 0x2A (omega arith),
      ne_eqb c 0x3A (omega arith),
      ne_eqb c 0x3C (omega arith),
      ne_eqb c 0x3E (omega arith),
      ne_eqb c 0x3F (omega arith),
      ne_eqb c 0x5C (omega arith),
    )

module _ (c : ℕ) where
  pub good-low : c < 0x20 → code_good c ≡ false
  unfolding code_good
  good-low h = rw (lt-leb 0x20 c h)

  pub good-control : 0x7F ≤ c → c ≤ 0xA0 → code_good c ≡ false
  unfolding code_good
  good-control h k = rw (within_in 0x7F 0xA0 c h k, le-leb 0x20 c (omega arith))

  pub good-high : 0xA0 < c → code_good c ≡ true
  unfolding code_good
  good-high h = rw (within-above 0x7F 0xA0 c h, le-leb 0x20 c (omega arith), mark-high c (omega arith))

  good-least : code_good c ≡ true → 0x20 ≤ c
  unfolding code_good
  good-least e =
      let p = and-true (leb 0x20 c && not (within 0x7F 0xA0 c)) (not (is_mark c)) e in
      leb-true _ _ (and-true (leb 0x20 c) (not (within 0x7F 0xA0 c)) p.0).0

-- ---- texts, character by character
pub text-nil : text_good [] ≡ true
unfolding text_good codes_good all
text-nil = rw decode-equation.0

-- the first character is allowed, and what stands behind it is good
unfoldable pub good_first : First → Bool
good_first ill = false
good_first (char c bs) = code_good c && text_good bs

onward-good : (f : First) → codes_good (onward f decode) ≡ good_first f
unfolding onward also codes_good good_first text_good all
onward-good ill = refl
onward-good (char c bs) = by (decode bs)
  where
    by : (r : Option (List ℕ)) → codes_good (also c r) ≡ (code_good c && codes_good r)
    by none = sym (and_right (code_good c) false refl)
    by (some cs) = refl

pub text-first : (b : ℕ) (bs : List ℕ) → text_good (b ∷ bs) ≡ good_first (first_char (b ∷ bs))
unfolding text_good
text-first b bs = ap codes_good (decode-equation.1 b bs) ∙ onward-good (first_char (b ∷ bs))

pub text-ascii : (b : ℕ) (bs : List ℕ) → b ≤ 0x7F → text_good (b ∷ bs) ≡ (code_good b && text_good bs)
unfolding good_first
text-ascii b bs h = text-first b bs ∙ rw (first_one b bs h)

-- IN PLAIN ASCII THE RULE IS THAT OF EACH BYTE, as it was before K1
pub ascii-text : (bs : List ℕ) → all (λ b. leb b 0x7F) bs ≡ true → text_good bs ≡ all code_good bs
unfolding all
ascii-text [] e = text-nil
ascii-text (b ∷ bs) e =
    let (p, q) = and-true (leb b 0x7F) (all (λ b. leb b 0x7F) bs) e in
    text-ascii b bs (leb-true _ _ p) ∙ ap (λ t. code_good b && t) (ascii-text bs q)

-- a good text is the bytes of its codes, none of which has a zero byte, so that the first zero behind it ends the name
module _ (c : ℕ) (bs : List ℕ) (e : code_good c ≡ true) where
  kept : (b : ℕ) (l m : List ℕ) → 0 < b → up_to_zero l ≡ m → up_to_zero (b ∷ l) ≡ b ∷ m
  kept b l m h e = zero-cons b l (omega arith) ∙ ap (λ t. b ∷ t) e

  encode-kept : up_to_zero (encode c ++ bs) ≡ encode c ++ up_to_zero bs
  encode-kept = go (dec_lt 0x7F c) (dec_lt 0x7FF c) (dec_lt 0xFFFF c)
    where
      go : Dec (0x7F < c) → Dec (0x7FF < c) → Dec (0xFFFF < c) → up_to_zero (encode c ++ bs) ≡ encode c ++ up_to_zero bs
      go (no h) i j = rw (encode_one c (omega arith)) (kept _ _ _ (omega (arith, good-least c e)) refl)
      go (yes h) (no i) j = rw (encode-two c h (omega arith)) (kept _ _ _ (omega arith) (kept _ _ _ (omega arith) refl))
      go (yes h) (yes i) (no j) = rw (encode-three c i (omega arith)) (kept _ _ _ (omega arith) (kept _ _ _ (omega arith) (kept _ _ _ (omega arith) refl)))
      go (yes h) (yes i) (yes j) =
          rw (encode-four c j) (kept _ _ _ (omega arith) (kept _ _ _ (omega arith) (kept _ _ _ (omega arith) (kept _ _ _ (omega arith) refl))))

codes-kept : (cs bs : List ℕ) → all code_good cs ≡ true → up_to_zero (encode_all cs ++ bs) ≡ encode_all cs ++ up_to_zero bs
unfolding encode_all all
codes-kept [] bs e = refl
codes-kept (c ∷ cs) bs e =
    let (p, q) = and-true (code_good c) (all code_good cs) e in
    ap up_to_zero (append_assoc (encode c) (encode_all cs) bs)
    ∙ encode-kept c (encode_all cs ++ bs) p
    ∙ ap (λ l. encode c ++ l) (codes-kept cs bs q)
    ∙ sym (append_assoc (encode c) (encode_all cs) (up_to_zero bs))

text-kept : (s bs : List ℕ) → text_good s ≡ true → up_to_zero (s ++ bs) ≡ s ++ up_to_zero bs
unfolding text_good codes_good
text-kept s bs e = by (decode s) refl e
  where
    by : (r : Option (List ℕ)) → decode s ≡ r → codes_good r ≡ true → up_to_zero (s ++ bs) ≡ s ++ up_to_zero bs
    by none d g = clash (sym g)
    by (some cs) d g = rw (← (encode-decode s cs d).0) (codes-kept cs bs g)

pub text-up-to-zero : (s rest : List ℕ) → text_good s ≡ true → up_to_zero (s ++ 0 ∷ rest) ≡ s
text-up-to-zero s rest e = text-kept s (0 ∷ rest) e ∙ ap (λ l. s ++ l) (zero-here 0 rest refl) ∙ append-nil s

text-no-zero : (s : List ℕ) → text_good s ≡ true → up_to_zero s ≡ s
unfolding up_to_zero
text-no-zero s e = ap up_to_zero (sym (append-nil s)) ∙ text-kept s [] e ∙ append-nil s

-- a rule on texts, by what stands before the first zero of s, if there is one
module _ (P : List ℕ → Bool) (texts : (s : List ℕ) → P s ≡ true → text_good s ≡ true) (s : List ℕ) where
  pub whole-text : P (up_to_zero s) ≡ true → eqb (length (up_to_zero s)) (length s) ≡ P s
  whole-text e = by (P s) refl
    where
      by : (t : Bool) → P s ≡ t → eqb (length (up_to_zero s)) (length s) ≡ t
      by true g = eq-eqb (length (up_to_zero s)) (length s) (ap length (text-no-zero s (texts s g)))
      by false g = ne_eqb (length (up_to_zero s)) (length s) (λ h. clash (sym e ∙ ap P (up_to_zero-take s ∙ ap (λ k. take k s) h ∙ take-length s) ∙ g))

  pub no-whole-text : P (up_to_zero s) ≡ false → false ≡ P s
  no-whole-text e = by (P s) refl
    where
      by : (t : Bool) → P s ≡ t → false ≡ t
      by true g = sym e ∙ ap P (text-no-zero s (texts s g)) ∙ g
      by false g = refl

-- ---- parts
-- there is always a first part
pub parts-some : (s : List ℕ) → (q : List ℕ) × (qs : List (List ℕ)) × (parts s ≡ q ∷ qs)
unfolding parts pick into_first
parts-some [] = ([], [], refl)
parts-some (b ∷ bs) = by (eqb b slash) (parts-some bs)
  where
    by : (t : Bool) → ((q : List ℕ) × (qs : List (List ℕ)) × (parts bs ≡ q ∷ qs)) → (q : List ℕ) × (qs : List (List ℕ)) × (pick t ([] ∷ parts bs) (into_first b (parts bs)) ≡ q ∷ qs)
    by true r = ([], parts bs, refl)
    by false (q, qs, e) = (b ∷ q, qs, rw e)

-- ---- paths
module _ (s : List ℕ) (e : path_good s ≡ true) where
  path-both : (text_good s ≡ true) × (all part_good (parts s) ≡ true)
  unfolding path_good
  path-both = and-true (text_good s) (all part_good (parts s)) e

  pub path-text : text_good s ≡ true
  path-text = path-both.0

  pub path-up-to-zero : (rest : List ℕ) → up_to_zero (s ++ 0 ∷ rest) ≡ s
  path-up-to-zero rest = text-up-to-zero s rest path-text

-- ---- with a length
pub new-path : (p : List ℕ) → new_path_good p ≡ true → (path_good p ≡ true) × (length p ≤ 285)
unfolding new_path_good
new-path p e = let r = and-true (path_good p) (leb (length p) 285) e in (r.0, leb-true _ _ r.1)

pub volume-text : (n : List ℕ) → volume_text_good n ≡ true → text_good n ≡ true
unfolding volume_text_good
volume-text n e = (and-true (text_good n) (not (any (eqb slash) n)) e).0

pub volume-name : (n : List ℕ) → volume_name_good n ≡ true → (volume_text_good n ≡ true) × (length n ≤ 51)
unfolding volume_name_good
volume-name n e = let r = and-true (volume_text_good n) (leb (length n) 51) e in (r.0, leb-true _ _ r.1)

-- ---- leading paths, with one byte more behind
lead-slash : (xs : List ℕ) → leading (xs ++ slash ∷ []) ≡ leading xs ++ (xs ∷ [])
unfolding leading lead_if
lead-slash [] = refl
lead-slash (b ∷ bs) = rw (lead-slash bs, map-append) (by (eqb b slash))
  where
    by : (t : Bool) → lead_if t (map (λ p. b ∷ p) (leading bs) ++ ((b ∷ bs) ∷ [])) ≡ lead_if t (map (λ p. b ∷ p) (leading bs)) ++ ((b ∷ bs) ∷ [])
    by true = refl
    by false = refl

lead-other : (xs : List ℕ) (c : ℕ) → (c ≡ slash → ⊥) → leading (xs ++ c ∷ []) ≡ leading xs
unfolding leading lead_if
lead-other [] c d = rw (ne_eqb c slash d)
lead-other (b ∷ bs) c d = rw (lead-other bs c d)

-- a path cut before its byte i - 1, and behind it
module _ (s : List ℕ) (i : ℕ) (more : 0 < i) (fits : i ≤ length s) where
  take_last : take i s ≡ take (i - 1) s ++ (get_or s (i - 1) 0 ∷ [])
  take_last = let e : i ≡ suc (i - 1) = omega arith in ap (λ (k : ℕ). take k s) e ∙ take-suc s (i - 1) 0 (omega arith)

  pub leading-slash : get_or s (i - 1) 0 ≡ slash → leading (take i s) ≡ leading (take (i - 1) s) ++ (take (i - 1) s ∷ [])
  leading-slash e = ap leading take_last ∙ rw e (lead-slash (take (i - 1) s))

  pub leading-other : (get_or s (i - 1) 0 ≡ slash → ⊥) → leading (take i s) ≡ leading (take (i - 1) s)
  leading-other d = ap leading take_last ∙ lead-other (take (i - 1) s) (get_or s (i - 1) 0) d

pub leading-nil : leading [] ≡ []
unfolding leading
leading-nil = refl
