-- A good text from a place within it: what may follow the bytes that were read.
use Prim.Native.Nat.{ℕ, zero, suc, ◌+◌, ◌-◌, ◌*◌, ◌≤◌, ◌<◌}
use Rattle.std.specs.Prelude.{◌≡◌, refl, Bool, ◌&&◌, List, [], ◌∷◌, ◌⊎◌, eqb, leb}
use Rattle.std.proofs.Math.Path.{sym, ap}
use Rattle.std.proofs.Common.{◌∙◌, inl, inr, mul_assoc, mul-le-mul_right, ne_eqb, le-leb, leb-true}
use Rattle.std.proofs.Math.Bool.{true, false}
use Rattle.std.proofs.Math.Logic.{⊎_elim}
use native.Mathlib.Omega.{arith}
use Rattle.std.proofs.Math.Decide.{dec_lt}
use Rattle.std.proofs.lemmas.Bool.{lt-leb}
use Rattle.rules.specs.Lists.{pick}
use Rattle.rules.specs.Lists.Laws.{clash, and-true, and_right}
use Rattle.rules.specs.Utf8.{within, is_code, ill, char, tails, row, first_char}
use Rattle.rules.specs.Utf8.Laws.{within_in, within-below, within-above, code_below, code-surrogate, code-above, first-stray, first_two, first_three, first-four, first-beyond}
use Rattle.rules.specs.Names.{code_good, text_good}
use Rattle.rules.specs.Names.Laws.{good-low, good-control, good-high, good_first, text-nil, text-first, text-ascii}

-- so many bytes end the character that was begun, the next of them from lo to hi; behind it stands a good text
unfoldable pub good_from : ℕ → ℕ → ℕ → List ℕ → Bool
good_from zero lo hi bs = text_good bs
good_from (suc n) lo hi [] = false
good_from (suc n) lo hi (b ∷ bs) = within lo hi b && good_from n 0x80 0xBF bs

-- there is no byte from 1 to 0: nothing goes on from there
nowhere : (bs : List ℕ) → good_from 1 1 0 bs ≡ false
unfolding good_from
nowhere [] = refl
nowhere (zero ∷ bs) = rw (within-below 1 0 zero (omega arith))
nowhere (suc b ∷ bs) = rw (within-above 1 0 (suc b) (omega arith))

-- ---- a row of RFC 3629's table, and what is left of it behind its first byte
-- a code of the row that a name may have
unfoldable allowed : ℕ → ℕ → ℕ → Bool
allowed lo hi c = within lo hi c && is_code c && code_good c

module _ (lo hi c : ℕ) where
  allowed-low : lo ≤ c → c ≤ hi → 0xA0 < c → c < 0xD800 → allowed lo hi c ≡ true
  unfolding allowed
  allowed-low h k l m = rw (within_in lo hi c h k, code_below c m, good-high c l)

  allowed-high : lo ≤ c → c ≤ hi → 0xDFFF < c → c ≤ 0x10FFFF → allowed lo hi c ≡ true
  unfolding allowed
  allowed-high h k l m = rw (within_in lo hi c h k, code-above c l m, good-high c (omega arith))

  allowed-short : c < lo → allowed lo hi c ≡ false
  unfolding allowed
  allowed-short h = rw (within-below lo hi c h)

  allowed-beyond : hi < c → allowed lo hi c ≡ false
  unfolding allowed
  allowed-beyond h = rw (within-above lo hi c h)

  allowed-surrogate : 0xD800 ≤ c → c ≤ 0xDFFF → allowed lo hi c ≡ false
  unfolding allowed
  allowed-surrogate h k = rw (code-surrogate c h k, and_right (within lo hi c) false refl)

  allowed-control : 0x7F ≤ c → c ≤ 0xA0 → allowed lo hi c ≡ false
  unfolding allowed
  allowed-control h k = rw (good-control c h k) (and_right (within lo hi c && is_code c) false refl)

-- six bits in each tail
unfoldable span : ℕ → ℕ
span zero = 1
span (suc n) = 64 * span n

-- all codes of which c are the first bits and n tails have the rest are allowed, or none
abbrev Uniform : ℕ → ℕ → Bool → ℕ → ℕ → Type 0
Uniform lo hi v n c = (k : ℕ) → c * span n ≤ k → k < (c + 1) * span n → allowed lo hi k ≡ v

uniform-tail : (lo hi : ℕ) (v : Bool) (n c t : ℕ) → t < 64 → Uniform lo hi v (suc n) c → Uniform lo hi v n (c * 64 + t)
unfolding span
uniform-tail lo hi v n c t h f k l m =
    let up : c * 64 * span n ≤ (c * 64 + t) * span n = mul-le-mul_right (span n) (omega arith) in
    let down : (c * 64 + t + 1) * span n ≤ (c + 1) * 64 * span n = mul-le-mul_right (span n) (omega arith) in
    f k (omega (arith, l, up, mul_assoc c 64 (span n))) (omega (arith, m, down, mul_assoc (c + 1) 64 (span n)))

row-good : (lo hi c : ℕ) (bs : List ℕ) → good_first (row lo hi (char c bs)) ≡ (allowed lo hi c && text_good bs)
unfolding row good_first allowed pick
row-good lo hi c bs = by (within lo hi c && is_code c)
  where
    by : (t : Bool) → good_first (pick t (char c bs) ill) ≡ (t && code_good c && text_good bs)
    by true = refl
    by false = refl

ill-row : (lo hi : ℕ) → good_first (row lo hi ill) ≡ false
unfolding row good_first
ill-row lo hi = refl

-- then the row passes just where the tails are tails
uniform : (lo hi : ℕ) (v : Bool) (n c : ℕ) (bs : List ℕ) → Uniform lo hi v n c → good_first (row lo hi (tails n c bs)) ≡ (v && good_from n 0x80 0xBF bs)
unfolding tails good_from span pick
uniform lo hi v zero c bs f = row-good lo hi c bs ∙ ap (λ t. t && text_good bs) (f c (omega arith) (omega arith))
uniform lo hi v (suc n) c [] f = ill-row lo hi ∙ sym (and_right v false refl)
uniform lo hi v (suc n) c (b ∷ bs) f =
    by (dec_lt b 0x80) (dec_lt 0xBF b) (λ h. uniform lo hi v n (c * 64 + (b - 0x80)) bs (uniform-tail lo hi v n c (b - 0x80) h f))
  where
    Passes : Type 0
    Passes = good_first (row lo hi (pick (within 0x80 0xBF b) (tails n (c * 64 + (b - 0x80)) bs) ill)) ≡ (v && (within 0x80 0xBF b && good_from n 0x80 0xBF bs))

    out : within 0x80 0xBF b ≡ false → Passes
    out e = rw e (ill-row lo hi ∙ sym (and_right v false refl))

    by : Dec (b < 0x80) → Dec (0xBF < b) → (b - 0x80 < 64 → good_first (row lo hi (tails n (c * 64 + (b - 0x80)) bs)) ≡ (v && good_from n 0x80 0xBF bs)) → Passes
    by (yes h) k r = out (within-below 0x80 0xBF b h)
    by (no h) (yes k) r = out (within-above 0x80 0xBF b k)
    by (no h) (no k) r = rw (within_in 0x80 0xBF b (omega arith) (omega arith)) (r (omega arith))

-- where the tail next to the first byte parts them, so that those from a to z are allowed and no others
led : (lo hi n c a z : ℕ) → 0x80 ≤ a → z ≤ 0xBF
    → ((b : ℕ) → a ≤ b → b ≤ z → Uniform lo hi true n (c * 64 + (b - 0x80)))
    → ((b : ℕ) → 0x80 ≤ b → b ≤ 0xBF → (b < a) ⊎ (z < b) → Uniform lo hi false n (c * 64 + (b - 0x80)))
    → (bs : List ℕ) → good_first (row lo hi (tails (suc n) c bs)) ≡ good_from (suc n) a z bs
unfolding tails good_from pick
led lo hi n c a z p q good bad [] = ill-row lo hi
led lo hi n c a z p q good bad (b ∷ bs) = by (dec_lt b 0x80) (dec_lt 0xBF b) (dec_lt b a) (dec_lt z b)
  where
    Passes : Type 0
    Passes = good_first (row lo hi (pick (within 0x80 0xBF b) (tails n (c * 64 + (b - 0x80)) bs) ill)) ≡ (within a z b && good_from n 0x80 0xBF bs)

    out : within 0x80 0xBF b ≡ false → within a z b ≡ false → Passes
    out e f = rw (e, f) (ill-row lo hi)

    in_tail : 0x80 ≤ b → b ≤ 0xBF → (b < a) ⊎ (z < b) → within a z b ≡ false → Passes
    in_tail h k l f = rw (within_in 0x80 0xBF b h k, f) (uniform lo hi false n _ bs (bad b h k l))

    by : Dec (b < 0x80) → Dec (0xBF < b) → Dec (b < a) → Dec (z < b) → Passes
    by (yes h) k l m = out (within-below 0x80 0xBF b h) (within-below a z b (omega arith))
    by (no h) (yes k) l m = out (within-above 0x80 0xBF b k) (within-above a z b (omega arith))
    by (no h) (no k) (yes l) m = in_tail (omega arith) (omega arith) (inl l) (within-below a z b l)
    by (no h) (no k) (no l) (yes m) = in_tail (omega arith) (omega arith) (inr m) (within-above a z b m)
    by (no h) (no k) (no l) (no m) =
        rw (within_in 0x80 0xBF b (omega arith) (omega arith), within_in a z b (omega arith) (omega arith))
        (uniform lo hi true n _ bs (good b (omega arith) (omega arith)))

-- ---- WHAT MAY FOLLOW A FIRST BYTE: RFC 3629, section 4, without the codes that no name has
unfoldable pub ascii_good : ℕ → Bool
ascii_good b = leb b 0x7F && code_good b

module _ (b : ℕ) where
  pub ascii-low : b < 0x80 → code_good b ≡ ascii_good b
  unfolding ascii_good
  ascii-low h = rw (le-leb b 0x7F (omega arith))

  pub ascii-high : 0x80 ≤ b → ascii_good b ≡ false
  unfolding ascii_good
  ascii-high h = rw (lt-leb b 0x7F h)

  pub ascii-zero : ascii_good b ≡ true → b ≡ 0 → ⊥
  unfolding ascii_good
  ascii-zero e z = clash (sym (and-true (leb b 0x7F) (code_good b) e).1 ∙ good-low b (omega arith))

module _ (a : ℕ) (bs : List ℕ) where
  pub begun-ascii : ascii_good a ≡ true → good_from 0 0x80 0xBF bs ≡ text_good (a ∷ bs)
  unfolding ascii_good good_from
  begun-ascii e = let (p, q) = and-true (leb a 0x7F) (code_good a) e in sym (text-ascii a bs (leb-true _ _ p) ∙ rw q)

  none : text_good (a ∷ bs) ≡ false → good_from 1 1 0 bs ≡ text_good (a ∷ bs)
  none e = nowhere bs ∙ sym e

  ill-first : first_char (a ∷ bs) ≡ ill → text_good (a ∷ bs) ≡ false
  unfolding good_first
  ill-first e = text-first a bs ∙ rw e

  -- a tail begins nothing, and 0xC0 and 0xC1 only what one byte can say
  pub begun-none : a ≤ 0xC1 → ascii_good a ≡ false → good_from 1 1 0 bs ≡ text_good (a ∷ bs)
  unfolding ascii_good span
  begun-none h e = none (by (dec_lt a 0x80) (dec_lt a 0xC0))
    where
      by : Dec (a < 0x80) → Dec (a < 0xC0) → text_good (a ∷ bs) ≡ false
      by (yes k) l =
          let g : code_good a ≡ false = sym (rw (le-leb a 0x7F (omega arith))) ∙ e in
          text-ascii a bs (omega arith) ∙ rw g
      by (no k) (yes l) = ill-first (first-stray a bs (omega arith) (omega arith))
      by (no k) (no l) =
          text-first a bs ∙ rw (first_two a bs (omega arith) (omega arith))
          (uniform _ _ false 1 _ bs (λ k l m. allowed-short _ _ k (omega arith)))

  -- behind 0xC2 the controls up to 0xA0 come first
  pub begun-C2 : a ≡ 0xC2 → good_from 1 0xA1 0xBF bs ≡ text_good (a ∷ bs)
  unfolding span
  begun-C2 e =
      sym (text-first a bs ∙ rw (first_two a bs (omega arith) (omega arith))
      (led _ _ 0 _ _ _ (omega arith) (omega arith) (λ b h k c l m. allowed-low _ _ c (omega arith) (omega arith) (omega arith) (omega arith))
      (λ b h k d c l m. ⊎_elim (λ u. allowed-control _ _ c (omega arith) (omega arith)) (λ u. absurd (omega arith)) d) bs))

  pub begun-two : 0xC3 ≤ a → a ≤ 0xDF → good_from 1 0x80 0xBF bs ≡ text_good (a ∷ bs)
  unfolding span
  begun-two h k =
      sym (text-first a bs ∙ rw (first_two a bs (omega arith) k)
      (uniform _ _ true 1 _ bs (λ c l m. allowed-low _ _ c (omega arith) (omega arith) (omega arith) (omega arith))))

  -- behind 0xE0, below 0xA0, stands what two bytes can say
  pub begun-E0 : a ≡ 0xE0 → good_from 2 0xA0 0xBF bs ≡ text_good (a ∷ bs)
  unfolding span
  begun-E0 e =
      sym (text-first a bs ∙ rw (first_three a bs (omega arith) (omega arith))
      (led _ _ 1 _ _ _ (omega arith) (omega arith) (λ b h k c l m. allowed-low _ _ c (omega arith) (omega arith) (omega arith) (omega arith))
      (λ b h k d c l m. ⊎_elim (λ u. allowed-short _ _ c (omega arith)) (λ u. absurd (omega arith)) d) bs))

  -- behind 0xED, from 0xA0 on, stand the surrogates
  pub begun-ED : a ≡ 0xED → good_from 2 0x80 0x9F bs ≡ text_good (a ∷ bs)
  unfolding span
  begun-ED e =
      sym (text-first a bs ∙ rw (first_three a bs (omega arith) (omega arith))
      (led _ _ 1 _ _ _ (omega arith) (omega arith) (λ b h k c l m. allowed-low _ _ c (omega arith) (omega arith) (omega arith) (omega arith))
      (λ b h k d c l m. ⊎_elim (λ u. absurd (omega arith)) (λ u. allowed-surrogate _ _ c (omega arith) (omega arith)) d) bs))

  pub begun-three : 0xE1 ≤ a → (a ≡ 0xED → ⊥) → a ≤ 0xEF → good_from 2 0x80 0xBF bs ≡ text_good (a ∷ bs)
  unfolding span
  begun-three h d k = sym (text-first a bs ∙ rw (first_three a bs (omega arith) k) (uniform _ _ true 2 _ bs (λ c l m. by c l m (dec_lt a 0xED))))
    where
      by : (c : ℕ) → (a - 0xE0) * span 2 ≤ c → c < (a - 0xE0 + 1) * span 2 → Dec (a < 0xED) → allowed 0x800 0xFFFF c ≡ true
      by c l m (yes u) = allowed-low _ _ c (omega arith) (omega arith) (omega arith) (omega arith)
      by c l m (no u) = let v : 0xEE ≤ a = omega (arith, d) in allowed-high _ _ c (omega arith) (omega arith) (omega arith) (omega arith)

  -- behind 0xF0, below 0x90, stands what three bytes can say
  pub begun-F0 : a ≡ 0xF0 → good_from 3 0x90 0xBF bs ≡ text_good (a ∷ bs)
  unfolding span
  begun-F0 e =
      sym (text-first a bs ∙ rw (first-four a bs (omega arith) (omega arith))
      (led _ _ 2 _ _ _ (omega arith) (omega arith) (λ b h k c l m. allowed-high _ _ c (omega arith) (omega arith) (omega arith) (omega arith))
      (λ b h k d c l m. ⊎_elim (λ u. allowed-short _ _ c (omega arith)) (λ u. absurd (omega arith)) d) bs))

  -- behind 0xF4, from 0x90 on, stands what is above 0x10FFFF
  pub begun-F4 : a ≡ 0xF4 → good_from 3 0x80 0x8F bs ≡ text_good (a ∷ bs)
  unfolding span
  begun-F4 e =
      sym (text-first a bs ∙ rw (first-four a bs (omega arith) (omega arith))
      (led _ _ 2 _ _ _ (omega arith) (omega arith) (λ b h k c l m. allowed-high _ _ c (omega arith) (omega arith) (omega arith) (omega arith))
      (λ b h k d c l m. ⊎_elim (λ u. absurd (omega arith)) (λ u. allowed-beyond _ _ c (omega arith)) d) bs))

  pub begun-four : 0xF1 ≤ a → a ≤ 0xF3 → good_from 3 0x80 0xBF bs ≡ text_good (a ∷ bs)
  unfolding span
  begun-four h k =
      sym (text-first a bs ∙ rw (first-four a bs (omega arith) (omega arith))
      (uniform _ _ true 3 _ bs (λ c l m. allowed-high _ _ c (omega arith) (omega arith) (omega arith) (omega arith))))

  pub begun-beyond : 0xF5 ≤ a → good_from 1 1 0 bs ≡ text_good (a ∷ bs)
  unfolding span
  begun-beyond h = none (by (dec_lt a 0xF8))
    where
      by : Dec (a < 0xF8) → text_good (a ∷ bs) ≡ false
      by (yes k) = text-first a bs ∙ rw (first-four a bs (omega arith) (omega arith)) (uniform _ _ false 3 _ bs (λ c l m. allowed-beyond _ _ c (omega arith)))
      by (no k) = ill-first (first-beyond a bs (omega arith))

-- ---- one byte more, from any place
module _ (n lo hi b : ℕ) (bs : List ℕ) where
  pub from-begun : n ≡ 0 → text_good (b ∷ bs) ≡ good_from n lo hi (b ∷ bs)
  unfolding good_from
  from-begun e = rw e

  pub from-ascii : n ≡ 0 → ascii_good b ≡ true → good_from n lo hi bs ≡ good_from n lo hi (b ∷ bs)
  unfolding good_from
  from-ascii e f = rw e (begun-ascii b bs f)

  from_tail : 0 < n → good_from n lo hi (b ∷ bs) ≡ (within lo hi b && good_from (n - 1) 0x80 0xBF bs)
  unfolding good_from
  from_tail h = let e : n ≡ suc (n - 1) = omega arith in ap (λ k. good_from k lo hi (b ∷ bs)) e

  pub from_low : 0 < n → b < lo → good_from 1 1 0 bs ≡ good_from n lo hi (b ∷ bs)
  from_low h k = nowhere bs ∙ sym (from_tail h ∙ rw (within-below lo hi b k))

  pub from-high : 0 < n → hi < b → good_from 1 1 0 bs ≡ good_from n lo hi (b ∷ bs)
  from-high h k = nowhere bs ∙ sym (from_tail h ∙ rw (within-above lo hi b k))

  pub from-within : 0 < n → lo ≤ b → b ≤ hi → good_from (n - 1) 0x80 0xBF bs ≡ good_from n lo hi (b ∷ bs)
  from-within h k l = sym (from_tail h ∙ rw (within_in lo hi b k l))

-- ---- where a name starts, and where it may end
pub from_start : (lo hi : ℕ) (bs : List ℕ) → good_from 0 lo hi bs ≡ text_good bs
unfolding good_from
from_start lo hi bs = refl

pub from-nil : (n lo hi : ℕ) → eqb n 0 ≡ good_from n lo hi []
unfolding good_from
from-nil zero lo hi = sym text-nil
from-nil (suc n) lo hi = ne_eqb (suc n) 0 (omega arith)
