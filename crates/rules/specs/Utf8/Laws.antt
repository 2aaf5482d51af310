-- Laws of UTF-8: ranges, decoding character by character, and the table both ways.
use Rattle.std.specs.Prelude.{ℕ, zero, suc, ◌+◌, ◌-◌, ◌*◌, ◌/◌, ◌%◌, ◌≤◌, ◌<◌, ◌≡◌, refl, Bool, true, false, ◌&&◌, not, List, [], ◌∷◌, ◌++◌, length, leb}
use Rattle.std.proofs.Common.{sym, ◌∙◌, arith}
use Rattle.std.proofs.Math.Path.{ap}
use Rattle.std.proofs.Math.Option.{Option, none, some}
use Rattle.std.proofs.Math.Decide.{dec_lt}
use borrow.Author.Tests.{le-leb, lt-leb, leb-true}
use Rattle.rules.specs.Lists.{pick, all}
use Rattle.rules.specs.Lists.Laws.{and-true, and_both, and_left, and_right}
use Rattle.rules.specs.Utf8.{within, is_code, encode, encode_all, First, ill, char, tails, row, first_char, also, onward, decode_to, decode, DecodeEquation}

-- ---- ranges
module _ (lo hi c : ℕ) where
  pub within_in : lo ≤ c → c ≤ hi → within lo hi c ≡ true
  unfolding within
  within_in h k = and_both _ _ (le-leb lo c h) (le-leb c hi k)

  pub within-below : c < lo → within lo hi c ≡ false
  unfolding within
  within-below h = and_left _ _ (lt-leb lo c h)

  pub within-above : hi < c → within lo hi c ≡ false
  unfolding within
  within-above h = and_right (leb lo c) _ (lt-leb c hi h)

  pub within-true : within lo hi c ≡ true → (lo ≤ c) × (c ≤ hi)
  unfolding within
  within-true e = let r = and-true (leb lo c) (leb c hi) e in (leb-true _ _ r.0, leb-true _ _ r.1)

-- below the surrogates, among them and above
module _ (c : ℕ) where
  pub code_below : c < 0xD800 → is_code c ≡ true
  unfolding is_code
  code_below h = rw (le-leb c 0x10FFFF (omega arith), within-below 0xD800 0xDFFF c h)

  pub code-surrogate : 0xD800 ≤ c → c ≤ 0xDFFF → is_code c ≡ false
  unfolding is_code
  code-surrogate h k = rw (within_in 0xD800 0xDFFF c h k, le-leb c 0x10FFFF (omega arith))

  pub code-above : 0xDFFF < c → c ≤ 0x10FFFF → is_code c ≡ true
  unfolding is_code
  code-above h k = rw (le-leb c 0x10FFFF k, within-above 0xD800 0xDFFF c h)

-- ---- the rows of `first_char`, by the first byte
module _ (a : ℕ) (bs : List ℕ) where
  pub first_one : a ≤ 0x7F → first_char (a ∷ bs) ≡ char a bs
  unfolding first_char pick row tails
  first_one h = rw (within_in 0x00 0x7F a (omega arith) h, code_below a (omega arith))

  pub first-stray : 0x80 ≤ a → a ≤ 0xBF → first_char (a ∷ bs) ≡ ill
  unfolding first_char pick
  first-stray h k =
      rw (
        within-above 0x00 0x7F a h,
        within-below 0xC0 0xDF a (omega arith),
        within-below 0xE0 0xEF a (omega arith),
        within-below 0xF0 0xF7 a (omega arith),
      )

  pub first_two : 0xC0 ≤ a → a ≤ 0xDF → first_char (a ∷ bs) ≡ row 0x80 0x7FF (tails 1 (a - 0xC0) bs)
  unfolding first_char pick
  first_two h k = rw (within-above 0x00 0x7F a (omega arith), within_in 0xC0 0xDF a h k)

  pub first_three : 0xE0 ≤ a → a ≤ 0xEF → first_char (a ∷ bs) ≡ row 0x800 0xFFFF (tails 2 (a - 0xE0) bs)
  unfolding first_char pick
  first_three h k = rw (within-above 0x00 0x7F a (omega arith), within-above 0xC0 0xDF a (omega arith), within_in 0xE0 0xEF a h k)

  pub first-four : 0xF0 ≤ a → a ≤ 0xF7 → first_char (a ∷ bs) ≡ row 0x10000 0x10FFFF (tails 3 (a - 0xF0) bs)
  unfolding first_char pick
  first-four h k =
      rw (
        within-above 0x00 0x7F a (omega arith),
        within-above 0xC0 0xDF a (omega arith),
        within-above 0xE0 0xEF a (omega arith),
        within_in 0xF0 0xF7 a h k,
      )

  pub first-beyond : 0xF8 ≤ a → first_char (a ∷ bs) ≡ ill
  unfolding first_char pick
  first-beyond h =
      rw (
        within-above 0x00 0x7F a (omega arith),
        within-above 0xC0 0xDF a (omega arith),
        within-above 0xE0 0xEF a (omega arith),
        within-above 0xF0 0xF7 a (omega arith),
      )

-- ---- decoding, one character at a time: the count never runs out
data Shorter : First → ℕ → Type 0 where
  of-ill : {n : ℕ} → Shorter ill n
  of_char : {c : ℕ} {bs : List ℕ} {n : ℕ} → length bs < n → Shorter (char c bs) n

either : (t : Bool) (x y : First) (n : ℕ) → Shorter x n → Shorter y n → Shorter (pick t x y) n
unfolding pick
either true x y n a b = a
either false x y n a b = b

tails-shorter : (n c : ℕ) (bs : List ℕ) (m : ℕ) → length bs < m → Shorter (tails n c bs) m
unfolding tails
tails-shorter zero c bs m h = of_char h
tails-shorter (suc n) c [] m h = of-ill
tails-shorter (suc n) c (b ∷ bs) m h = either _ _ _ _ (tails-shorter n _ bs m (omega arith)) of-ill

row-shorter : (lo hi : ℕ) (f : First) (n : ℕ) → Shorter f n → Shorter (row lo hi f) n
unfolding row
row-shorter lo hi ill n s = of-ill
row-shorter lo hi (char c bs) n s = either _ _ _ _ s of-ill

first-shorter : (a : ℕ) (bs : List ℕ) → Shorter (first_char (a ∷ bs)) (suc (length bs))
unfolding first_char
first-shorter a bs =
    either _ _ _ _ (behind 0 a _ _)
    (either _ _ _ _ (behind 1 (a - 0xC0) _ _)
    (either _ _ _ _ (behind 2 (a - 0xE0) _ _)
    (either _ _ _ _ (behind 3 (a - 0xF0) _ _) of-ill)))
  where
    behind : (n c lo hi : ℕ) → Shorter (row lo hi (tails n c bs)) (suc (length bs))
    behind n c lo hi = row-shorter lo hi _ _ (tails-shorter n c bs _ (omega arith))

onward-same : (f : First) (n : ℕ) (k l : List ℕ → Option (List ℕ)) → Shorter f n → ((bs : List ℕ) → length bs < n → k bs ≡ l bs) → onward f k ≡ onward f l
unfolding onward
onward-same ill n k l s e = refl
onward-same (char c bs) n k l (of_char h) e = ap (also c) (e bs h)

count : (n m : ℕ) (bs : List ℕ) → length bs ≤ n → length bs ≤ m → decode_to n bs ≡ decode_to m bs
unfolding decode_to
count zero zero [] h k = refl
count zero (suc m) [] h k = refl
count (suc n) zero [] h k = refl
count (suc n) (suc m) [] h k = refl
count zero m (b ∷ bs) h k = absurd (omega arith)
count (suc n) zero (b ∷ bs) h k = absurd (omega arith)
count (suc n) (suc m) (b ∷ bs) h k = onward-same (first_char (b ∷ bs)) _ _ _ (first-shorter b bs) (λ cs l. count n m cs (omega arith) (omega arith))

pub decode-equation : DecodeEquation
unfolding decode decode_to
decode-equation = (
  refl,
  λ b bs. onward-same (first_char (b ∷ bs)) _ _ _ (first-shorter b bs)
      (λ cs l. count (length bs) (length cs) cs (omega arith) (omega arith)),
)

-- ---- THE TABLE FROM LEFT TO RIGHT AND BACK: every list of codes is read from its bytes
module _ (c : ℕ) where
  pub encode_one : c ≤ 0x7F → encode c ≡ c ∷ []
  unfolding encode pick
  encode_one h = rw (le-leb c 0x7F h)

  pub encode-two : 0x7F < c → c ≤ 0x7FF → encode c ≡ (0xC0 + c / 64) ∷ (0x80 + c % 64) ∷ []
  unfolding encode pick
  encode-two h k = rw (lt-leb c 0x7F h, le-leb c 0x7FF k)

  pub encode-three : 0x7FF < c → c ≤ 0xFFFF → encode c ≡ (0xE0 + c / 4096) ∷ (0x80 + c / 64 % 64) ∷ (0x80 + c % 64) ∷ []
  unfolding encode pick
  encode-three h k = rw (lt-leb c 0x7F (omega arith), lt-leb c 0x7FF h, le-leb c 0xFFFF k)

  pub encode-four : 0xFFFF < c → encode c ≡ (0xF0 + c / 262144) ∷ (0x80 + c / 4096 % 64) ∷ (0x80 + c / 64 % 64) ∷ (0x80 + c % 64) ∷ []
  unfolding encode pick
  encode-four h = rw (lt-leb c 0x7F (omega arith), lt-leb c 0x7FF (omega arith), lt-leb c 0xFFFF h)

-- a code is small enough
code-most : (c : ℕ) → is_code c ≡ true → c ≤ 0x10FFFF
unfolding is_code
code-most c e = leb-true _ _ (and-true (leb c 0x10FFFF) (not (within 0xD800 0xDFFF c)) e).0

tail-in : (n c b : ℕ) (bs : List ℕ) → 0x80 ≤ b → b ≤ 0xBF → tails (suc n) c (b ∷ bs) ≡ tails n (c * 64 + (b - 0x80)) bs
unfolding tails pick
tail-in n c b bs h k = rw (within_in 0x80 0xBF b h k)

-- the bits of a code that are left, one row at a time
module _ (c : ℕ) (bs : List ℕ) where
  last-tail : (h : ℕ) → h ≡ c / 64 → tails 1 h ((0x80 + c % 64) ∷ bs) ≡ char c bs
  unfolding tails
  last-tail h e = tail-in 0 h _ bs (omega arith) (omega arith) ∙ ap (λ k. char k bs) (omega arith)

  two-tails : (h : ℕ) → h ≡ c / 4096 → tails 2 h ((0x80 + c / 64 % 64) ∷ (0x80 + c % 64) ∷ bs) ≡ char c bs
  two-tails h e = tail-in 1 h _ _ (omega arith) (omega arith) ∙ last-tail _ (omega arith)

  three-tails : (h : ℕ) → h ≡ c / 262144 → tails 3 h ((0x80 + c / 4096 % 64) ∷ (0x80 + c / 64 % 64) ∷ (0x80 + c % 64) ∷ bs) ≡ char c bs
  three-tails h e = tail-in 2 h _ _ (omega arith) (omega arith) ∙ two-tails _ (omega arith)

  row_in : (lo hi : ℕ) → lo ≤ c → c ≤ hi → is_code c ≡ true → row lo hi (char c bs) ≡ char c bs
  unfolding row pick
  row_in lo hi h k e = rw (within_in lo hi c h k, e)

  first-encode : is_code c ≡ true → first_char (encode c ++ bs) ≡ char c bs
  first-encode e = go (dec_lt 0x7F c) (dec_lt 0x7FF c) (dec_lt 0xFFFF c)
    where
      go : Dec (0x7F < c) → Dec (0x7FF < c) → Dec (0xFFFF < c) → first_char (encode c ++ bs) ≡ char c bs
      go (no h) i j = rw (encode_one c (omega arith)) (first_one c bs (omega arith))
      go (yes h) (no i) j =
          rw (encode-two c h (omega arith))
          (first_two _ _ (omega arith) (omega arith) ∙ ap (row 0x80 0x7FF) (last-tail _ (omega arith)) ∙ row_in _ _ (omega arith) (omega arith) e)
      go (yes h) (yes i) (no j) =
          rw (encode-three c i (omega arith))
          (first_three _ _ (omega arith) (omega arith) ∙ ap (row 0x800 0xFFFF) (two-tails _ (omega arith)) ∙ row_in _ _ (omega arith) (omega arith) e)
      go (yes h) (yes i) (yes j) =
          rw (encode-four c j)
          (first-four _ _ (omega arith) (omega (arith, code-most c e)) ∙ ap (row 0x10000 0x10FFFF) (three-tails _ (omega arith))
          ∙ row_in _ _ (omega arith) (code-most c e) e)

decode-first : (xs bs : List ℕ) (c : ℕ) → first_char xs ≡ char c bs → decode xs ≡ also c (decode bs)
unfolding first_char onward
decode-first [] bs c e = let z : ◌≡◌ {A = ℕ} 0 1 = cc in absurd (omega arith)
decode-first (x ∷ xs) bs c e = decode-equation.1 x xs ∙ ap (λ f. onward f decode) e

pub decode-encode : (cs : List ℕ) → all is_code cs ≡ true → decode (encode_all cs) ≡ some cs
unfolding encode_all all also
decode-encode [] e = decode-equation.0
decode-encode (c ∷ cs) e =
    let (p, q) = and-true (is_code c) (all is_code cs) e in
    decode-first (encode c ++ encode_all cs) (encode_all cs) c (first-encode c (encode_all cs) p) ∙ rw (decode-encode cs q)

-- ---- AND FROM RIGHT TO LEFT: bytes that decode are the bytes of what they decode to, and nothing but codes is decoded
abbrev Encoded : List ℕ → ℕ → List ℕ → Type 0
Encoded bs c rest = (encode c ++ rest ≡ bs) × (is_code c ≡ true)

-- what a row, and a tail, that passed tell
row-passed : (lo hi : ℕ) (f : First) (c : ℕ) (rest : List ℕ) → row lo hi f ≡ char c rest → (f ≡ char c rest) × (lo ≤ c) × (c ≤ hi) × (is_code c ≡ true)
unfolding row pick
row-passed lo hi ill c rest e = let z : ◌≡◌ {A = ℕ} 0 1 = cc in absurd (omega arith)
row-passed lo hi (char k bs) c rest e = by (within lo hi k) (is_code k) refl refl e
  where
    by : (t u : Bool) → within lo hi k ≡ t → is_code k ≡ u → pick (t && u) (char k bs) ill ≡ char c rest
        → (char k bs ≡ char c rest) × (lo ≤ c) × (c ≤ hi) × (is_code c ≡ true)
    by true true p q f =
        let d : k ≡ c = cc in
        let (u, v) = within-true lo hi k p in
        (f, rw (← d) u, rw (← d) v, rw (← d) q)
    by true false p q f = let z : ◌≡◌ {A = ℕ} 0 1 = cc in absurd (omega arith)
    by false u p q f = let z : ◌≡◌ {A = ℕ} 0 1 = cc in absurd (omega arith)

record Tailed (n h : ℕ) (bs : List ℕ) (c : ℕ) (rest : List ℕ) : Type 0 where
  byte : ℕ
  more : List ℕ
  made : bs ≡ byte ∷ more
  low : 0x80 ≤ byte
  high : byte ≤ 0xBF
  goes : tails n (h * 64 + (byte - 0x80)) more ≡ char c rest

tail-passed : (n h : ℕ) (bs : List ℕ) (c : ℕ) (rest : List ℕ) → tails (suc n) h bs ≡ char c rest → Tailed n h bs c rest
unfolding tails pick
tail-passed n h [] c rest e = let z : ◌≡◌ {A = ℕ} 0 1 = cc in absurd (omega arith)
tail-passed n h (b ∷ bs) c rest e = by (within 0x80 0xBF b) refl e
  where
    by : (t : Bool) → within 0x80 0xBF b ≡ t → pick t (tails n (h * 64 + (b - 0x80)) bs) ill ≡ char c rest → Tailed n h (b ∷ bs) c rest
    by true p f = let (u, v) = within-true 0x80 0xBF b p in record { byte = b; more = bs; made = refl; low = u; high = v; goes = f }
    by false p f = let z : ◌≡◌ {A = ℕ} 0 1 = cc in absurd (omega arith)

no-tails : (h : ℕ) (bs : List ℕ) (c : ℕ) (rest : List ℕ) → tails 0 h bs ≡ char c rest → (c ≡ h) × (rest ≡ bs)
unfolding tails
no-tails h bs c rest e = (cc, cc)

-- the tails are those of the code, whatever the bits in front of them
module _ (c : ℕ) (rest : List ℕ) where
  tails-one : (h : ℕ) (bs : List ℕ) → tails 1 h bs ≡ char c rest → (bs ≡ (0x80 + c % 64) ∷ rest) × (h ≡ c / 64)
  tails-one h bs e =
      let t = tail-passed 0 h bs c rest e in
      let (p, q) = no-tails _ _ c rest t.goes in
      let b : t.byte ≡ 0x80 + c % 64 = omega (arith, t.low, t.high) in
      (t.made ∙ rw (b, ← q), omega (arith, t.low, t.high))

  tails-two : (h : ℕ) (bs : List ℕ) → tails 2 h bs ≡ char c rest → (bs ≡ (0x80 + c / 64 % 64) ∷ (0x80 + c % 64) ∷ rest) × (h ≡ c / 4096)
  tails-two h bs e =
      let t = tail-passed 1 h bs c rest e in
      let (p, q) = tails-one _ _ t.goes in
      let b : t.byte ≡ 0x80 + c / 64 % 64 = omega (arith, t.low, t.high) in
      (t.made ∙ rw (b, p), omega (arith, t.low, t.high))

  tails-three : (h : ℕ) (bs : List ℕ) → tails 3 h bs ≡ char c rest
      → (bs ≡ (0x80 + c / 4096 % 64) ∷ (0x80 + c / 64 % 64) ∷ (0x80 + c % 64) ∷ rest) × (h ≡ c / 262144)
  tails-three h bs e =
      let t = tail-passed 2 h bs c rest e in
      let (p, q) = tails-two _ _ t.goes in
      let b : t.byte ≡ 0x80 + c / 4096 % 64 = omega (arith, t.low, t.high) in
      (t.made ∙ rw (b, p), omega (arith, t.low, t.high))

encode-first : (a : ℕ) (bs : List ℕ) (c : ℕ) (rest : List ℕ) → first_char (a ∷ bs) ≡ char c rest → Encoded (a ∷ bs) c rest
encode-first a bs c rest e = go (dec_lt a 0x80) (dec_lt a 0xC0) (dec_lt a 0xE0) (dec_lt a 0xF0) (dec_lt a 0xF8)
  where
    not-ill : first_char (a ∷ bs) ≡ ill → Encoded (a ∷ bs) c rest
    not-ill f = let z : ◌≡◌ {A = ℕ} 0 1 = cc in absurd (omega arith)

    one : a ≤ 0x7F → char a bs ≡ char c rest → Encoded (a ∷ bs) c rest
    one h f =
        let p : c ≡ a = cc in
        let q : rest ≡ bs = cc in
        rw (p, q) (rw (encode_one a h), code_below a (omega arith))

    go : Dec (a < 0x80) → Dec (a < 0xC0) → Dec (a < 0xE0) → Dec (a < 0xF0) → Dec (a < 0xF8) → Encoded (a ∷ bs) c rest
    go (yes h) i j k l = one (omega arith) (sym (first_one a bs (omega arith)) ∙ e)
    go (no h) (yes i) j k l = not-ill (first-stray a bs (omega arith) (omega arith))
    go (no h) (no i) (yes j) k l =
        let (f, u, v, w) = row-passed _ _ _ _ _ (sym (first_two a bs (omega arith) (omega arith)) ∙ e) in
        let (p, q) = tails-one c rest _ _ f in
        let b : 0xC0 + c / 64 ≡ a = omega arith in
        (rw (encode-two c (omega arith) v, b, p), w)
    go (no h) (no i) (no j) (yes k) l =
        let (f, u, v, w) = row-passed _ _ _ _ _ (sym (first_three a bs (omega arith) (omega arith)) ∙ e) in
        let (p, q) = tails-two c rest _ _ f in
        let b : 0xE0 + c / 4096 ≡ a = omega arith in
        (rw (encode-three c (omega arith) v, b, p), w)
    go (no h) (no i) (no j) (no k) (yes l) =
        let (f, u, v, w) = row-passed _ _ _ _ _ (sym (first-four a bs (omega arith) (omega arith)) ∙ e) in
        let (p, q) = tails-three c rest _ _ f in
        let b : 0xF0 + c / 262144 ≡ a = omega arith in
        (rw (encode-four c (omega arith), b, p), w)
    go (no h) (no i) (no j) (no k) (no l) = not-ill (first-beyond a bs (omega arith))

abbrev BytesOf : List ℕ → List ℕ → Type 0
BytesOf bs cs = (encode_all cs ≡ bs) × (all is_code cs ≡ true)

also-made : (r : Option (List ℕ)) (c : ℕ) (cs bs rest : List ℕ) → Encoded bs c rest → ((ds : List ℕ) → r ≡ some ds → BytesOf rest ds)
    → also c r ≡ some cs → BytesOf bs cs
unfolding also encode_all all
also-made none c cs bs rest w m e = let z : ◌≡◌ {A = ℕ} 0 1 = cc in absurd (omega arith)
also-made (some ds) c cs bs rest w m e =
    let f : cs ≡ c ∷ ds = cc in
    let (p, q) = m ds refl in
    rw f (rw p w.0, and_both _ _ w.1 q)

onward-made : (f : First) (k : List ℕ → Option (List ℕ)) (b : ℕ) (bs cs : List ℕ) → first_char (b ∷ bs) ≡ f
    → ((rest ds : List ℕ) → k rest ≡ some ds → BytesOf rest ds)
    → onward f k ≡ some cs → BytesOf (b ∷ bs) cs
unfolding onward
onward-made ill k b bs cs p m e = let z : ◌≡◌ {A = ℕ} 0 1 = cc in absurd (omega arith)
onward-made (char c rest) k b bs cs p m e = also-made (k rest) c cs (b ∷ bs) rest (encode-first b bs c rest p) (m rest) e

nil-made : (cs : List ℕ) → some [] ≡ some cs → BytesOf [] cs
unfolding encode_all all
nil-made cs e = let f : cs ≡ [] = cc in rw f (refl, refl)

decode_to-made : (n : ℕ) (bs cs : List ℕ) → decode_to n bs ≡ some cs → BytesOf bs cs
unfolding decode_to
decode_to-made zero [] cs e = nil-made cs e
decode_to-made (suc n) [] cs e = nil-made cs e
decode_to-made zero (b ∷ bs) cs e = let z : ◌≡◌ {A = ℕ} 0 1 = cc in absurd (omega arith)
decode_to-made (suc n) (b ∷ bs) cs e = onward-made (first_char (b ∷ bs)) (decode_to n) b bs cs refl (λ rest ds. decode_to-made n rest ds) e

pub encode-decode : (bs cs : List ℕ) → decode bs ≡ some cs → (encode_all cs ≡ bs) × (all is_code cs ≡ true)
unfolding decode
encode-decode bs cs e = decode_to-made (length bs) bs cs e
