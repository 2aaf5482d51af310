-- Laws of fields: little-endian numbers of any width, what writing leaves, and the turns of loops that read and write.
use Prim.Native.Nat.{ℕ, zero, suc, ◌+◌, ◌-◌, ◌*◌, ◌/◌, ◌%◌, ◌^◌, ◌≤◌, ◌<◌}
use Rattle.std.specs.Prelude.{◌≡◌, refl, List, [], ◌∷◌, ◌++◌, replicate, take, set, ltb, true}
use Rattle.std.proofs.Common.{sym, ◌∙◌, append_assoc, append-nil, add-one, one-add, add-zero, zero-add, add_assoc, length-append, length-drop, take-append-drop, drop_of_length-le, drop-cons, drop-drop, take_at, drop_at, take-suc-set, drop-set-lt, pow-add, eq-eqb, ne_eqb, lt-ltb}
use Rattle.std.proofs.Math.Path.{ap}
use native.Mathlib.Omega.{arith}
use Rattle.std.proofs.lemmas.List.{length-replicate}
use Rattle.std.proofs.Math.ListN.{length, get_or, drop, length-take, get_or-append}
use Rattle.std.proofs.Math.Seq.{drop-append-add, drop-length, get_or-append-add, get_or-take, get_or-drop, length-take-le, take-append-add, take-append_seam}
use borrow.Rule.Slice.PartMut.{put_mid, Post-is}
use Rattle.std.proofs.Math.Decide.{ℕ_discrete}
use Rattle.rules.specs.Lists.Laws.{pick_true, pick-false}
use Rattle.std.proofs.Math.Dec.{leb-suc-suc}
use Rattle.rules.specs.Lists.{sum, part, padded}
use Rattle.rules.specs.Fields.{Bytes, le, le_bytes, splice, byte_sum, checks, checksum_of, up_to_zero, has_zero, byte_at}
use Rattle.rules.specs.Lists.Laws.{get_d_part, part_ext}

-- ---- le

pub le-suc : (w : ℕ) (s : List ℕ) (at : ℕ) → le (suc w) s at ≡ get_or s at 0 + 256 * le w s (at + 1)
unfolding le
le-suc w s at = refl

pub le-1 : (s : List ℕ) (at : ℕ) → le 1 s at ≡ get_or s at 0
unfolding le
le-1 s at = omega arith

pub pow_step : (w : ℕ) → 2 ^ (8 * suc w) ≡ 256 * 2 ^ (8 * w)
pow_step w = ap (λ (k : ℕ). 2 ^ k) (omega arith) ∙ pow-add 2 8 (8 * w)

-- a number of w bytes is below 2 ^ (8 w)
pub le-lt : (w : ℕ) (s : List ℕ) (at : ℕ) → Bytes s → le w s at < 2 ^ (8 * w)
unfolding le
le-lt zero s at h = omega arith
le-lt (suc w) s at h = omega (arith, h at, le-lt w s (at + 1) h, pow_step w)

-- it is what its bytes are
pub le-ext : (w : ℕ) (s t : List ℕ) (at at' : ℕ) → ((i : ℕ) → i < w → get_or s (at + i) 0 ≡ get_or t (at' + i) 0) → le w s at ≡ le w t at'
unfolding le
le-ext zero s t at at' h = refl
le-ext (suc w) s t at at' h =
    let h₀ : get_or s at 0 ≡ get_or t at' 0 = simp add-zero at (h 0 (omega arith)) in
    let e : le w s (at + 1) ≡ le w t (at' + 1) = le-ext w s t (at + 1) (at' + 1) (λ i hi. simp add_assoc (h (1 + i) (omega arith))) in
    omega arith

-- ---- le_bytes

pub length-le_bytes : (w v : ℕ) → length (le_bytes w v) ≡ w
unfolding le_bytes
length-le_bytes zero v = refl
length-le_bytes (suc w) v = ap suc (length-le_bytes w (v / 256))

pub le_bytes-zero : (v : ℕ) → le_bytes 0 v ≡ []
unfolding le_bytes
le_bytes-zero v = refl

pub le_bytes-suc : (w v : ℕ) → le_bytes (suc w) v ≡ v % 256 ∷ le_bytes w (v / 256)
unfolding le_bytes
le_bytes-suc w v = refl

-- ---- splice

pub splice-nil : (s : List ℕ) (at : ℕ) → splice s at [] ≡ s
unfolding splice
splice-nil s at = rw add-zero (take-append-drop at s)

-- a turn of a loop that writes: one store, and the rest from the next place on
pub splice-cons : (s : List ℕ) (at b : ℕ) (bs : List ℕ) → at < length s → splice s at (b ∷ bs) ≡ splice (set s at b) (at + 1) bs
unfolding splice
splice-cons s at b bs h =
    let e : at + suc (length bs) ≡ at + 1 + length bs = omega arith in
    let d : drop (at + 1 + length bs) (set s at b) ≡ drop (at + 1 + length bs) s = drop-set-lt (at + 1 + length bs) s at b (omega arith) in
    let t : take (at + 1) (set s at b) ≡ take at s ++ (b ∷ []) = rw add-one (take-suc-set s at b h) in
    rw (e, d, t) (sym (append_assoc (take at s) (b ∷ []) (bs ++ drop (at + 1 + length bs) s)))

module _ (s : List ℕ) (at : ℕ) (bs : List ℕ) (fits : at + length bs ≤ length s) where
  pub length-splice : length (splice s at bs) ≡ length s
  unfolding splice
  length-splice = simp (length-append, length-take, length-drop) (omega arith)

  -- before, within and after what was written
  pub get_or-splice-before : (i : ℕ) → i < at → get_or (splice s at bs) i 0 ≡ get_or s i 0
  unfolding splice
  get_or-splice-before i h =
      let l : length (take at s) ≡ at = length-take-le at s (omega arith) in
      get_or-append (take at s) (bs ++ drop (at + length bs) s) 0 i (omega arith) ∙ get_or-take at s i 0 h

  pub get_or-splice-in : (i : ℕ) → i < length bs → get_or (splice s at bs) (at + i) 0 ≡ get_or bs i 0
  unfolding splice
  get_or-splice-in i h =
      let l : length (take at s) ≡ at = length-take-le at s (omega arith) in
      let e : get_or (take at s ++ (bs ++ drop (at + length bs) s)) (length (take at s) + i) 0 ≡ get_or (bs ++ drop (at + length bs) s) i 0 = get_or-append-add (take at s) (bs ++ drop (at + length bs) s) i 0 in
      (rw l at e) ∙ get_or-append bs (drop (at + length bs) s) 0 i h

  pub get_or-splice-after : (i : ℕ) → at + length bs ≤ i → get_or (splice s at bs) i 0 ≡ get_or s i 0
  unfolding splice
  get_or-splice-after i h =
      let l : length (take at s) ≡ at = length-take-le at s (omega arith) in
      let j : ℕ = i - (at + length bs) in
      let ei : i ≡ length (take at s) + (length bs + j) = omega arith in
      let ek : at + length bs + j ≡ i = omega arith in
      ap (λ (k : ℕ). get_or (take at s ++ (bs ++ drop (at + length bs) s)) k 0) ei
      ∙ get_or-append-add (take at s) (bs ++ drop (at + length bs) s) (length bs + j) 0
      ∙ get_or-append-add bs (drop (at + length bs) s) j 0
      ∙ get_or-drop (at + length bs) s j 0
      ∙ ap (λ (k : ℕ). get_or s k 0) ek

  pub le-splice-after : (w a : ℕ) → at + length bs ≤ a → le w (splice s at bs) a ≡ le w s a
  le-splice-after w a h = le-ext w (splice s at bs) s a a (λ i hi. get_or-splice-after (a + i) (omega arith))

  -- and one that was written reads as what was written
  pub le-splice-in : le (length bs) (splice s at bs) at ≡ le (length bs) bs 0
  le-splice-in = le-ext (length bs) (splice s at bs) bs at 0 (λ i hi. get_or-splice-in i hi ∙ ap (λ (k : ℕ). get_or bs k 0) (omega arith))

-- a number in a list that begins with one byte more
le-shift : (w b : ℕ) (bs : List ℕ) → le w (b ∷ bs) 1 ≡ le w bs 0
le-shift w b bs = le-ext w (b ∷ bs) bs 1 0 (λ i hi. rw (one-add, zero-add))

-- what w bytes of v say: v, where it fits them
pub le-le_bytes : (w v : ℕ) → v < 2 ^ (8 * w) → le w (le_bytes w v) 0 ≡ v
unfolding le le_bytes
le-le_bytes zero v h = omega arith
le-le_bytes (suc w) v h =
    let r : le w (le_bytes w (v / 256)) 0 ≡ v / 256 = le-le_bytes w (v / 256) (omega (arith, pow_step w)) in
    omega (arith, le-shift w (v % 256) (le_bytes w (v / 256)))

-- the bytes of what w bytes say are those bytes
pub le_bytes-le : (w : ℕ) (s : List ℕ) (at : ℕ) → Bytes s → (j : ℕ) → j < w → get_or (le_bytes w (le w s at)) j 0 ≡ get_or s (at + j) 0
unfolding le le_bytes
le_bytes-le zero s at h j l = absurd (omega arith)
le_bytes-le (suc w) s at h zero l = simp add-zero (omega (arith, h at))
le_bytes-le (suc w) s at h (suc j) l =
    let b : ℕ = get_or s at 0 in
    let q : (b + 256 * le w s (at + 1)) / 256 ≡ le w s (at + 1) = omega (arith, h at) in
    let n : at + 1 + j ≡ at + suc j = omega arith in
    ap (λ (v : ℕ). get_or (le_bytes w v) j 0) q ∙ le_bytes-le w s (at + 1) h j (omega arith) ∙ ap (λ (i : ℕ). get_or s i 0) n

-- ---- a turn of a loop

-- writing n bytes of x from o up: one store, and then n - 1 bytes of x / 256 from o + 1
pub put_up : (s : List ℕ) (o n x : ℕ) → 0 < n → o < length s → splice (set s o (x % 256)) (o + 1) (le_bytes (n - 1) (x / 256)) ≡ splice s o (le_bytes n x)
put_up s o n x h k =
    let en : n ≡ suc (n - 1) = omega arith in
    sym (ap (λ (m : ℕ). splice s o (le_bytes m x)) en ∙ ap (splice s o) (le_bytes-suc (n - 1) x) ∙ splice-cons s o (x % 256) (le_bytes (n - 1) (x / 256)) k)

-- ---- writers

-- the same, with nothing before
pub splice-turn₀ : (s : List ℕ) (i : ℕ) (bs : List ℕ) → i < length s → i < length bs
    → splice (set s i (get_or bs i 0)) (i + 1) (drop (i + 1) bs) ≡ splice s i (drop i bs)
splice-turn₀ s i bs h k =
    sym (ap (splice s i) (drop-cons bs i 0 k) ∙ splice-cons s i (get_or bs i 0) (drop (suc i) bs) h ∙ rw (← add-one i))

-- a turn of a loop that writes n times the same
pub fill-turn : (s : List ℕ) (i n v : ℕ) → i < length s → i < n
    → splice (set s i v) (i + 1) (replicate (n - (i + 1)) v) ≡ splice s i (replicate (n - i) v)
fill-turn s i n v h k =
    let e : n - i ≡ suc (n - (i + 1)) = omega arith in
    sym (ap (λ (m : ℕ). splice s i (replicate m v)) e ∙ splice-cons s i v (replicate (n - (i + 1)) v) h)

-- two writings side by side are one
pub splice-splice : (s : List ℕ) (at : ℕ) (xs ys : List ℕ) → at + (length xs + length ys) ≤ length s
    → splice (splice s at xs) (at + length xs) ys ≡ splice s at (xs ++ ys)
unfolding splice
splice-splice s at xs ys h =
    let l : length (take at s) ≡ at = length-take-le at s (omega arith) in
    let t : length (take at s ++ xs) ≡ at + length xs = length-append (take at s) xs ∙ rw l in
    let a : take at s ++ (xs ++ drop (at + length xs) s) ≡ (take at s ++ xs) ++ drop (at + length xs) s = sym (append_assoc (take at s) xs (drop (at + length xs) s)) in
    let d : drop (at + length xs + length ys) ((take at s ++ xs) ++ drop (at + length xs) s) ≡ drop (at + (length xs + length ys)) s =
    ap (λ (k : ℕ). drop (k + length ys) ((take at s ++ xs) ++ drop (at + length xs) s)) (sym t)
    ∙ drop-append-add (take at s ++ xs) (drop (at + length xs) s) (length ys)
    ∙ drop-drop (length ys) (at + length xs) s
    ∙ rw add_assoc in
    rw (a, take_at (take at s ++ xs) (drop (at + length xs) s) (at + length xs) t, d, length-append xs ys)
    (append_assoc (take at s) xs (ys ++ drop (at + (length xs + length ys)) s) ∙ ap (λ (r : List ℕ). take at s ++ r) (sym (append_assoc xs ys (drop (at + (length xs + length ys)) s))))

-- a writing of the whole
pub splice_all : (s bs : List ℕ) → length bs ≡ length s → splice s 0 bs ≡ bs
unfolding splice
splice_all s bs h = let z : 0 + length bs ≡ length s = omega arith in rw (z, drop-length, append-nil)

-- `&mut s[a..e]` was lent and has come back as ys: what the logic has of the whole is a splice
pub lent_back : (s : List ℕ) (a e : ℕ) (ys : List ℕ) → a ≤ e → e ≤ length s → length ys ≡ e - a → put_mid a (e - a) s ys ≡ splice s a ys
unfolding splice
lent_back s a e ys h k l = let z : a + length ys ≡ e = omega arith in rw (Post-is a e s h, z)

-- ---- sums of bytes
pub byte_sum-nil : byte_sum [] ≡ 0
unfolding byte_sum sum
byte_sum-nil = refl

pub byte_sum-cons : (b : ℕ) (bs : List ℕ) → byte_sum (b ∷ bs) ≡ b + byte_sum bs
unfolding byte_sum sum
byte_sum-cons b bs = refl

pub byte_sum-append : (xs ys : List ℕ) → byte_sum (xs ++ ys) ≡ byte_sum xs + byte_sum ys
unfolding byte_sum sum
byte_sum-append [] ys = omega arith
byte_sum-append (x ∷ xs) ys = omega (arith, byte_sum-append xs ys)

-- zeros behind bytes add nothing
pub byte_sum-zeros : (n : ℕ) → byte_sum (replicate n 0) ≡ 0
unfolding byte_sum sum
byte_sum-zeros zero = refl
byte_sum-zeros (suc n) = omega (arith, byte_sum-zeros n)

pub byte_sum-padded : (xs : List ℕ) (n : ℕ) → byte_sum (padded xs n) ≡ byte_sum xs
unfolding padded
byte_sum-padded xs n = byte_sum-append xs (replicate (n - length xs) 0) ∙ omega (arith, byte_sum-zeros (n - length xs))

-- a turn of a loop that sums modulo 256
pub sum-turn : (s : List ℕ) (i r : ℕ) → i < length s → ((r + get_or s i 0) % 256 + byte_sum (drop (i + 1) s)) % 256 ≡ (r + byte_sum (drop i s)) % 256
sum-turn s i r h =
    let e : byte_sum (drop i s) ≡ get_or s i 0 + byte_sum (drop (i + 1) s) = ap byte_sum (drop-cons s i 0 h) ∙ rw (byte_sum-cons, add-one) in
    omega arith

-- bytes with their checksum behind them check
pub checks-sealed : (bs : List ℕ) → checks (bs ++ (checksum_of bs ∷ [])) ≡ true
unfolding checks checksum_of
checks-sealed bs =
    let e : byte_sum (bs ++ ((256 - byte_sum bs % 256) % 256 ∷ [])) ≡ byte_sum bs + (256 - byte_sum bs % 256) % 256 =
    byte_sum-append bs ((256 - byte_sum bs % 256) % 256 ∷ []) ∙ rw (byte_sum-cons, byte_sum-nil) (omega arith) in
    eq-eqb (byte_sum (bs ++ ((256 - byte_sum bs % 256) % 256 ∷ [])) % 256) 0 (omega arith)

-- ---- up to the first zero
pub zero-cons : (b : ℕ) (bs : List ℕ) → (b ≡ 0 → ⊥) → up_to_zero (b ∷ bs) ≡ b ∷ up_to_zero bs
unfolding up_to_zero
zero-cons b bs h = pick-false _ _ (ne_eqb b 0 h)

pub zero-here : (b : ℕ) (bs : List ℕ) → b ≡ 0 → up_to_zero (b ∷ bs) ≡ []
unfolding up_to_zero
zero-here b bs h = pick_true _ _ (eq-eqb b 0 h)

-- it is where the first zero lies, and there is one if that is inside
zero-by : (b : ℕ) (bs : List ℕ) → up_to_zero bs ≡ take (length (up_to_zero bs)) bs → Dec (b ≡ 0) → up_to_zero (b ∷ bs) ≡ take (length (up_to_zero (b ∷ bs))) (b ∷ bs)
zero-by b bs e (yes h) = rw (zero-here b bs h)
zero-by b bs e (no h) = rw (zero-cons b bs h) (ap (λ (x : List ℕ). b ∷ x) e)

pub up_to_zero-take : (s : List ℕ) → up_to_zero s ≡ take (length (up_to_zero s)) s
unfolding up_to_zero
up_to_zero-take [] = refl
up_to_zero-take (b ∷ bs) = zero-by b bs (up_to_zero-take bs) (ℕ_discrete b 0)

has-by : (b : ℕ) (bs : List ℕ) → has_zero bs ≡ ltb (length (up_to_zero bs)) (length bs) → Dec (b ≡ 0) → has_zero (b ∷ bs) ≡ ltb (length (up_to_zero (b ∷ bs))) (suc (length bs))
unfolding has_zero
has-by b bs e (yes h) = rw (zero-here b bs h, eq-eqb b 0 h) (sym (lt-ltb 0 (suc (length bs)) (omega arith)))
has-by b bs e (no h) = rw (zero-cons b bs h, ne_eqb b 0 h) (e ∙ sym (leb-suc-suc (suc (length (up_to_zero bs))) (length bs)))

pub has_zero-ltb : (s : List ℕ) → has_zero s ≡ ltb (length (up_to_zero s)) (length s)
unfolding has_zero up_to_zero
has_zero-ltb [] = refl
has_zero-ltb (b ∷ bs) = has-by b bs (has_zero-ltb bs) (ℕ_discrete b 0)

-- turns of a loop that looks for it
module _ (s : List ℕ) (i : ℕ) (h : i < length s) where
  pub zero-next : (get_or s i 0 ≡ 0 → ⊥) → up_to_zero (drop i s) ≡ get_or s i 0 ∷ up_to_zero (drop (i + 1) s)
  zero-next z = ap up_to_zero (drop-cons s i 0 h) ∙ zero-cons (get_or s i 0) (drop (suc i) s) z ∙ rw add-one

  pub zero-last : get_or s i 0 ≡ 0 → up_to_zero (drop i s) ≡ []
  zero-last z = ap up_to_zero (drop-cons s i 0 h) ∙ zero-here (get_or s i 0) (drop (suc i) s) z

  pub zero_more : (get_or s i 0 ≡ 0 → ⊥) → (i + 1) + length (up_to_zero (drop (i + 1) s)) ≡ i + length (up_to_zero (drop i s))
  zero_more z = rw (zero-next z) (omega arith)

  pub zero-found : get_or s i 0 ≡ 0 → i ≡ i + length (up_to_zero (drop i s))
  zero-found z = rw (zero-last z) (omega arith)

pub zero-past : (s : List ℕ) (i : ℕ) → length s ≤ i → up_to_zero (drop i s) ≡ []
unfolding up_to_zero
zero-past s i h = rw (drop_of_length-le s {i = i} h)

pub zero-none : (s : List ℕ) (i : ℕ) → i ≡ length s → i ≡ i + length (up_to_zero (drop i s))
zero-none s i h = rw (zero-past s i (omega arith)) (omega arith)

-- a number in what is left of a list
pub le-drop : (w : ℕ) (s : List ℕ) (at o : ℕ) → le w (drop at s) o ≡ le w s (at + o)
le-drop w s at o = le-ext w (drop at s) s o (at + o) (λ i h. get_or-drop at s (o + i) 0 ∙ ap (λ (k : ℕ). get_or s k 0) (omega arith))

-- ---- numbers in parts and in what is joined
-- a byte is a number of one byte
pub byte_le : (s : List ℕ) (at : ℕ) → byte_at s at ≡ le 1 s at
unfolding byte_at
byte_le s at = sym (le-1 s at)

pub le-part : (w : ℕ) (s : List ℕ) (at n o : ℕ) → o + w ≤ n → le w (part s at n) o ≡ le w s (at + o)
le-part w s at n o h =
    le-ext w (part s at n) s o (at + o) (λ i hi. get_d_part s at n (o + i) (omega arith) ∙ rw (add_assoc at o i))

pub le-append-before : (w : ℕ) (xs ys : List ℕ) (at : ℕ) → at + w ≤ length xs → le w (xs ++ ys) at ≡ le w xs at
le-append-before w xs ys at h = le-ext w (xs ++ ys) xs at at (λ i hi. get_or-append xs ys 0 (at + i) (omega arith))

pub le-append-after : (w : ℕ) (xs ys : List ℕ) (n o : ℕ) → length xs ≡ n → le w (xs ++ ys) (n + o) ≡ le w ys o
le-append-after w xs ys n o e =
    le-ext w (xs ++ ys) ys (n + o) o (λ i hi.
    ap (λ (k : ℕ). get_or (xs ++ ys) k 0) (omega arith) ∙ get_or-append-add xs ys (o + i) 0)

-- a number that stands between xs and ys
pub le-between : (w v : ℕ) (xs ys : List ℕ) (n : ℕ) → length xs ≡ n → v < 2 ^ (8 * w) → le w (xs ++ (le_bytes w v ++ ys)) n ≡ v
le-between w v xs ys n e h =
    let z : n ≡ n + 0 = omega arith in
    ap (le w (xs ++ (le_bytes w v ++ ys))) z
    ∙ le-append-after w xs (le_bytes w v ++ ys) n 0 e
    ∙ le-append-before w (le_bytes w v) ys 0 (omega (arith, length-le_bytes w v))
    ∙ le-le_bytes w v h

-- ---- parts of what was written
module _ (s : List ℕ) (at : ℕ) (bs : List ℕ) (fits : at + length bs ≤ length s) where
  pub part-splice-before : (a n : ℕ) → a + n ≤ at → part (splice s at bs) a n ≡ part s a n
  part-splice-before a n h =
      part_ext (splice s at bs) s a a n (rw (length-splice s at bs fits)) (λ i hi. get_or-splice-before s at bs fits (a + i) (omega arith))

  pub part-splice-after : (a n : ℕ) → at + length bs ≤ a → part (splice s at bs) a n ≡ part s a n
  part-splice-after a n h =
      part_ext (splice s at bs) s a a n (rw (length-splice s at bs fits)) (λ i hi. get_or-splice-after s at bs fits (a + i) (omega arith))

  -- what was written, and n elements behind it
  pub part-splice-from : (n : ℕ) → part (splice s at bs) at (length bs + n) ≡ bs ++ part s (at + length bs) n
  unfolding splice part
  part-splice-from n =
      ap (take (length bs + n)) (drop_at (take at s) (bs ++ drop (at + length bs) s) at (length-take-le at s (omega arith)))
      ∙ take-append-add bs (drop (at + length bs) s) n

  pub part-splice-in : part (splice s at bs) at (length bs) ≡ bs
  unfolding splice part
  part-splice-in =
      ap (take (length bs)) (drop_at (take at s) (bs ++ drop (at + length bs) s) at (length-take-le at s (omega arith)))
      ∙ take-append_seam bs (drop (at + length bs) s)

-- bytes at the front and zeros behind them are the padded bytes
pub padded-splice : (d src : List ℕ) → length src ≤ length d
    → splice (splice d 0 src) (length src) (replicate (length d - length src) 0) ≡ padded src (length d)
unfolding padded
padded-splice d src h =
    ap (λ (k : ℕ). splice (splice d 0 src) k (replicate (length d - length src) 0)) (sym (zero-add (length src)))
    ∙ splice-splice d 0 src (replicate (length d - length src) 0) (rw length-replicate (omega arith))
    ∙ splice_all d (src ++ replicate (length d - length src) 0) (length-append src _ ∙ rw length-replicate (omega arith))
