-- RFC 3629, section 3: the codes of characters, and the bytes in which each is written.
--     codes                bytes
--     0000 to 007F         0xxxxxxx
--     0080 to 07FF         110xxxxx 10xxxxxx
--     0800 to FFFF         1110xxxx 10xxxxxx 10xxxxxx              but D800 to DFFF are no characters
--     10000 to 10FFFF      11110xxx 10xxxxxx 10xxxxxx 10xxxxxx
-- `Utf8.Laws` has `decode-encode` and `encode-decode`: bytes decode to codes just where they are the bytes of those codes.
use Rattle.std.specs.Prelude.{ℕ, zero, suc, ◌+◌, ◌-◌, ◌*◌, ◌/◌, ◌%◌, ◌≡◌, Bool, ◌&&◌, not, List, [], ◌∷◌, ◌++◌, length, leb}
use Rattle.std.proofs.Math.Option.{Option, none, some}
use Rattle.rules.specs.Lists.{pick}
pub mod Laws

-- from lo to hi, with both
unfoldable pub within : ℕ → ℕ → ℕ → Bool
within lo hi c = leb lo c && leb c hi

-- the code of a character; what UTF-16 keeps for its pairs, the surrogates, is none
unfoldable pub is_code : ℕ → Bool
is_code c = leb c 0x10FFFF && not (within 0xD800 0xDFFF c)

-- ---- the bytes of a code: the table from left to right
unfoldable pub encode : ℕ → List ℕ
encode c =
    pick (leb c 0x7F) (c ∷ [])
    (pick (leb c 0x7FF) ((0xC0 + c / 64) ∷ (0x80 + c % 64) ∷ [])
    (pick (leb c 0xFFFF) ((0xE0 + c / 4096) ∷ (0x80 + c / 64 % 64) ∷ (0x80 + c % 64) ∷ [])
    ((0xF0 + c / 262144) ∷ (0x80 + c / 4096 % 64) ∷ (0x80 + c / 64 % 64) ∷ (0x80 + c % 64) ∷ [])))

unfoldable pub encode_all : List ℕ → List ℕ
encode_all [] = []
encode_all (c ∷ cs) = encode c ++ encode_all cs

-- ---- the codes of bytes: the table from right to left
-- the first character, as its code and the bytes behind it
pub data First : Type 0 where
  ill : First
  char : ℕ → List ℕ → First

-- n bytes 10xxxxxx more, six bits of the code in each, behind the bits c
unfoldable pub tails : ℕ → ℕ → List ℕ → First
tails zero c bs = char c bs
tails (suc n) c [] = ill
tails (suc n) c (b ∷ bs) = pick (within 0x80 0xBF b) (tails n (c * 64 + (b - 0x80)) bs) ill

-- only a code of the row, from lo to hi: one that fits a shorter row is ill-formed in this one
unfoldable pub row : ℕ → ℕ → First → First
row lo hi ill = ill
row lo hi (char c bs) = pick (within lo hi c && is_code c) (char c bs) ill

-- the row that the first byte begins, and no other
unfoldable pub first_char : List ℕ → First
first_char [] = ill
first_char (a ∷ bs) =
    pick (within 0x00 0x7F a) (row 0x0000 0x007F (tails 0 a bs))
    (pick (within 0xC0 0xDF a) (row 0x0080 0x07FF (tails 1 (a - 0xC0) bs))
    (pick (within 0xE0 0xEF a) (row 0x0800 0xFFFF (tails 2 (a - 0xE0) bs))
    (pick (within 0xF0 0xF7 a) (row 0x10000 0x10FFFF (tails 3 (a - 0xF0) bs))
    ill)))

-- one code more in front
unfoldable pub also : ℕ → Option (List ℕ) → Option (List ℕ)
also c none = none
also c (some cs) = some (c ∷ cs)

-- the code of the first character, and those that k gives of the bytes behind it
unfoldable pub onward : First → (List ℕ → Option (List ℕ)) → Option (List ℕ)
onward ill k = none
onward (char c bs) k = also c (k bs)

-- the codes, of n characters at most
unfoldable pub decode_to : ℕ → List ℕ → Option (List ℕ)
decode_to zero [] = some []
decode_to zero (b ∷ bs) = none
decode_to (suc n) [] = some []
decode_to (suc n) (b ∷ bs) = onward (first_char (b ∷ bs)) (λ rest. decode_to n rest)

-- THE CODES OF BYTES, OR NONE WHERE THEY ARE ILL-FORMED; there are no more characters than bytes
unfoldable pub decode : List ℕ → Option (List ℕ)
decode bs = decode_to (length bs) bs

-- the same without the count, character by character: `decode-equation`
abbrev pub DecodeEquation : Type 0
DecodeEquation = (decode [] ≡ some []) × ((b : ℕ) (bs : List ℕ) → decode (b ∷ bs) ≡ onward (first_char (b ∷ bs)) decode)
