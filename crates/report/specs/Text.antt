-- The text as its writers cut it, and how long it is.
use Rattle.std.specs.Prelude.{◌≡◌, ℕ, suc, ◌+◌, ◌*◌, ◌^◌, ◌<◌, ◌≤◌, List, [], ◌∷◌, ◌++◌, length, drop, slice_index}
use Rattle.std.proofs.Math.Path.{refl, sym}
use Rattle.std.proofs.Common.{ap, ◌∙◌, append-nil, append_assoc, arith, length-append, length-drop, drop_of_length-le, drop-cons, get_or-drop, eq-eqb, ne_eqb}
use Rattle.std.proofs.Math.Numerals.{add-one}
use Rattle.std.proofs.Math.Decide.{dec_le}
use Rattle.rules.specs.Lists.Laws.{pick_true, pick-false}
use Rattle.rules.specs.Text.{text, decimal}
use Rattle.rules.specs.Text.Laws.{decimal-64}
use Rattle.rules.specs.Report.{Table, numbers_line, table_lines, kind_words, pairs, count_lines, report_text}
use Rattle.report.specs.Rows.{three, six}
use Rattle.report.specs.Stored.{StoredRow, Stored, stored_row, at-fits}
use Rattle.report.specs.View.{as_report, row_text, kind_text, upper_text, lower_text, pair_text}

-- ---- a row
abbrev pub spaced : ℕ → List ℕ
spaced n = text " " ++ decimal n

module _ (word row : List ℕ) (long : length row ≡ 3) where
  pub row-text : row_text word row ≡ word ++ (spaced (slice_index row 0) ++ (spaced (slice_index row 1) ++ (spaced (slice_index row 2) ++ text "\n")))
  unfolding numbers_line
  row-text = rw (three row long)

  pub row-length : length (row_text word row) ≡ length word + (length (decimal (slice_index row 0)) + length (decimal (slice_index row 1)) + length (decimal (slice_index row 2)) + 4)
  row-length = ap length row-text ∙ simp length-append (omega arith)

-- ---- the table
pub halves-length : (t : Table)
    → (length (upper_text t) ≡ length (kind_text t 0 (text "file")) + (length (kind_text t 1 (text "deleted-file")) + length (kind_text t 2 (text "dir"))))
    × (length (lower_text t) ≡ length (kind_text t 3 (text "deleted-dir")) + (length (kind_text t 4 (text "unusable")) + length (kind_text t 5 (text "unused"))))
halves-length t = (simp length-append, simp length-append)

joined-six : (a b c d e f : List ℕ) → (a ++ (b ++ c)) ++ (d ++ (e ++ f)) ≡ a ++ (b ++ (c ++ (d ++ (e ++ (f ++ [])))))
joined-six a b c d e f = simp (append-nil, append_assoc)

module _ (t : Table) (long : length t ≡ 6) where
  pub table-text : upper_text t ++ lower_text t ≡ table_lines kind_words t
  unfolding table_lines kind_words
  table-text =
      joined-six (kind_text t 0 (text "file")) (kind_text t 1 (text "deleted-file")) (kind_text t 2 (text "dir")) (kind_text t 3 (text "deleted-dir")) (kind_text t 4 (text "unusable")) (kind_text t 5 (text "unused"))
      ∙ sym (ap (table_lines kind_words) (six t long))

  pub table-length : length (table_lines kind_words t) ≡ length (upper_text t) + length (lower_text t)
  table-length = ap length (sym table-text) ∙ length-append (upper_text t) (lower_text t)

-- ---- the pairs, one count further
module _ (n c : ℕ) where
  pub pair-none : c ≡ 0 → pair_text n c ≡ []
  pair-none z = pick_true _ _ (eq-eqb c 0 z)

  module _ (some : c ≡ 0 → ⊥) where
    pub pair-some : pair_text n c ≡ spaced n ++ (text ":" ++ decimal c)
    pair-some = pick-false _ _ (ne_eqb c 0 some)

    pub pair-length : length (pair_text n c) ≡ 2 + (length (decimal n) + length (decimal c))
    pair-length = ap length pair-some ∙ simp length-append (omega arith)

  pair-most : length (pair_text n c) ≤ 2 + (length (decimal n) + length (decimal c))
  pair-most = by (dec_le 1 c)
    where
      by : Dec (1 ≤ c) → length (pair_text n c) ≤ 2 + (length (decimal n) + length (decimal c))
      by (yes l) = omega (arith, pair-length (λ z. omega arith))
      by (no l) = omega (arith, ap length (pair-none (omega arith)))

module _ (cs : List ℕ) (i : ℕ) where
  pub pairs_end : length cs ≤ i → pairs i (drop i cs) ≡ []
  unfolding pairs
  pairs_end h = rw (drop_of_length-le cs {i = i} h)

  pub pairs_next : i < length cs → pairs i (drop i cs) ≡ pair_text i (slice_index cs i) ++ pairs (i + 1) (drop (i + 1) cs)
  unfolding pairs
  pairs_next h = rw (drop-cons cs i 0 h, add-one i)

-- ---- the counts
module _ (cs : List ℕ) (some : 0 < length cs) where
  pub counts-text : count_lines cs ≡ text "refused" ++ (pairs 1 (drop 1 cs) ++ ((text "\nunread " ++ decimal (slice_index cs 0)) ++ text "\n"))
  unfolding count_lines
  counts-text = by cs some
    where
      by : (xs : List ℕ) → 0 < length xs → count_lines xs ≡ text "refused" ++ (pairs 1 (drop 1 xs) ++ ((text "\nunread " ++ decimal (slice_index xs 0)) ++ text "\n"))
      by [] h = absurd (omega arith)
      by (u ∷ xs) h = refl

  pub counts-length : length (count_lines cs) ≡ length (pairs 1 (drop 1 cs)) + length (decimal (slice_index cs 0)) + 16
  counts-length = ap length counts-text ∙ simp length-append (omega arith)

-- ---- all of it fits
row-most : (word row : List ℕ) → StoredRow row → length (row_text word row) ≤ length word + 64
row-most word row r =
    omega (arith, row-length word row r.long, decimal-64 _ (at-fits row r.fits 0), decimal-64 _ (at-fits row r.fits 1), decimal-64 _ (at-fits row r.fits 2))

table-most : (t : Table) → Stored t → length (table_lines kind_words t) ≤ 428
table-most t p =
    omega (
      arith,
      table-length t p.long,
      halves-length t,
      row-most (text "file") _ (stored_row t p 0 (omega arith)),
      row-most (text "deleted-file") _ (stored_row t p 1 (omega arith)),
      row-most (text "dir") _ (stored_row t p 2 (omega arith)),
      row-most (text "deleted-dir") _ (stored_row t p 3 (omega arith)),
      row-most (text "unusable") _ (stored_row t p 4 (omega arith)),
      row-most (text "unused") _ (stored_row t p 5 (omega arith)),
    )

pairs-most : (n : ℕ) (cs : List ℕ) → n + length cs < 2 ^ 64 → ((i : ℕ) → slice_index cs i < 2 ^ 64) → length (pairs n cs) ≤ 42 * length cs
unfolding pairs
pairs-most n [] h f = omega arith
pairs-most n (c ∷ cs) h f =
    omega (arith, length-append (pair_text n c) (pairs (suc n) cs), pair-most n c, decimal-64 n (omega arith), decimal-64 c (f 0), pairs-most (suc n) cs (omega arith) (λ i. f (suc i)))

pub report-fits : (t : Table) (cs : List ℕ) → Stored t → 9 ≡ length cs → ((i : ℕ) → slice_index cs i < 2 ^ 64) → length (table_lines kind_words t) + length (count_lines cs) ≤ 1_000
report-fits t cs p l f =
    omega (
      arith,
      table-most t p,
      counts-length cs (omega arith),
      decimal-64 _ (f 0),
      pairs-most 1 (drop 1 cs) (omega (arith, length-drop 1 cs)) (λ i. rw (get_or-drop 1 cs i 0) (f (1 + i))),
      length-drop 1 cs,
    )

pub text-length : (t : Table) (cs : List ℕ) → length (report_text (as_report t cs)) ≡ length (table_lines kind_words t) + length (count_lines cs)
unfolding report_text
text-length t cs = length-append (table_lines kind_words t) (count_lines cs)
