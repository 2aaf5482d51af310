-- A report as 27 numbers: its table and counts in them, and what is put back.
use Rattle.std.specs.Prelude.{◌≡◌, ℕ, zero, suc, ◌+◌, ◌*◌, ◌^◌, ◌<◌, ◌≤◌, List, [], ◌∷◌, ◌++◌, map, length, take, drop, slice_index, slice_index_or, refl}
use Rattle.std.proofs.Math.Path.{sym, ap, ap₂}
use Rattle.std.proofs.Common.{◌∙◌, append-nil, append_assoc, add-one, arith, drop-cons, drop-drop, get_or-drop, length-drop, take_at, length-take-le, le-leb}
use Rattle.std.proofs.Math.ListN.{length-append}
use Rattle.std.proofs.Math.Seq.{drop-append_seam}
use Rattle.std.proofs.lemmas.List.{take-take, drop-take}
use Rattle.std.specs.Simd.{first_chunks}
use Rattle.std.proofs.lemmas.Bool.{lt-leb}
use Rattle.rules.specs.Lists.{part}
use Rattle.rules.specs.Lists.Laws.{pick_true, pick-false}
use Rattle.rules.specs.Fields.{splice}
use Rattle.rules.specs.Fields.Laws.{length-splice}
use Rattle.rules.specs.Text.{joined}
use Rattle.rules.specs.Refusals.{Verdict, refused, accepted, Volume, judge_read}
use Rattle.rules.specs.Report.{Table, image_sums, count_verdict, image, Report, no_report, with_image, with_source, report_from, report_in, report_numbers, verdict_number, CountedImage, count_image}
use Rattle.laws.proofs.Report.Sums.{image-shaped}
use Rattle.report.specs.Rows.{three, six, length_more}
use Rattle.report.specs.Stored.{StoredRow, Stored, HeldTable, all-fits, stored_row, stored-held, stored-added, none-stored}
use Rattle.report.specs.View.{as_report, counted_view}

-- ---- read
pub part-three : (s : List ℕ) (k : ℕ) → k + 3 ≤ length s → slice_index s k ∷ slice_index s (k + 1) ∷ slice_index s (k + 2) ∷ [] ≡ part s k 3
unfolding part
part-three s k h =
    let a : k + 1 ≡ suc k = omega arith in
    let b : k + 2 ≡ suc (suc k) = omega arith in
    rw (a, b, drop-cons s k 0 (omega arith), drop-cons s (suc k) 0 (omega arith), drop-cons s (suc (suc k)) 0 (omega arith))

pub part-nine : (s : List ℕ) → 27 ≤ length s
    → slice_index s 18 ∷ slice_index s 19 ∷ slice_index s 20 ∷ slice_index s 21 ∷ slice_index s 22 ∷ slice_index s 23 ∷ slice_index s 24 ∷ slice_index s 25 ∷ slice_index s 26 ∷ [] ≡ part s 18 9
unfolding part
part-nine s h =
    rw (
      drop-cons s 18 0 (omega arith),
      drop-cons s 19 0 (omega arith),
      drop-cons s 20 0 (omega arith),
      drop-cons s 21 0 (omega arith),
      drop-cons s 22 0 (omega arith),
      drop-cons s 23 0 (omega arith),
      drop-cons s 24 0 (omega arith),
      drop-cons s 25 0 (omega arith),
      drop-cons s 26 0 (omega arith),
    )

take-chunks : (k : ℕ) (s : List ℕ) → first_chunks 3 k (take (3 * k) s) ≡ first_chunks 3 k s
take-chunks zero s = refl
take-chunks (suc k) s =
    let three_more : 3 * suc k ≡ 3 + 3 * k = omega arith in
    ap₂ (λ x t. x ∷ t)
    (ap (λ n. take 3 (take n s)) three_more ∙ take-take 3 (3 + 3 * k) s (omega arith))
    (ap (λ n. first_chunks 3 k (drop 3 (take n s))) three_more ∙ ap (first_chunks 3 k) (drop-take 3 (3 * k) s) ∙ take-chunks k (drop 3 s))

pub rows-in : (s : List ℕ) → first_chunks 3 6 (take 18 s) ≡ (report_in s).table
unfolding report_in part
rows-in s = take-chunks 6 s ∙ simp drop-drop

take-below : (n : ℕ) (s : List ℕ) → ((i : ℕ) → slice_index s i < 2 ^ 64) → (i : ℕ) → slice_index (take n s) i < 2 ^ 64
take-below zero s h i = omega arith
take-below (suc n) [] h i = omega arith
take-below (suc n) (a ∷ s) h zero = h 0
take-below (suc n) (a ∷ s) h (suc i) = take-below n s (λ j. h (suc j)) i

module _ (s : List ℕ) (fits : (i : ℕ) → slice_index s i < 2 ^ 64) where
  pub part-below : (k n i : ℕ) → slice_index (take n (drop k s)) i < 2 ^ 64
  part-below k n = take-below n (drop k s) (λ i. rw (get_or-drop k s i 0) (fits (k + i)))

  module _ (long : 27 ≤ length s) where
    row_in : (k : ℕ) → k ≤ 15 → StoredRow (part s k 3)
    unfolding part
    row_in k h = record { long = length-take-le 3 (drop k s) (omega (arith, length-drop k s)); fits = all-fits (take 3 (drop k s)) (part-below k 3) }

    pub stored-in : HeldTable (report_in s).table
    unfolding report_in
    stored-in = stored-held (report_in s).table (record {
      long = refl;
      rows = (row_in 0 (omega arith), (row_in 3 (omega arith), (row_in 6 (omega arith), (row_in 9 (omega arith), (row_in 12 (omega arith), (row_in 15 (omega arith), tt))))));
    })

-- ---- put back
-- the rows up to one, and with that one
pub joined-more : (t : Table) (k : ℕ) → k < length t → joined (take (k + 1) t) ≡ joined (take k t) ++ slice_index_or t k []
joined-more t k h = ap (λ n. joined (take n t)) (add-one k) ∙ by t k h
  where
    by : (t : Table) (k : ℕ) → k < length t → joined (take (suc k) t) ≡ joined (take k t) ++ slice_index_or t k []
    by [] k h = absurd (omega arith)
    by (r ∷ t) zero h = append-nil r
    by (r ∷ t) (suc k) h = ap (λ x. r ++ x) (by t k (omega arith)) ∙ sym (append_assoc r (joined (take k t)) (slice_index_or t k []))

pub rows-joined : (t : Table) → length t ≡ 6
    → slice_index_or t 0 [] ++ (slice_index_or t 1 [] ++ (slice_index_or t 2 [] ++ (slice_index_or t 3 [] ++ (slice_index_or t 4 [] ++ slice_index_or t 5 [])))) ≡ joined t
rows-joined t h = sym (ap joined (six t h) ∙ simp append-nil)

pub joined-long : (t : Table) → Stored t → length (joined t) ≡ 18
joined-long t p =
    ap length (sym (rows-joined t p.long))
    ∙ simp length-append
    (omega (
      arith,
      (stored_row t p 0 (omega arith)).long,
      (stored_row t p 1 (omega arith)).long,
      (stored_row t p 2 (omega arith)).long,
      (stored_row t p 3 (omega arith)).long,
      (stored_row t p 4 (omega arith)).long,
      (stored_row t p 5 (omega arith)).long,
    ))

-- what was put behind, and then in front of it
put_both : (s xs ys : List ℕ) → length xs + length ys ≤ length s → splice (splice s (length xs) ys) 0 xs ≡ splice s 0 (xs ++ ys)
unfolding splice
put_both s xs ys h =
    let l : length (take (length xs) s) ≡ length xs = length-take-le (length xs) s (omega arith) in
    let n : 0 + length xs ≡ length (take (length xs) s) = omega (arith, l) in
    let m : length xs + length ys ≡ 0 + length (xs ++ ys) = omega (arith, length-append xs ys) in
    ap (λ (t : List ℕ). xs ++ t)
    (ap (λ (k : ℕ). drop k (take (length xs) s ++ (ys ++ drop (length xs + length ys) s))) n
    ∙ drop-append_seam (take (length xs) s) (ys ++ drop (length xs + length ys) s))
    ∙ sym (append_assoc xs ys (drop (length xs + length ys) s))
    ∙ ap (λ (k : ℕ). (xs ++ ys) ++ drop k s) m

-- ---- the call
module _ (s ns : List ℕ) where
  pub image-short : length ns < 27 → counted_view 18 ns ≡ count_image s ns
  unfolding count_image
  image-short h = sym (pick-false _ _ (lt-leb 27 (length ns) h))

  pub image-counted : 27 ≤ length ns → (r : ℕ) → r ≡ verdict_number (judge_read s) → (after : List ℕ) → after ≡ splice ns 0 (report_numbers (with_image s (report_in ns))) → counted_view r after ≡ count_image s ns
  unfolding count_image
  image-counted long r e after f = ap₂ counted_view e f ∙ sym (pick_true _ _ (le-leb 27 (length ns) long))

  -- the same, where the counts are put and then the table
  pub image-counted-parts : 27 ≤ length ns → (t : Table) (cs : List ℕ) → as_report t cs ≡ with_image s (report_in ns) → Stored t → length cs ≡ 9
      → (r : ℕ) → r ≡ verdict_number (judge_read s) → (after : List ℕ) → after ≡ splice (splice ns 18 cs) 0 (joined t) → counted_view r after ≡ count_image s ns
  unfolding report_numbers
  image-counted-parts long t cs same stored nine r e after f =
      let n : length (joined t) ≡ 18 = joined-long t stored in
      image-counted long r e after
      (f ∙ ap (λ (k : ℕ). splice (splice ns k cs) 0 (joined t)) (sym n) ∙ put_both ns (joined t) cs (omega arith) ∙ ap (λ (x : Report). splice ns 0 (report_numbers x)) same)

-- ---- ONE IMAGE AFTER THE OTHER: numbers that begin as zeros hold, after any list of images, the report on them
-- what was put into the numbers is read from them again
module _ (a b c d e f : List ℕ) (la : length a ≡ 3) (lb : length b ≡ 3) (lc : length c ≡ 3) (ld : length d ≡ 3) (le : length e ≡ 3) (lf : length f ≡ 3) (cs rest : List ℕ) (nine : length cs ≡ 9) where
  abbrev all : List ℕ
  all = a ++ (b ++ (c ++ (d ++ (e ++ (f ++ (cs ++ rest))))))

  rows_back : part all 0 3 ∷ part all 3 3 ∷ part all 6 3 ∷ part all 9 3 ∷ part all 12 3 ∷ part all 15 3 ∷ [] ≡ a ∷ b ∷ c ∷ d ∷ e ∷ f ∷ []
  unfolding part
  rows_back = rw (three a la, three b lb, three c lc, three d ld, three e le, three f lf)

  counts-back : part all 18 9 ≡ cs
  unfolding part
  counts-back = rw (three a la, three b lb, three c lc, three d ld, three e le, three f lf) (take_at cs rest 9 nine)

  report-back : report_in all ≡ as_report (a ∷ b ∷ c ∷ d ∷ e ∷ f ∷ []) cs
  unfolding report_in
  report-back = ap₂ as_report rows_back counts-back

joined-rest : (a b c d e f cs rest : List ℕ) → (a ++ (b ++ (c ++ (d ++ (e ++ f))))) ++ cs ++ rest ≡ a ++ (b ++ (c ++ (d ++ (e ++ (f ++ (cs ++ rest))))))
joined-rest a b c d e f cs rest = simp append_assoc

module _ (ns : List ℕ) (t : Table) (cs : List ℕ) (stored : Stored t) (nine : length cs ≡ 9) where
  numbers-back : report_in (splice ns 0 (report_numbers (as_report t cs))) ≡ as_report t cs
  unfolding splice report_numbers
  numbers-back =
      let rest : List ℕ = drop (0 + length (joined t ++ cs)) ns in
      let q : (k : ℕ) → k < 6 → length (slice_index_or t k []) ≡ 3 = λ k l. (stored_row t stored k l).long in
      ap (λ (xs : List ℕ). report_in ((xs ++ cs) ++ rest)) (sym (rows-joined t stored.long))
      ∙ ap report_in (joined-rest (slice_index_or t 0 []) (slice_index_or t 1 []) (slice_index_or t 2 []) (slice_index_or t 3 []) (slice_index_or t 4 []) (slice_index_or t 5 []) cs rest)
      ∙ report-back (slice_index_or t 0 []) (slice_index_or t 1 []) (slice_index_or t 2 []) (slice_index_or t 3 []) (slice_index_or t 4 []) (slice_index_or t 5 []) (q 0 (omega arith)) (q 1 (omega arith)) (q 2 (omega arith)) (q 3 (omega arith)) (q 4 (omega arith)) (q 5 (omega arith)) cs rest nine
      ∙ ap (λ (u : Table). as_report u cs) (sym (six t stored.long))

counted-numbers : (s ns : List ℕ) → 27 ≤ length ns → (count_image s ns).numbers ≡ splice ns 0 (report_numbers (with_image s (report_in ns)))
unfolding count_image
counted-numbers s ns h = ap (λ (x : CountedImage). x.numbers) (pick_true _ _ (le-leb 27 (length ns) h))

-- a report with one image more has the same shape
module _ (s : List ℕ) (r : Report) (stored : Stored r.table) (nine : length r.counts ≡ 9) where
  image-stored : Stored (with_image s r).table
  unfolding with_image
  image-stored = stored-added r.table (image_sums s) stored (image-shaped s)

  image-nine : length (with_image s r).counts ≡ 9
  unfolding with_image count_verdict
  image-nine = by (judge_read s)
    where
      by : (v : Verdict Volume) → length (count_verdict v r.counts) ≡ 9
      by (refused n) = length_more r.counts n ∙ nine
      by (accepted v) = nine

  numbers-long : length (report_numbers (with_image s r)) ≡ 27
  unfolding report_numbers
  numbers-long = length-append (joined (with_image s r).table) (with_image s r).counts ∙ omega (arith, joined-long (with_image s r).table image-stored, image-nine)

-- the numbers after so many calls
unfoldable pub count_all : List (List ℕ) → List ℕ → List ℕ
count_all [] ns = ns
count_all (s ∷ ss) ns = count_all ss (count_image s ns).numbers

counted-from : (ss : List (List ℕ)) (ns : List ℕ) (r : Report) → 27 ≤ length ns → Stored r.table → length r.counts ≡ 9 → report_in ns ≡ r → report_in (count_all ss ns) ≡ report_from r (map image ss)
unfolding count_all report_from with_source
counted-from [] ns r h p n e = e
counted-from (s ∷ ss) ns r h p n e =
    let q : Report = with_image s r in
    let fits : 0 + length (report_numbers q) ≤ length ns = omega (arith, h, numbers-long s r p n) in
    let put : (count_image s ns).numbers ≡ splice ns 0 (report_numbers q) = counted-numbers s ns h ∙ ap (λ (x : Report). splice ns 0 (report_numbers (with_image s x))) e in
    counted-from ss (count_image s ns).numbers q (rw put (omega (arith, h, length-splice ns 0 (report_numbers q) fits))) (image-stored s r p n) (image-nine s r p n)
    (ap report_in put ∙ numbers-back ns q.table q.counts (image-stored s r p n) (image-nine s r p n))

pub all-counted : (ss : List (List ℕ)) (ns : List ℕ) → 27 ≤ length ns → report_in ns ≡ no_report → report_in (count_all ss ns) ≡ report_from no_report (map image ss)
unfolding no_report
all-counted ss ns h e = counted-from ss ns no_report h none-stored refl e
