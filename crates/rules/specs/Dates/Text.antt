-- Laws of years and moments as text: how many bytes they take.
use Rattle.std.specs.Prelude.{ℕ, suc, ◌^◌, ◌≤◌, ◌<◌, ◌≡◌, refl, List, [], ◌∷◌, ◌++◌, ℤ, pos, negsuc, length}
use Rattle.std.proofs.Common.{append_assoc, arith, length-append}
use Rattle.std.specs.Int.Signed.{mag}
use Rattle.rules.specs.Text.{text, joined, decimal, widened}
use Rattle.rules.specs.Text.Laws.{decimal-length, wide-length, wide-exact}
use Rattle.rules.specs.Dates.{year_text, two_digits, Moment, moment_text}
use Rattle.rules.specs.Dates.Range.{InRange}

pub length-two_digits : (n : ℕ) → n < 100 → length (two_digits n) ≡ 2
unfolding two_digits
length-two_digits n h = wide-exact 2 n (omega arith) (omega arith)

pub year-up : (n : ℕ) → year_text (pos n) ≡ widened 4 (decimal n)
unfolding year_text
year-up n = refl

pub year-down : (n : ℕ) → year_text (negsuc n) ≡ text "-" ++ widened 4 (decimal (suc n))
unfolding year_text
year-down n = refl

year-digits : (n : ℕ) → n ≤ 2 ^ 40 → length (widened 4 (decimal n)) ≤ 13
year-digits n h = omega (arith, wide-length 4 n, decimal-length 13 n (omega arith) (omega arith))

pub length-year_text : (y : ℤ) → mag y < 2 ^ 40 → length (year_text y) ≤ 14
unfolding year_text
length-year_text (pos n) h = omega (arith, year-digits n (omega arith))
length-year_text (negsuc n) h = omega (arith, year-digits (suc n) (omega arith))

-- a moment's text is its date and its time of day
abbrev pub date_text : ℤ → ℕ → ℕ → List ℕ
date_text year month day = year_text year ++ (text "-" ++ (two_digits month ++ (text "-" ++ two_digits day)))

abbrev pub time_text : ℕ → ℕ → ℕ → List ℕ
time_text hour minute second =
    joined (text "T" ∷ two_digits hour ∷ text ":" ∷ two_digits minute ∷ text ":" ∷ two_digits second ∷ text "Z" ∷ [])

pub moment_text-parts : (m : Moment) → moment_text m ≡ date_text m.date.year m.date.month m.date.day ++ time_text m.hour m.minute m.second
unfolding moment_text
moment_text-parts m = simp append_assoc

length-date_text : (year : ℤ) (month day : ℕ) → mag year < 2 ^ 40 → month < 100 → day < 100 → length (date_text year month day) ≤ 20
length-date_text year month day h k l =
    simp (length-append, length-two_digits month k, length-two_digits day l) (omega (arith, length-year_text year h))

length-time_text : (hour minute second : ℕ) → hour < 100 → minute < 100 → second < 100 → length (time_text hour minute second) ≡ 10
length-time_text hour minute second h k l =
    simp (length-append, length-two_digits hour h, length-two_digits minute k, length-two_digits second l)

pub length-moment_text : (m : Moment) → InRange m → length (moment_text m) ≤ 30
length-moment_text m ((y, a, b, c, d), h, k, l) =
    rw (moment_text-parts m, length-append)
    (omega (arith, length-date_text m.date.year m.date.month m.date.day y (omega arith) (omega arith), length-time_text m.hour m.minute m.second (omega arith) (omega arith) (omega arith)))
