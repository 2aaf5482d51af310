-- The listing's text, one entry at a time, and as its writers cut it.
use Rattle.std.specs.Prelude.{ℕ, ◌+◌, ◌≡◌, Bool, true, false, List, [], ◌∷◌, ◌++◌, length}
use Rattle.std.proofs.Math.Path.{refl}
use Rattle.std.proofs.Common.{ap, ◌∙◌, arith, length-append}
use Rattle.rules.specs.Lists.{pick, only, keep_if}
use Rattle.rules.specs.Lists.Laws.{pick_true, pick-false}
use Rattle.rules.specs.Fields.{signed_of}
use Rattle.rules.specs.Index.{Entry, live_type}
use Rattle.rules.specs.Paths.{is_live}
use Rattle.rules.specs.Text.{text, decimal}
use Rattle.rules.specs.Dates.{moment_of, moment_text}
use Rattle.rules.specs.Listing.{mark_of, line_of, lines_of}
use Rattle.slots.specs.declared.Head.{Head}
use Rattle.slots.specs.View.{head_view}

-- ---- a line's parts
-- mark and length
abbrev pub numbers_text : ℕ → ℕ → List ℕ
numbers_text t n = mark_of t ∷ (text " " ++ decimal n)

-- from the bits of a stamp
abbrev pub date_text : ℕ → List ℕ
date_text z = text " " ++ moment_text (moment_of (signed_of z))

abbrev pub path_text : List ℕ → List ℕ
path_text p = text " " ++ (p ++ text "\n")

module _ (s : List ℕ) (h : Head) where
  pub line-parts : line_of (head_view s h) ≡ numbers_text h.kind h.length ++ (date_text h.stamp ++ path_text (head_view s h).path)
  unfolding line_of head_view
  line-parts = refl

  pub line-length : length (line_of (head_view s h)) ≡ length (numbers_text h.kind h.length) + (length (date_text h.stamp) + length (path_text (head_view s h).path))
  line-length = ap length line-parts ∙ simp length-append

-- ---- the line of an entry, nothing where it is not live
unfoldable pub entry_text : Entry → List ℕ
entry_text e = pick (is_live e) (line_of e) []

module _ (s : List ℕ) (h : Head) where
  pub entry-live : live_type h.kind ≡ true → entry_text (head_view s h) ≡ line_of (head_view s h)
  unfolding entry_text is_live head_view
  entry-live e = pick_true _ _ e

  pub entry-dead : live_type h.kind ≡ false → entry_text (head_view s h) ≡ []
  unfolding entry_text is_live head_view
  entry-dead e = pick-false _ _ e

unfoldable pub live_text : List Entry → List ℕ
live_text es = lines_of (only is_live es)

-- 1 where an entry is live
unfoldable pub live_one : Entry → ℕ
live_one e = pick (is_live e) 1 0

lines_keep : (t : Bool) (x : Entry) (xs : List Entry) → lines_of (keep_if t x xs) ≡ pick t (line_of x) [] ++ lines_of xs
unfolding keep_if lines_of pick
lines_keep true x xs = refl
lines_keep false x xs = refl

length-keep : (t : Bool) (x : Entry) (xs : List Entry) → length (keep_if t x xs) ≡ pick t 1 0 + length xs
unfolding keep_if pick
length-keep true x xs = omega arith
length-keep false x xs = omega arith

module _ (es : List Entry) where
  pub text-end : es ≡ [] → live_text es ≡ []
  unfolding live_text only lines_of
  text-end h = rw h

  pub live_end : es ≡ [] → length (only is_live es) ≡ 0
  unfolding only
  live_end h = rw h

  module _ (x : Entry) (xs : List Entry) (next : es ≡ x ∷ xs) where
    pub text-next : live_text es ≡ entry_text x ++ live_text xs
    unfolding live_text entry_text only
    text-next = rw next (lines_keep (is_live x) x (only is_live xs))

    pub live-next : length (only is_live es) ≡ live_one x + length (only is_live xs)
    unfolding live_one only
    live-next = rw next (length-keep (is_live x) x (only is_live xs))
