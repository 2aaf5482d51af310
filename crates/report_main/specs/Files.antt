-- The report: a line counts as one source, and the whole is the report on some list of at most 1,000.
use Rattle.std.specs.Prelude.{ℕ, ◌+◌, ◌≤◌, ◌≡◌, refl, true, false, List, [], ◌∷◌, ◌++◌, length, IsSome, IsNone}
use Rattle.std.proofs.Common.{sym, ap, ◌∙◌, arith, length-append}
use Rattle.rules.specs.Lists.Laws.{clash}
use Rattle.rules.specs.Report.{Source, unread, image, Report, with_image, with_source, report_from, name_of_file}
use Rattle.lines.specs.declared.Fed.{Fed}
use Rattle.lines.specs.Feeding.{GoneOn}

-- ---- one line: a source is counted, and what is no name is unread
pub record CountedFile (line : List ℕ) (before after : Report) : Type 0 where
  pub source : Source
  pub same : after ≡ with_source source before
  pub nameless : name_of_file line ≡ false → source ≡ unread

pub file-unread : (line : List ℕ) (before after : Report) → after ≡ with_source unread before → CountedFile line before after
file-unread line before after e = record { source = unread; same = e; nameless = λ n. refl }

pub file-read : (line s : List ℕ) (before after : Report) → name_of_file line ≡ true → after ≡ with_image s before → CountedFile line before after
unfolding with_source
file-read line s before after y e = record { source = image s; same = e; nameless = λ n. clash (sym y ∙ n) }

-- ---- several lines, and how many may follow
pub record Counting (left : ℕ) (before after : Report) : Type 0 where
  pub sources : List Source
  pub few : length sources + left ≤ 1_000
  pub same : after ≡ report_from before sources

-- none was counted
pub counting-first : (left : ℕ) (before : Report) → left ≡ 1_000 → Counting left before before
unfolding report_from
counting-first left before e = record { sources = []; few = omega arith; same = refl }

from_last : (before : Report) (xs : List Source) (x : Source) → report_from before (xs ++ (x ∷ [])) ≡ with_source x (report_from before xs)
unfolding report_from
from_last before [] x = refl
from_last before (y ∷ xs) x = from_last (with_source y before) xs x

-- one more
pub counting-next : (left left' : ℕ) (before now after : Report) (line : List ℕ) → left' + 1 ≤ left → Counting left before now → CountedFile line now after → Counting left' before after
counting-next left left' before now after line h c f = record {
  sources = c.sources ++ (f.source ∷ []);
  few = omega (arith, c.few, length-append c.sources (f.source ∷ []));
  same = f.same ∙ ap (with_source f.source) c.same ∙ sym (from_last before c.sources f.source);
}

-- what was fed ended a line, or did not
module _ (left from n : ℕ) (fed : Fed) (gone : GoneOn left from fed n) (before now : Report) (counting : Counting left before now) where
  pub fed-line : IsSome fed.line → (after : Report) (line : List ℕ) → CountedFile line now after → Counting fed.next.left before after
  fed-line t after line f = counting-next left fed.next.left before now after line (omega (arith, gone.ended t)) counting f

  pub fed-none : IsNone fed.line → Counting fed.next.left before now
  fed-none f = rw (gone.going f).1 counting

-- all lines
abbrev pub CountedAll : Report → Report → Type 0
CountedAll before after = Counting 0 before after

pub counted-all : (left : ℕ) (before after : Report) → Counting left before after → CountedAll before after
counted-all left before after c = record { sources = c.sources; few = omega (arith, c.few); same = c.same }
