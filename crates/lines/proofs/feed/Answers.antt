use Rattle.std.proofs.Common.{◌≡◌, sym, ap, ◌∙◌, drop, take, ◌+◌, ◌-◌, length, arith, length-drop, take_all, List, ℕ}
use Rattle.std.proofs.Math.Seq.{take-length}
use Rattle.lines.specs.Feeding.{fed-end, fed-all, newline_at, kept-more}
use Rattle.lines.proofs.feed.Goals as goal

all_of : (s : List ℕ) (from : ℕ) → take (length s - from) (drop from s) ≡ drop from s
all_of s from = take_all (length s - from) (drop from s) (omega (arith, length-drop from s))

more_of : (n k : ℕ) → n + k - n ≡ k
more_of n k = omega arith

pub returns-in-Some-clause-by_index : goal.returns-in-Some-clause-by_index
returns-in-Some-clause-by_index c p h =
    let s = c.args.piece.now in
    let e : c.newline_in-newline.result ≡ newline_at (drop c.args.from s) = c.newline_in-newline.ensures ∙ ap newline_at (all_of s c.args.from) in
    let u = rw c.in-Some.is at c.unwrap_or.ensures in
    let f = rw (more_of c.args.lines.length c.min.result, all_of s c.args.from, u) at c.copy_from_slice.ensures.after in
    let m = rw (all_of s c.args.from, u) at c.min.ensures in
    fed-end _ p s _ _ _ _ c.in-Some.i (sym e ∙ c.in-Some.is)
    (rw (more_of c.args.lines.length c.min.result, f, m) (kept-more p _ _ _ c.requires.0 h)) c.if-lines-eq0.false c.line_ended.ensures

pub returns-in-None-clause-by_index : goal.returns-in-None-clause-by_index
returns-in-None-clause-by_index c p h =
    let s = c.args.piece.now in
    let e : c.newline_in-newline.result ≡ newline_at (drop c.args.from s) = c.newline_in-newline.ensures ∙ ap newline_at (all_of s c.args.from) in
    let u = rw (c.in-None.is, all_of s c.args.from) at c.unwrap_or.ensures in
    let f = rw (more_of c.args.lines.length c.min.result, all_of s c.args.from, u, take-length) at c.copy_from_slice.ensures.after in
    let m = rw (all_of s c.args.from, u, take-length) at c.min.ensures in
    fed-all _ p s _ _ _ _ (sym e ∙ c.in-None.is)
    (rw (more_of c.args.lines.length c.min.result, f, m) (kept-more p _ _ _ c.requires.0 h)) c.all_fed-in-None.ensures
