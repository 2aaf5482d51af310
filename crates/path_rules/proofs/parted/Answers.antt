use Prim.Native.Nat.{ℕ, ◌+◌, ◌≤◌, ◌<◌}
use mathlib.Core.Path.{◌≡◌, sym, ap, ◌∙◌}
use mathlib.Core.List.{List}
use lib.ListN.{length, drop}
use Rattle.std.proofs.lemmas.List.{take_rest}
use borrow.Author.Tests.{eqb-false}
use borrow.Author.Rules.{rules}
use Rattle.rules.specs.Fields.{up_to_zero}
use Rattle.ordering.specs.Paths.{rank, no_slash, follows}
use Rattle.ordering.specs.Starts.{starts_at, starts-as, more_bytes}
use Rattle.path_rules.specs.Names.{part-second-ends, part-below, part-barred, part-first-ends, part-later, part-earlier}
use Rattle.path_rules.proofs.parted.Goals as goal
use Rattle.path_rules.proofs.parted.Goals.{Else-y-eq0, Start}

-- the second name from its byte on
named : (c : Start) (xs : List ℕ) → let a = c.args in
    follows a.directory (starts_at a.x xs) (starts_at a.y (up_to_zero (drop (a.i + 1) a.name.now))) ≡ follows a.directory (starts_at a.x xs) (up_to_zero (drop a.i a.name.now))
named c xs = let a = c.args in ap (follows a.directory (starts_at a.x xs)) (starts-as a.name.now a.i a.y c.requires.0)

inside : (c : Else-y-eq0) → let a = c.args in a.i < length a.name.now
inside c = more_bytes c.args.name.now c.args.i c.args.y c.requires.0 c.if-y-eq0.false

pub returns-then-y-eq0 : goal.returns-then-y-eq0
returns-then-y-eq0 c xs =
    part-second-ends _ _ _ xs _ (λ z. eqb-false _ _ c.requires.1 (z ∙ sym c.if-y-eq0.true)) c.if-y-eq0.true ∙ named (goal.at.returns-then-y-eq0 c).Start xs

pub returns-then-directory : goal.returns-then-directory
returns-then-directory c xs = c.no_slash.ensures ∙ ap (λ (bs : List ℕ). no_slash (up_to_zero bs)) (take_rest c.args.name.now (c.args.i + 1)) ∙ part-below _ _ _ xs _ c.if-x-eq0.true c.if-y-eq47.true c.if-directory.true ∙ named (goal.at.returns-then-directory c).Start xs

pub returns-else-directory : goal.returns-else-directory
returns-else-directory c xs = part-barred _ _ _ xs _ c.if-x-eq0.true c.if-y-eq47.true c.if-directory.false ∙ named (goal.at.returns-else-directory c).Start xs

pub returns-then-x-eq0 : goal.returns-then-x-eq0
returns-then-x-eq0 c xs =
    c.no_slash-then-x-eq0.ensures ∙ ap (λ (bs : List ℕ). no_slash (up_to_zero bs)) (take_rest c.args.name.now (c.args.i + 1)) ∙ part-first-ends _ _ _ xs _ c.if-x-eq0.true c.if-y-eq0.false c.if-y-eq47.false ∙ named (goal.at.returns-then-x-eq0 c).Start xs

pub returns-then-rank : goal.returns-then-rank
returns-then-rank c xs =
    let l : rank c.args.x < rank c.args.y = rw (← c.rank.ensures, ← c.rank-2.ensures) c.if-rank.true in
    c.no_slash-then-rank.ensures ∙ ap (λ (bs : List ℕ). no_slash (up_to_zero bs)) (take_rest c.args.name.now c.args.i) ∙ ap no_slash (sym (starts-as c.args.name.now c.args.i c.args.y c.requires.0))
    ∙ part-later _ _ _ xs _ c.if-x-eq0.false c.if-y-eq0.false c.requires.1 l ∙ named (goal.at.returns-then-rank c).Start xs

pub returns : goal.returns
returns c xs =
    let l : rank c.args.y ≤ rank c.args.x = rw (← c.rank.ensures, ← c.rank-2.ensures) c.if-rank.false in
    part-earlier _ _ _ xs _ c.if-x-eq0.false c.if-y-eq0.false c.requires.1 l ∙ named (goal.at.returns c).Start xs

pub overflow_add-i : goal.overflow_add-i
overflow_add-i c = search (rules, inside (goal.at.overflow_add-i c).Else-y-eq0)

pub overflow_add-i-then-x-eq0 : goal.overflow_add-i-then-x-eq0
overflow_add-i-then-x-eq0 c = search (rules, inside (goal.at.overflow_add-i-then-x-eq0 c).Else-y-eq0)
