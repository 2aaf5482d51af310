use mathlib.Core.Path.{◌≡◌, ap}
use mir.Syntax.{w64}
use mir.Val.{to_z, of_z}
use Rattle.rules.specs.Outcome.{EntryNumbers}
use borrow.Author.Rules.{rules}
use Rattle.reading.proofs.listed_numbers.Goals as goal

pub returns : goal.returns
returns c =
    let e = c.entry_numbers-e in
    let z : to_z w64 (of_z w64 e.result.stamp) ≡ e.result.stamp = search rules in
    (e.ensures.0, λ s. rw z (ap (λ (x : EntryNumbers). record { found = x; path_length = c.args.n }) (e.ensures.1 s)))
