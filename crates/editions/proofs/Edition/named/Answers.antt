use native.Mathlib.Omega.{arith}
use borrow.Author.Tests.{ne_eqb}
use Rattle.rules.specs.Lists.{pick}
use Rattle.rules.specs.Editions.{by_edition, version_of, version_named, edition_named}
use Rattle.editions.specs.View.{edition_view}
use Rattle.editions.proofs.Edition.named.Goals as goal

pub returns-in-16-clause-found : goal.returns-in-16-clause-found
unfolding version_named version_of by_edition
returns-in-16-clause-found c = rw c.in-16.is

pub returns-in-16-clause-edition : goal.returns-in-16-clause-edition
unfolding edition_view edition_named version_of by_edition pick
returns-in-16-clause-edition c = rw c.in-16.is

pub returns-in-26-clause-found : goal.returns-in-26-clause-found
unfolding version_named version_of by_edition
returns-in-26-clause-found c = rw c.in-26.is

pub returns-in-26-clause-edition : goal.returns-in-26-clause-edition
unfolding edition_view edition_named version_of by_edition pick
returns-in-26-clause-edition c = rw c.in-26.is

pub returns-in_default-clause-found : goal.returns-in_default-clause-found
unfolding version_named version_of by_edition
returns-in_default-clause-found c = rw (ne_eqb c.args.version 16 (λ e. omega arith), ne_eqb c.args.version 26 (λ e. omega arith))

pub returns-in_default-clause-otherwise : goal.returns-in_default-clause-otherwise
unfolding edition_view edition_named version_of by_edition pick
returns-in_default-clause-otherwise c = λ none. rw (ne_eqb c.args.version 26 (λ e. omega arith))
