use borrow.Author.Rules.{rules}
use borrow.Author.Tests.{tests}
use Rattle.rules.specs.Names.{path_good}
use Rattle.rules.specs.Index.{name_good}
use Rattle.names.specs.Reader.{field}
use Rattle.names.proofs.path_field_good.Goals as goal

pub returns : goal.returns
unfolding name_good
returns c = field path_good c.args.field.now _ _ _ c.path_in.ensures (λ n h. search (rules, tests)) c.is_some_and.ensures
