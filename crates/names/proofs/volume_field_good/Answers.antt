use borrow.Author.Rules.{rules}
use borrow.Author.Tests.{tests}
use Rattle.rules.specs.Names.{volume_text_good}
use Rattle.names.specs.Reader.{field}
use Rattle.names.proofs.volume_field_good.Goals as goal

pub returns : goal.returns
returns c = field volume_text_good c.args.field.now _ _ _ c.volume_name_in.ensures (λ n h. search (rules, tests)) c.is_some_and.ensures
