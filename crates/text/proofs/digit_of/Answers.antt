use Rattle.rules.specs.Text.{digit}
use borrow.Author.Rules.{rules}
use Rattle.text.proofs.digit_of.Goals as goal

pub returns : goal.returns
unfolding digit
returns c = search rules
