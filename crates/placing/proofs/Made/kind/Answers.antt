use Rattle.rules.specs.Writing.{kind_of}
use Rattle.placing.specs.Site.{new_of}
use Rattle.placing.proofs.Made.kind.Goals as goal

pub returns-in-File : goal.returns-in-File
unfolding new_of kind_of
returns-in-File c = rw c.in-File.is

pub returns-in-Directory : goal.returns-in-Directory
unfolding new_of kind_of
returns-in-Directory c = rw c.in-Directory.is
