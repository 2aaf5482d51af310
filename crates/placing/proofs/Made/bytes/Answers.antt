use Rattle.rules.specs.Writing.{bytes_of}
use Rattle.placing.specs.Site.{new_of}
use Rattle.placing.proofs.Made.bytes.Goals as goal

pub returns-in-File : goal.returns-in-File
unfolding new_of bytes_of
returns-in-File c = rw c.in-File.is

pub returns-in-Directory : goal.returns-in-Directory
unfolding new_of bytes_of
returns-in-Directory c = rw c.in-Directory.is
