use Rattle.names.specs.Reader.{NameAt}
use Rattle.names.proofs.volume_name_in.Given as goal

-- What is left up to the zero decides, from where the reader stands, as the whole does.
abbrev pub invariant-loop-i : goal.invariant-loop-i
invariant-loop-i l = NameAt l.s l.reader l.i
