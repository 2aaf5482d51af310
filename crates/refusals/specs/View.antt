-- The number of each refusal, in the rules' order.
use Rattle.std.specs.Prelude.{ℕ, Result, Ok, Err}
use Rattle.refusals.specs.declared.Refusal.{Refusal}
use Rattle.refusals.specs.declared.Refusal.TheVariants.{Length, Magic, Version, Checksum, Geometry, Index, Regions, Paths, Later, Name, Absent, Live, Orphan, NotEmpty, NoSlots, NoBlocks, NotAFile, TooShort, Repeated}

abbrev pub number_of : Refusal → ℕ
number_of Length = 1
number_of Magic = 2
number_of Version = 3
number_of Checksum = 4
number_of Geometry = 5
number_of Index = 6
number_of Regions = 7
number_of Paths = 8
number_of Later = 9
number_of Name = 10
number_of Absent = 11
number_of Live = 12
number_of Orphan = 13
number_of NotEmpty = 14
number_of NoSlots = 15
number_of NoBlocks = 16
number_of NotAFile = 17
number_of TooShort = 18
number_of Repeated = 19

-- what an exported call answers
abbrev pub answer_of : Result Unit Refusal → ℕ
answer_of (Ok _) = 0
answer_of (Err e) = number_of e
