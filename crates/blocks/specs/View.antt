-- The answer in the rules' words.
use Rattle.std.specs.Prelude.{ℕ, Some, None, Option as Maybe}
use Rattle.std.proofs.Math.Option.{Option, none, some}

abbrev pub field_view : Maybe ℕ → Option ℕ
field_view None = none
field_view (Some b) = some b
