-- Answers and arguments in the rules' words.
use Rattle.std.specs.Prelude.{ℕ, ◌≡◌, refl, Bool, true, false, not, List, eqb, Option as Answer, None, Some}
use Rattle.std.proofs.Math.Option.{Option, none, some}
use Rattle.std.specs.Bool.{then_some}
use Rattle.rules.specs.Lists.{pick, only}
use Rattle.rules.specs.Index.{Entry}
use Rattle.rules.specs.Paths.{is_deleted}
use Rattle.units.specs.declared.Block.{Block}
use Rattle.units.specs.declared.Slot.{Slot}
use Rattle.free_runs.specs.declared.Gone.{Gone}
use Rattle.free_runs.specs.declared.Gone.TheVariants.{Deleted, At as gone_at}

abbrev pub free_view : Answer Block → Option ℕ
free_view None = none
free_view (Some b) = some b.0

-- a block that goes with a test's answer
pub view_some : (r : Bool) (b : Block) → free_view (then_some r b) ≡ pick r (some b.0) none
unfolding pick
view_some true b = refl
view_some false b = refl

-- an entry that goes, and those that stay
unfoldable pub is_gone : Gone → Entry → Bool
is_gone Deleted e = is_deleted e
is_gone (gone_at k) e = eqb e.slot k.0

abbrev pub staying : Gone → List Entry → List Entry
staying gone es = only (λ e. not (is_gone gone e)) es

pub gone-deleted : (gone : Gone) → gone ≡ Deleted → (e : Entry) → is_gone gone e ≡ is_deleted e
unfolding is_gone
gone-deleted gone is e = rw is

pub gone_at_lem : (gone : Gone) (k : Slot) → gone ≡ gone_at k → (e : Entry) → is_gone gone e ≡ eqb e.slot k.0
unfolding is_gone
gone_at_lem gone k is e = rw is
