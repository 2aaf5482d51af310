-- The code's edition in the rules' words.
use Rattle.std.specs.Prelude.{◌≡◌}
use Rattle.rules.specs.Editions.{Edition, edition10, edition110}
use Rattle.editions.specs.declared.Edition.{Edition as Held}
use Rattle.editions.specs.declared.Edition.TheVariants.{First, Second}

unfoldable pub edition_view : Held → Edition
edition_view First = edition10
edition_view Second = edition110

pub is-second : (ed : Held) → ed ≡ Second → edition_view ed ≡ edition110
unfolding edition_view
is-second ed e = rw e

pub is-first : (ed : Held) → ed ≡ First → edition_view ed ≡ edition10
unfolding edition_view
is-first ed e = rw e
