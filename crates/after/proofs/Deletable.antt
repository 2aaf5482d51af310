-- What an accepted delete has passed, whatever it writes.
use Prim.Native.Nat.{ℕ}
use mathlib.Core.Path.{◌≡◌}
use mathlib.Core.Bool.{true, false, not}
use mathlib.Core.List.{List}
use mathlib.Core.Option.{some}
use native.Mathlib.Omega.{arith}
use borrow.Author.Tests.{not-true}
use Rattle.rules.specs.Names.{path_good}
use Rattle.rules.specs.Index.{Entry}
use Rattle.rules.specs.Paths.{lookup, any_below}
use Rattle.rules.specs.Refusals.{accepted, Volume, entries, judge}
use Rattle.rules.specs.Writing.{Written, on_deletable}
use Rattle.rules.specs.Writing.Laws.{tidy_image}
use Rattle.laws.proofs.Images.Accepted.{passed-need, passed-found, passed-writable, passed-done}

pub record DeletePassed (s : List ℕ) (v : Volume) (path : List ℕ) (write : List ℕ → Volume → Entry → List ℕ) : Type 0 where
  pub named : path_good path ≡ true
  pub it : Entry
  pub found : lookup path (entries v) ≡ some it
  pub alone : any_below path (entries v) ≡ false
  pub image : (on_deletable s path write).image ≡ write (tidy_image s v) v it

pub delete-passed : (s : List ℕ) (v : Volume) (path : List ℕ) (write : List ℕ → Volume → Entry → List ℕ) → judge s ≡ accepted v
    → (on_deletable s path write).refusal ≡ 0 → DeletePassed s v path write
unfolding on_deletable
delete-passed s v path write o z =
    let w : Written = on_deletable s path write in
    let p₁ = passed-need s w z (path_good path) 10 _ (omega arith) (passed-writable s v _ o z) in
    let p₂ = passed-found s w z (lookup path (entries v)) 11 _ (omega arith) p₁.1 in
    let p₃ = passed-need s w z (not (any_below path (entries v))) 14 _ (omega arith) p₂.2 in
    record { named = p₁.0; it = p₂.0; found = p₂.1; alone = not-true (any_below path (entries v)) p₃.0; image = passed-done s _ w p₃.1 }
