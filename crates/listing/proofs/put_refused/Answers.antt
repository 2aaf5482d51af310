use Rattle.std.specs.Prelude.{ℕ, length}
use Rattle.std.proofs.Common.{ap}
use native.Mathlib.Omega.{arith}
use lib.ListN.{length-append}
use Rattle.rules.specs.Text.{text, decimal}
use Rattle.rules.specs.Listing.{refused_line}
use Rattle.text.specs.Wrote.{wrote-both}
use Rattle.listing.proofs.put_refused.Goals as goal

pub put_counted-end-requires : goal.put_counted-end-requires
unfolding refused_line
put_counted-end-requires c = let a = c.args in omega (arith, ap (λ (n : ℕ). length (decimal n)) c.from.ensures, length-append (decimal a.n) (text "\n"))

pub put_byte-requires : goal.put_byte-requires
unfolding refused_line
put_byte-requires c = let a = c.args in omega (arith, ap (λ (n : ℕ). length (decimal n)) c.from.ensures, length-append (decimal a.n) (text "\n"))

pub shape_of-out : goal.shape_of-out
shape_of-out c = omega arith

pub returns : goal.returns
unfolding refused_line
returns c =
    let w = rw c.from.ensures at c.put_counted-end.ensures in
    wrote-both _ _ _ _ _ _ _ _ (omega (arith, ap (λ (n : ℕ). length (decimal n)) c.from.ensures, length-append (decimal c.args.n) (text "\n"))) w c.put_byte.ensures
