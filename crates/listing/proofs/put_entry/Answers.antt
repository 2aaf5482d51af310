use mathlib.Core.Path.{sym, ap, ◌∙◌}
use native.Mathlib.Omega.{arith}
use lib.ListN.{length}
use Rattle.rules.specs.Fields.Laws.{splice-nil}
use Rattle.rules.specs.Paths.Laws.{live-run}
use Rattle.listing.specs.Lines.{entry-live, entry-dead}
use Rattle.listing.proofs.put_entry.Goals as goal

pub is_live-requires : goal.is_live-requires
is_live-requires c = tt

pub put_line-requires : goal.put_line-requires
put_line-requires c =
    let e = sym c.is_live.ensures ∙ c.if-is_live.true in
    (c.requires.0, live-run _ e, omega (arith, ap length (entry-live c.args.img.now c.args.h e)))

pub returns-then-is_live : goal.returns-then-is_live
returns-then-is_live c =
    let a = c.args in
    rw (entry-live a.img.now a.h (sym c.is_live.ensures ∙ c.if-is_live.true)) c.put_line.ensures

pub returns : goal.returns
returns c =
    let a = c.args in
    rw (entry-dead a.img.now a.h (sym c.is_live.ensures ∙ c.if-is_live.false)) (sym (splice-nil a.out.now a.at), omega arith)
