use Prim.Native.Nat.{◌+◌}
use mathlib.Core.Path.{sym, ◌∙◌}
use Rattle.rules.specs.Index.{start_at}
use Rattle.editions.specs.View.{edition_view}
use Rattle.runs.specs.Written.{fields-some, fields-none}
use Rattle.runs.proofs.put_fields.Goals as goal

pub returns-then-is_file : goal.returns-then-is_file
returns-then-is_file c =
    let h = c.args.h in
    fields-some c.args.img.now (h.at.0 + start_at (edition_view h.edition)) h.kind _ _ (sym c.is_file.ensures ∙ c.if-is_file.true) c.put_file.ensures

pub returns-else-is_file : goal.returns-else-is_file
returns-else-is_file c =
    let h = c.args.h in
    fields-none c.args.img.now (h.at.0 + start_at (edition_view h.edition)) h.kind _ (sym c.is_file.ensures ∙ c.if-is_file.false)
