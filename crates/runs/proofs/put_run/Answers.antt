use Rattle.rules.specs.Editions.Laws.{stored_past}
use Rattle.editions.specs.View.{edition_view}
use Rattle.runs.specs.Written.{run-put, run_entry}
use Rattle.runs.proofs.put_run.Goals as goal

pub returns : goal.returns
returns c =
    let h = c.args.h in
    let ed = edition_view h.edition in
    run-put ed c.args.img.now h.at.0 (run_entry h c.args.path.now) h.end.0 (stored_past ed h.end.0) c.requires.1 c.requires.0 c.requires.3 _ _ _ c.name_at.ensures.0
    c.after-name.ensures c.after_slots-end.ensures _ _ _ _ c.put_head.ensures c.put_fields.ensures c.write_part.ensures c.seal.ensures
