use Rattle.std.proofs.Common.{◌≡◌, ℕ, List, [], slice_index_or, ◌+◌, length, get_or, sym, arith}
use Rattle.rules.specs.Text.{text, decimal}
use Rattle.text.specs.Wrote.{wrote-both, wrote_as}
use Rattle.report.specs.View.{kind_text, kind_place}
use Rattle.report.specs.Text.{row-text, row-length}
use Rattle.report.proofs.held.Report.put_row.Goals as goal
use Rattle.report.proofs.held.Report.put_row.Goals.{After-place}

abbrev row : (c : After-place) → List ℕ
row c = slice_index_or c.args.self.now.table c.place.result []

long : (c : After-place) → length (row c) ≡ 3
long c = (c.args.self.now.stored.1 c.place.result c.place.ensures.low).0

room : (c : After-place) →
    length (kind_text c.args.self.now.table (kind_place c.args.kind) c.args.word.now) ≡ length c.args.word.now + (length (decimal (get_or (row c) 0 0)) + length (decimal (get_or (row c) 1 0)) + length (decimal (get_or (row c) 2 0)) + 4)
room c = rw (← c.place.ensures.value) (row-length c.args.word.now (row c) (long c))

pub put_bytes-slots-requires : goal.put_bytes-slots-requires
put_bytes-slots-requires c = omega (arith, room (goal.at.put_bytes-slots-requires c).After-place)

pub put_counted-blocks-requires : goal.put_counted-blocks-requires
put_counted-blocks-requires c = omega (arith, room (goal.at.put_counted-blocks-requires c).After-place)

pub put_counted-bytes-requires : goal.put_counted-bytes-requires
put_counted-bytes-requires c = omega (arith, room (goal.at.put_counted-bytes-requires c).After-place)

pub put_counted-end-requires : goal.put_counted-end-requires
put_counted-end-requires c = omega (arith, room (goal.at.put_counted-end-requires c).After-place)

pub put_byte-requires : goal.put_byte-requires
put_byte-requires c = omega (arith, room (goal.at.put_byte-requires c).After-place)

pub returns : goal.returns
returns c =
    let n = room (goal.at.returns c).After-place in
    wrote_as _ _ _ _ _ _ (rw (← c.place.ensures.value) (sym (row-text c.args.word.now (row (goal.at.returns c).After-place) (long (goal.at.returns c).After-place))))
    (wrote-both _ _ _ _ _ _ _ _ (omega arith) c.put_bytes-slots.ensures
    (wrote-both _ _ _ _ _ _ _ _ (omega arith) c.put_counted-blocks.ensures
    (wrote-both _ _ _ _ _ _ _ _ (omega arith) c.put_counted-bytes.ensures
    (wrote-both _ _ _ _ _ _ _ (text "\n") (omega arith) c.put_counted-end.ensures c.put_byte.ensures))))
