use Rattle.std.proofs.Common.{◌≡◌, ◌-◌, ◌∙◌, ap, length, replicate, arith}
use Rattle.std.proofs.lemmas.List.{length-replicate}
use borrow.Rule.Slice.PartMut.{mid_of, mid_len}
use Rattle.rules.specs.Fields.{splice}
use Rattle.rules.specs.Fields.Laws.{lent_back}
use Rattle.copying.proofs.zero_from.Goals as goal

pub returns : goal.returns
returns c =
    let s = c.args.dst.now in
    let a = c.args.from in
    let n = length s - a in
    let m : length (mid_of a n s) ≡ n = mid_len a (length s) s (omega arith) in
    let z : c.fill.new.self ≡ replicate n 0 = c.fill.ensures.after (λ y e. e) ∙ rw m in
    lent_back s a (length s) c.fill.new.self (omega arith) (omega arith) (ap length z ∙ length-replicate n 0) ∙ ap (splice s a) z
