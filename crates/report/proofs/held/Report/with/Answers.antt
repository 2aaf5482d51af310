use Rattle.std.specs.Int.{w64}
use borrow.Author.Rules.{elem_Fits}
use Rattle.report.specs.Stored.{table-held, stored-held}
use Rattle.report.proofs.held.Report.with.Goals as goal

pub invariant_of-result : goal.invariant_of-result
invariant_of-result c =
    let counts = c.well_formed.1.0 in
    record {
      stored = stored-held c.args.table (table-held c.args.table _ c.well_formed.0);
      fit = λ k. (elem_Fits w64 w64 c.args.counts counts.0 k counts.1.1 tt).fits;
    }
