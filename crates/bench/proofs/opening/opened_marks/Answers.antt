use Rattle.bench.proofs.Unused.{none_past}
use Rattle.bench.proofs.opening.opened_marks.Goals as goal

pub invariant_of-result-clause-unused : goal.invariant_of-result-clause-unused
invariant_of-result-clause-unused g c = none_past g.row.T.Denot c.match-check_sizes.w.2
