use Rattle.std.proofs.Common.{ℤ}
use Rattle.weights.specs.Weights.{weighed}
use Rattle.bench.proofs.Opened.{as_opened_state}
use Rattle.bench.proofs.slate.Slate.open.Goals as goal

pub returns-clause-state : goal.returns-clause-state
returns-clause-state c =
    let marks = c.opened_marks-marks.ensures in
    as_opened_state {X = ℤ} weighed c.opened_marks-marks.result 0 c.args.w c.args.h c.args.places _ _ marks.w marks.h marks.places marks.visit marks.filled
