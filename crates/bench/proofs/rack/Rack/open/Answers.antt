use Rattle.std.proofs.Common.{ℕ}
use Rattle.bench.specs.Model.{sheet_held}
use Rattle.bench.proofs.Opened.{as_opened_state}
use Rattle.bench.proofs.rack.Rack.open.Goals as goal

pub returns-clause-state : goal.returns-clause-state
returns-clause-state g c =
    let marks = c.opened_marks-marks.ensures in
    as_opened_state {X = ℕ} sheet_held c.opened_marks-marks.result 2 c.args.w c.args.h c.args.places _ _ marks.w marks.h marks.places marks.visit marks.filled
