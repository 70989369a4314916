use Rattle.std.proofs.Common.{◌≡◌, ℕ, ◌<◌, get_or, map}
use Rattle.morphology.specs.Sheets.{area}
use Rattle.operators.specs.Maps.{times}
use Rattle.measurements.proofs.areas.AreasMeasurement.measure.Given as goal

abbrev pub invariant-loop-size : goal.invariant-loop-size
invariant-loop-size g l =
    (n : ℕ) → n < l.size → get_or l.list n 0
    ≡ area (times n (g.N.SheetMap.maps l.self.second l.fn.w l.fn.h) (times n (g.M.SheetMap.maps l.self.first l.fn.w l.fn.h) (map g.L.Level.height l.sheet)))
