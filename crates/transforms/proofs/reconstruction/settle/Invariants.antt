use Rattle.std.proofs.Common.{◌-◌, map}
use Rattle.laws.specs.Maps.{Below}
use Rattle.morphology.specs.Sheets.{area}
use Rattle.operators.specs.Reconstruction.{round}
use Rattle.transforms.proofs.Counting.{Counted}
use Rattle.transforms.proofs.reconstruction.settle.Given as goal

abbrev pub invariant-loop-sides : goal.invariant-loop-sides
invariant-loop-sides g l =
    let heights = map g.L.Level.height in
    let turn = round (g.M.SheetMap.maps l.by.map l.fn.sides.w l.fn.sides.h) (heights l.upper) in
    record {
      under : Below (heights l.sheet) (heights l.upper);
      counted : Counted (area (heights l.upper)) turn (heights l.initial.sheet) l.count (heights l.sheet);
    }

abbrev pub decreases-loop-sides : goal.decreases-loop-sides
decreases-loop-sides g l =
    let heights = map g.L.Level.height in
    area (heights l.upper) - area (heights l.sheet)
