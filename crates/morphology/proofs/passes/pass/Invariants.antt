use Rattle.std.proofs.Common.{◌*◌, map}
use Rattle.morphology.specs.Passes.{neighbour}
use Rattle.morphology.specs.Sheets.{at_place}
use Rattle.morphology.proofs.Passing.{Passed}
use Rattle.morphology.proofs.passes.pass.Given as goal

abbrev pub invariant-loop-row : goal.invariant-loop-row
invariant-loop-row g l =
    let heights = map g.L.Level.height in
    Passed l.which (at_place l.w (neighbour l.w l.fn.sides.h (heights l.from) l.c l.r)) (heights l.fn.to) (heights l.to) (l.row * l.w)
