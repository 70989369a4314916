use Rattle.std.proofs.Common.{◌*◌, map}
use Rattle.closings.specs.Passes.{neighbour_inside}
use Rattle.closings.proofs.Lowering.{inside_or_own}
use Rattle.morphology.specs.Passes.{neighbour}
use Rattle.morphology.specs.Sheets.{at_place}
use Rattle.morphology.specs.declared.extremum.Extremum.TheVariants.{Minimum}
use Rattle.morphology.proofs.Passing.{Passed}
use Rattle.closings.proofs.passes.pass_inside.Given as goal

abbrev pub invariant-loop-row : goal.invariant-loop-row
invariant-loop-row g l =
    let heights = map g.L.Level.height in
    let h = l.fn.sides.h in
    Passed Minimum (inside_or_own (neighbour_inside l.w h l.c l.r) (at_place l.w (neighbour l.w h (heights l.from) l.c l.r)) (heights l.fn.to)) (heights l.fn.to) (heights l.to) (l.row * l.w)
