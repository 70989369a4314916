use Rattle.std.proofs.Common.{◌≡◌, map, length, replicate}
use Rattle.morphology.specs.Passes.{extreme}
use Rattle.morphology.proofs.Combining.{combined_below}
use Rattle.morphology.proofs.runs.combine_outside.Given as goal

abbrev pub invariant-loop-cell : goal.invariant-loop-cell
invariant-loop-cell g l =
    let heights = map g.L.Level.height in
    heights l.cells ≡ combined_below (extreme l.which) l.cell-index (heights l.initial.cells) (replicate (length l.initial.cells) 0)
