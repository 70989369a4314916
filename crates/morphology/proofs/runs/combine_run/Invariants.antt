use Rattle.std.proofs.Common.{◌≡◌, map}
use Rattle.morphology.specs.Passes.{extreme}
use Rattle.morphology.proofs.Combining.{combined_below}
use Rattle.morphology.proofs.runs.combine_run.Given as goal

abbrev pub invariant-loop-k : goal.invariant-loop-k
invariant-loop-k g l =
    let heights = map g.L.Level.height in
    heights l.cells ≡ combined_below (extreme l.which) l.k (heights l.initial.cells) (heights l.others)
