use Rattle.std.proofs.Common.{◌≡◌, map, get_or, take, fold}
use Rattle.morphology.specs.Passes.{extreme}
use Rattle.calls.proofs.cells.extreme.Given as goal

abbrev pub invariant-loop-level : goal.invariant-loop-level
invariant-loop-level g l =
    let heights = map g.L.Level.height l.sheet in
    g.L.Level.height l.extreme ≡ fold (extreme l.which) (get_or heights 0 0) (take l.level-index heights)
