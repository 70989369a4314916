use Rattle.std.proofs.Common.{◌≡◌, map, take}
use Rattle.levels.specs.Mask.{mask_height}
use Rattle.morphology.specs.Cells.{cut}
use Rattle.calls.proofs.cells.write_mask.Given as goal

abbrev pub invariant-loop-place : goal.invariant-loop-place
invariant-loop-place g l = map mask_height (take l.place l.mask) ≡ cut l.height (take l.place (map g.L.Level.height l.sheet))
