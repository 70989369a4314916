use Rattle.std.proofs.Common.{◌≡◌, ◌*◌, map}
use Rattle.operators.specs.Maps.{times}
use Rattle.transforms.proofs.mapped.repeat.Given as goal

abbrev pub invariant-loop : goal.invariant-loop
invariant-loop g l =
    let heights = map g.L.Level.height in
    heights l.cells ≡ times (2 * l.counter) (g.M.SheetMap.maps l.by l.fn.sides.w l.fn.sides.h) (heights l.initial.cells)
