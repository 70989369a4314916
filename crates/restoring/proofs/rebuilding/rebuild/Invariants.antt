use Rattle.std.proofs.Common.{◌≡◌, ◌*◌}
use Rattle.operators.specs.Restoring.{rebuilt}
use Rattle.restoring.specs.Numbers.{heights_of}
use Rattle.restoring.proofs.rebuilding.rebuild.Given as goal

abbrev pub invariant-loop-n : goal.invariant-loop-n
invariant-loop-n g l =
    let sides = l.fn.sides in
    heights_of l.sheet ≡ rebuilt (g.M.SheetMap.maps l.by.map sides.w sides.h) (sides.w * sides.h) l.depth l.pieces l.n
