use Rattle.std.proofs.Common.{◌≡◌, ◌*◌, map, take}
use Rattle.operators.specs.Maps.{times}
use Rattle.operators.specs.Skeletons.{concatenated, skeleton_piece}
use Rattle.measurements.proofs.skeleton.SkeletonMeasurement.measure.Given as goal

abbrev pub invariant-loop-n : goal.invariant-loop-n
invariant-loop-n g l =
    let heights = map g.L.Level.height in
    let shrink = g.M.SheetMap.maps l.self.shrink l.fn.w l.fn.h in
    let swell = g.N.SheetMap.maps l.self.swell l.fn.w l.fn.h in
    record {
      eroded : heights l.plane ≡ times l.n shrink (heights l.sheet);
      pieces : take (l.n * (l.fn.w * l.fn.h)) l.list ≡ concatenated (skeleton_piece shrink swell (heights l.sheet)) l.n;
    }
