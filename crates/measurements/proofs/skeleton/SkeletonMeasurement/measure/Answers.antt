use Rattle.std.proofs.Common.{◌≡◌, ◌+◌, ◌*◌, ◌≤◌, map, length, ap, ◌∙◌, sym, add-one, arith}
use Rattle.std.proofs.lemmas.Grind.{common_steps}
use Rattle.std.proofs.lemmas.Nat.{mul-le}
use Rattle.operators.specs.Maps.{times}
use Rattle.operators.specs.Skeletons.{minus, skeleton_piece}
use Rattle.measurements.proofs.Pieces.{pieces_more}
use Rattle.measurements.proofs.skeleton.SkeletonMeasurement.measure.Goals as goal

pub loop-n-preserved : goal.loop-n-preserved
loop-n-preserved g c =
    let of = c.args.self.now in
    let n = c.loop-n.n in
    let f = map g.L.Level.height c.args.sheet.now in
    let same_w = c.in_ok-sides.ensures.0 in
    let same_h = c.in_ok-sides.ensures.1 in
    let shrink = g.M.SheetMap.maps of.shrink c.args.w c.args.h in
    let swell = g.N.SheetMap.maps of.swell c.args.w c.args.h in
    let cells : c.cells-cells.result ≡ c.args.w * c.args.h = c.cells-cells.ensures ∙ (λ i. same_w i * same_h i) in
    let long : length c.args.list.now ≡ (of.depth + 1) * c.cells-cells.result = grind (arith, common_steps) in
    let within : n * c.cells-cells.result ≤ length c.loop-n.list =
    omega (arith, mul-le n c.cells-cells.result (of.depth + 1) c.cells-cells.result (omega arith) (omega arith)) in
    record {
      eroded = c.write_piece.ensures.plane
          ∙ (λ i. g.M.SheetMap.maps of.shrink (same_w i) (same_h i) (c.loop-n.invariant.eroded i))
          ∙ ap (λ k. times k shrink f) (sym (add-one n));
      pieces = pieces_more (skeleton_piece shrink swell f) n (c.args.w * c.args.h) (n * c.cells-cells.result) (ap (λ k. n * k) cells) c.loop-n.list within
          c.loop-n.invariant.pieces c.write_piece.new.piece _
          (c.write_piece.ensures.piece
          ∙ (λ i. let e = c.loop-n.invariant.eroded i in minus e (g.N.SheetMap.maps of.swell (same_w i) (same_h i) (g.M.SheetMap.maps of.shrink (same_w i) (same_h i) e))))
          (omega arith);
    }
