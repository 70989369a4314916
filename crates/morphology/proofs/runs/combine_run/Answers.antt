use Rattle.std.proofs.Common.{map, sym, ◌∙◌, arith}
use Rattle.std.proofs.lemmas.List.{length-map}
use Rattle.morphology.proofs.Combining.{combined_more}
use Rattle.morphology.proofs.Passing.{height_read}
use Rattle.morphology.proofs.runs.combine_run.Goals as goal

pub loop-k-preserved : goal.loop-k-preserved
loop-k-preserved g c =
    let height = g.L.Level.height in
    combined_more height c.args.which (map height c.args.cells.now) (map height c.args.others.now) c.loop-k.cells c.loop-k.k c.index-cells-k.result _ _
    (length-map _ _ ∙ omega arith ∙ sym (length-map _ _)) (omega arith ∙ sym (length-map _ _)) (rw length-map (omega arith))
    (sym (height_read height c.args.others.now c.loop-k.k _ (omega arith) c.index-others-k.is)) c.kept.ensures c.loop-k.invariant
