use Rattle.std.proofs.Common.{map, sym, ◌∙◌, arith}
use Rattle.std.proofs.lemmas.List.{length-map, length-replicate, get_or-replicate}
use Rattle.morphology.proofs.Combining.{combined_more}
use Rattle.morphology.proofs.runs.combine_outside.Goals as goal

pub loop-cell-preserved : goal.loop-cell-preserved
loop-cell-preserved g c =
    combined_more g.L.Level.height c.args.which (map g.L.Level.height c.args.cells.now) _ c.loop-cell.cells c.loop-cell.cell-index c.cell-item.result _ _
    (length-replicate _ _ ∙ sym (length-map _ _)) (omega arith ∙ sym (length-map _ _)) (rw length-map (omega arith))
    (c.lowest.ensures ∙ sym (get_or-replicate _ c.loop-cell.cell-index 0 0 (omega arith))) c.kept.ensures c.loop-cell.invariant
