use Rattle.std.proofs.Common.{◌-◌, map, ◌∙◌, arith}
use Rattle.std.proofs.lemmas.List.{length-map}
use Rattle.morphology.proofs.TakenTogether.{from_cells}
use Rattle.measurements.proofs.skeleton.subtract_heights.Goals as goal

pub returns : goal.returns
returns g c =
    let height = g.L.Level.height in
    from_cells ◌-◌ c.args.piece.now (map height c.args.sheet.now) 0 0 c.loop-k.piece (omega arith) (length-map c.args.sheet.now height ∙ omega arith)
    (λ k within. c.loop-k.invariant.before k (omega arith))
