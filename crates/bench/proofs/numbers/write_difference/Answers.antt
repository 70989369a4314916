use Rattle.std.proofs.Common.{map, pos, ◌-ℤ◌, ◌∙◌, arith}
use Rattle.std.proofs.lemmas.List.{length-map}
use Rattle.morphology.proofs.TakenTogether.{from_cells}
use Rattle.bench.proofs.numbers.write_difference.Goals as goal

pub returns : goal.returns
returns g c =
    let height = g.L.Level.height in
    from_cells (λ x y. pos x -ℤ pos y) (map height c.args.one.now) (map height c.args.other.now) 0 (pos 0) c.loop-k.cells
    (length-map c.args.one.now height ∙ omega arith) (length-map c.args.other.now height ∙ omega arith)
    (λ k within. c.loop-k.invariant k (omega arith))
