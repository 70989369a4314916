use Rattle.std.proofs.Common.{◌-◌, get_or, ap, ◌∙◌, add-one, arith}
use Rattle.measurements.proofs.Falling.{from_falls}
use Rattle.measurements.proofs.subtracting.subtract_next.Goals as goal

pub returns : goal.returns
returns c =
    let xs = c.args.list.now in
    from_falls xs c.loop-k.list (omega arith) (λ j within. c.loop-k.invariant.before j (omega arith) ∙ ap (λ k. get_or xs j 0 - get_or xs k 0) (add-one j))
    (λ j end. c.loop-k.invariant.after j (omega arith))
