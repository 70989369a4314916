use Rattle.std.proofs.Common.{◌≡◌, ◌*◌, map, length, ap, ◌∙◌, arith}
use Rattle.std.proofs.lemmas.Grind.{common_steps}
use Rattle.std.proofs.lemmas.List.{length-map}
use Rattle.morphology.proofs.Definitions.{swept-operated}
use Rattle.morphology.proofs.erosion.operate.Goals as goal

pub returns-clause-memory : goal.returns-clause-memory
returns-clause-memory g c =
    let element = c.args.element.now in
    let sides = c.in_ok-sides.sides in
    let accepted = c.in_ok-sides.ensures in
    let long : length c.args.from.now ≡ sides.w * sides.h = grind (arith, common_steps) in
    rw (← accepted.0, ← accepted.1) (swept-operated sides.w sides.h (map g.L.Level.height c.args.from.now) element.flags sides.some_column element.centre c.args.op _
    (length-map _ _ ∙ c.sweep.auto.to ∙ ap length c.copy_from_slice.ensures.after ∙ long) c.sweep.ensures)
