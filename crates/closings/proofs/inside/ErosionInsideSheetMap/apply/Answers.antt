use Rattle.std.proofs.Common.{◌≡◌, ◌*◌, map, length, ap, ◌∙◌, arith}
use Rattle.std.proofs.lemmas.Grind.{common_steps}
use Rattle.std.proofs.lemmas.List.{length-map}
use Rattle.elements.proofs.Elements.{offsets_law}
use Rattle.elements.specs.Elements.{offsets}
use Rattle.closings.proofs.Definitions.{swept-eroded_inside}
use Rattle.closings.proofs.inside.ErosionInsideSheetMap.apply.Goals as goal

pub returns-clause-memory : goal.returns-clause-memory
returns-clause-memory g c =
    let element = c.args.self.now.element.now in
    let sides = c.in_ok-sides.sides in
    let accepted = c.in_ok-sides.ensures in
    let long : length c.args.from.now ≡ sides.w * sides.h = grind (arith, common_steps) in
    rw (← accepted.0, ← accepted.1) (swept-eroded_inside sides.w sides.h (map g.L.Level.height c.args.from.now) (offsets element) (offsets_law element).centre _
    (length-map _ _ ∙ c.sweep_inside.auto.to ∙ ap length c.copy_from_slice.ensures.after ∙ long) c.sweep_inside.ensures)
