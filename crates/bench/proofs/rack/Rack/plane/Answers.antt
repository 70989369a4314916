use Rattle.std.proofs.Common.{◌≡◌, length, refl, ap, ◌*◌, ◌∙◌, arith}
use Rattle.bench.specs.Model.{plane_of}
use Rattle.bench.proofs.Places.{length-plane_of, planes_room}
use Rattle.bench.proofs.rack.Rack.plane.Goals as goal

pub part-requires : goal.part-requires
part-requires g c =
    let rack = c.args.self.now in
    let count = c.cells-cells.ensures in
    omega (arith, planes_room rack, count, ap (λ n. rack.marks.places * n) count)

pub returns : goal.returns
returns g c =
    let rack = c.args.self.now in
    let plane : c.part.result.now ≡ plane_of rack.marks rack.memory.now = rw c.cells-cells.ensures at c.part.ensures in
    record { value = plane; sides = ap length plane ∙ length-plane_of rack rack.memory.now refl }
