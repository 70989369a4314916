use Rattle.std.proofs.Common.{◌≡◌, ◌*◌, map, length, ap, ◌∙◌, arith}
use Rattle.std.proofs.lemmas.Nat.{mul-le}
use Rattle.bench.specs.Model.{cells_of, place_start, rack_outline, sheet_held}
use Rattle.bench.proofs.Memory.{heights_of_cells}
use Rattle.bench.proofs.Places.{content_kept, length-cells_of, place_in_memory, rack_room, some_cells}
use Rattle.bench.proofs.Refusals.{source_accepted}
use Rattle.bench.proofs.rack.Rack.sheet.Goals as goal

pub part-requires : goal.part-requires
part-requires g c =
    let rack = c.args.self.now in
    let place = (source_accepted _ _ (rack_outline rack) c.args.place c.in_ok-source.ensures.0).0 in
    rw c.cells-cells.ensures (place_in_memory rack.marks c.args.place place rack.memory.now (rack_room rack c.args.place place))

pub returns : goal.returns
returns g c =
    let height = g.L.Level.height in
    let rack = c.args.self.now in
    let marks = rack.marks in
    let cells = marks.w * marks.h in
    let accepted = source_accepted _ _ (rack_outline rack) c.args.place c.in_ok-source.ensures.0 in
    let part : c.part.result.now ≡ cells_of cells c.args.place rack.memory.now = rw c.cells-cells.ensures at c.part.ensures in
    let long : length c.part.result.now ≡ cells = ap length part ∙ length-cells_of marks c.args.place accepted.0 rack.memory.now (rack_room rack c.args.place accepted.0) in
    let some = some_cells marks c.args.place accepted.0 in
    let heights = ap (map height) part ∙ heights_of_cells height (place_start cells c.args.place) cells rack.memory.now in
    record {
      answers = (c.in_ok-source.ensures.0, content_kept sheet_held marks (map height rack.memory.now) c.args.place _ _ c.in_ok-source.ensures.1 heights);
      sides = (
        long,
        some.0,
        omega (arith, long, mul-le 1 1 marks.w marks.h some.0 some.1),
        omega (arith, long, mul-le marks.w marks.h 1024 1024 (omega (arith, marks.wide)) (omega (arith, marks.high))),
      );
    }
