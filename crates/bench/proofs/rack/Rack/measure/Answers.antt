use Rattle.std.proofs.Common.{◌≡◌, ◌*◌, map, length, refl, ap, ◌∙◌}
use Rattle.bench.specs.Model.{place_start, rack_outline}
use Rattle.bench.proofs.Refusals.{depth_accepted, sheet_accepted}
use Rattle.bench.proofs.Places.{made_from_places}
use Rattle.bench.proofs.PlanesWritten.{memory_long, places_kept, sheets_are, state_kept}
use Rattle.bench.specs.Calls.{made_from}
use Rattle.bench.proofs.rack.Rack.measure.Goals as goal

pub returns : goal.returns
returns g c =
    let height = g.L.Level.height in
    let rack = c.args.self.now in
    let marks = rack.marks in
    let cells = marks.w * marks.h in
    let place = c.args.place in
    let count = c.cells-cells.ensures in
    let read = c.in_ok-source.ensures.0 in
    let of = c.args.measurement.now in
    let numbers = g.M.Measurement.numbers_of of in
    let sheets = c.split_at_mut-sheets.result.0.now in
    let was = c.split_at_mut-sheets.result.1.now in
    let planes = c.measure_sheet.new.planes in
    let front : length sheets ≡ marks.places * cells = c.split_at_mut-sheets.ensures.front_len ∙ ap (λ n. marks.places * n) count in
    let split = c.split_at_mut-sheets.ensures.value in
    let long = c.measure_sheet.auto.planes in
    record {
      answers = depth_accepted (rack_outline rack) (g.M.Measurement.depth_of of) place (length c.args.list.now) (g.M.Measurement.len_of of cells) c.in_ok-check.ensures read;
      list = (rw count at c.measure_sheet.ensures)
          ∙ ap (made_from (λ w h f other. numbers w h f) marks.w marks.h (place_start cells place) (place_start cells place)) (sheets_are height marks rack.memory.now sheets was planes front split long)
          ∙ made_from_places (λ w h f other. numbers w h f) marks (map height rack.memory.now) place place (sheet_accepted (rack_outline rack) place read);
      sheets = record {
        steps = state_kept height marks rack.memory.now sheets was planes front split long;
        memory = places_kept height marks rack.memory.now sheets was planes front split long;
        lent = record { reference = refl; long = memory_long height marks rack.memory.now sheets was planes front split long };
      };
    }
