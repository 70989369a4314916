use Rattle.std.proofs.Common.{◌≡◌, ◌*◌, map, length, ap, ◌∙◌, arith}
use Rattle.std.proofs.lemmas.List.{length-take, length-drop}
use Rattle.std.proofs.lemmas.Result.{MatchResult-at_ok}
use Rattle.limits.specs.Faults.{told}
use Rattle.bench.specs.Model.{cells_from}
use Rattle.bench.proofs.Memory.{heights_of_cells, measure_accepted}
use Rattle.bench.proofs.planes.measure_sheet.Goals as goal

pub returns : goal.returns
returns g c =
    let height = g.L.Level.height in
    let sides = c.args.sides in
    let cells = sides.w * sides.h in
    let sheets = c.args.sheets.now in
    let of = c.args.measurement.now in
    let numbers = g.M.Measurement.numbers_of of sides.w sides.h in
    let count = c.cells-cells.ensures in
    let sheet_is : c.part.result.now ≡ cells_from c.args.start cells sheets = rw count at c.part.ensures in
    let sheet_long : length c.part.result.now ≡ cells = ap length sheet_is ∙ simp (length-take, length-drop) (omega (arith, c.requires.sheet)) in
    let plane_long : length c.split_at_mut-plane.result.0.now ≡ cells = c.split_at_mut-plane.ensures.front_len ∙ count in
    let spare_long : length c.split_at_mut-plane.result.1.now ≡ cells = omega (arith, c.split_at_mut-plane.ensures.back_len, count, c.requires.planes) in
    let accepted = measure_accepted sides.w sides.h (sides.some_column, sides.wide) (sides.some_row, sides.high) _ _ _ sheet_long plane_long spare_long (g.M.Measurement.depth_of of) (g.M.Measurement.len_of of cells) (length c.args.list.now) c.requires.numbers in
    MatchResult-at_ok (λ _. c.measure.new.list ≡ numbers (map height c.part.result.now)) _ _ (c.measure.ensures.answers ∙ ap told accepted) c.measure.ensures.memory
    ∙ ap numbers (ap (map height) sheet_is ∙ heights_of_cells height c.args.start cells sheets)
