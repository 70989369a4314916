use Rattle.std.proofs.Common.{◌≡◌, ◌+◌, length, map, arith}
use Rattle.std.proofs.lemmas.Grind.{common_steps}
use Rattle.std.proofs.lemmas.List.FromFn.{fill_by_all}
use Rattle.morphology.specs.Sheets.{area}
use Rattle.operators.specs.Maps.{times}
use Rattle.measurements.proofs.areas.AreasMeasurement.measure.Goals as goal

pub returns-clause-memory : goal.returns-clause-memory
returns-clause-memory g c =
    let first = g.M.SheetMap.maps c.args.self.now.first c.args.w c.args.h in
    let second = g.N.SheetMap.maps c.args.self.now.second c.args.w c.args.h in
    let long : length c.args.list.now ≡ c.args.self.now.depth + 1 = grind (arith, common_steps) in
    fill_by_all (λ n. area (times n second (times n first (map g.L.Level.height c.args.sheet.now)))) c.loop-size.list (c.args.self.now.depth + 1) 0 (omega arith)
    (λ n within. c.loop-size.invariant n (omega arith))
