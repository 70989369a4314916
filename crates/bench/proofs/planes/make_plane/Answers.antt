use Rattle.std.proofs.Common.{◌≡◌, ◌*◌, Ok, map, length, take, sym, ap, ◌∙◌, arith}
use Rattle.std.proofs.lemmas.List.{length-map, length-take, length-drop, map-append, take_at}
use Rattle.std.proofs.lemmas.Result.{MatchResult-at_ok}
use Rattle.limits.specs.Faults.{tells}
use Rattle.bench.specs.Calls.{made_from}
use Rattle.bench.specs.Model.{cells_from}
use Rattle.bench.proofs.Memory.{heights_of_cells, lists_accepted}
use Rattle.bench.proofs.planes.make_plane.Goals as goal

pub returns : goal.returns
returns g c =
    let height = g.L.Level.height in
    let sides = c.args.sides in
    let cells = sides.w * sides.h in
    let sheets = c.args.sheets.now in
    let makes = g.T.Transform.makes c.args.transform.now in
    let reports = g.T.Transform.report_of c.args.transform.now in
    let count = c.cells-cells.ensures in
    let planes = c.requires.planes in
    let one_is : c.part.result.now ≡ cells_from c.args.one cells sheets = rw count at c.part.ensures in
    let other_is : c.part-2.result.now ≡ cells_from c.args.other cells sheets = rw count at c.part-2.ensures in
    let one_long : length c.part.result.now ≡ cells = ap length one_is ∙ simp (length-take, length-drop) (omega arith) in
    let other_long : length c.part-2.result.now ≡ cells = ap length other_is ∙ simp (length-take, length-drop) (omega arith) in
    let plane_long : length c.split_at_mut-plane.result.0.now ≡ cells = c.split_at_mut-plane.ensures.front_len ∙ count in
    let spare_long : length c.split_at_mut-plane.result.1.now ≡ cells = omega (arith, c.split_at_mut-plane.ensures.back_len, count, planes) in
    let accepted = lists_accepted sides.w sides.h (sides.some_column, sides.wide) (sides.some_row, sides.high) _ _ _ one_long other_long plane_long _ spare_long in
    let one = ap (map height) one_is ∙ heights_of_cells height c.args.one cells sheets in
    let other = ap (map height) other_is ∙ heights_of_cells height c.args.other cells sheets in
    let answer = c.transform.ensures.answers ∙ ap (λ o. tells o (reports sides.w sides.h (map height c.part.result.now) (map height c.part-2.result.now))) accepted in
    let made : map height c.transform.new.to ≡ made_from makes sides.w sides.h c.args.one c.args.other (map height sheets) =
    MatchResult-at_ok (λ _. map height c.transform.new.to ≡ makes sides.w sides.h (map height c.part.result.now) (map height c.part-2.result.now)) _ _
    answer c.transform.ensures.memory
    ∙ (λ i. makes sides.w sides.h (one i) (other i)) in
    let same : Ok c.unwrap.result ≡ Ok (reports sides.w sides.h (map height c.part.result.now) (map height c.part-2.result.now)) = sym c.unwrap.ensures ∙ answer in
    record {
      made =
          ap (take cells) (map-append height c.transform.new.to c.transform.new.spare)
          ∙ take_at _ _ cells (length-map _ _ ∙ c.transform.auto.to ∙ plane_long)
          ∙ made;
      reports = (let e : c.unwrap.result ≡ reports sides.w sides.h (map height c.part.result.now) (map height c.part-2.result.now) = cc in e) ∙ (λ i. reports sides.w sides.h (one i) (other i));
    }
