use Rattle.std.proofs.Common.{◌≡◌, ◌*◌, length, ap, ◌∙◌}
use Rattle.bench.specs.Model.{cells_of, slate_outline}
use Rattle.weights.specs.Weights.{weighed}
use Rattle.bench.proofs.Places.{content_kept, length-cells_of, place_in_memory, slate_room}
use Rattle.bench.proofs.Refusals.{source_accepted}
use Rattle.bench.proofs.slate.Slate.tally.Goals as goal

pub part-requires : goal.part-requires
part-requires c =
    let slate = c.args.self.now in
    let place = (source_accepted _ _ (slate_outline slate) c.args.place c.in_ok-weight.ensures.0).0 in
    rw c.cells-cells.ensures (place_in_memory slate.marks c.args.place place slate.memory.now (slate_room slate c.args.place place))

pub returns : goal.returns
returns c =
    let slate = c.args.self.now in
    let marks = slate.marks in
    let kept = c.in_ok-weight.ensures in
    let place = (source_accepted _ _ (slate_outline slate) c.args.place kept.0).0 in
    let part : c.part.result.now ≡ cells_of (marks.w * marks.h) c.args.place slate.memory.now = rw c.cells-cells.ensures at c.part.ensures in
    record {
      answers = (kept.0, content_kept weighed marks slate.memory.now c.args.place _ _ kept.1 part);
      sides = ap length part ∙ length-cells_of marks c.args.place place slate.memory.now (slate_room slate c.args.place place);
    }
