use Rattle.std.proofs.Common.{◌≡◌, ◌*◌, ◌≤◌, length, Ok, sym, ap, ◌∙◌}
use Rattle.limits.specs.Faults.{told}
use Rattle.bench.specs.Calls.{depth_refusal}
use Rattle.bench.specs.Model.{rack_outline}
use Rattle.calls.specs.ByElement.{skeleton_length}
use Rattle.runs.proofs.Accepted.{depth_listed, tells_ok}
use Rattle.restoring.proofs.Opened.{opened_answer, opened_tells, opened_work, refused_as_skeleton}
use Rattle.restoring.proofs.by_skeleton.open_by_skeleton.Goals as goal

pub returns : goal.returns
returns g c =
    let height = g.L.Level.height in
    let top = g.L.Level.top in
    let bounded = g.met.L.Level.within in
    let low : top ≤ 65536 = g.met.L.Level.bounded in
    let rack = c.args.rack.now in
    let o = rack_outline rack in
    let e = c.args.element.now in
    let depth = c.args.depth in
    let size = c.args.size in
    let place = c.args.place in
    let answer = c.args.answer.now in
    let work = c.args.work.now in
    let pieces = c.skeleton.new.list in
    let wide : c.sizes-w.result.0 ≡ o.w = ap (λ t. t.0) c.sizes-w.ensures.value in
    let high : c.sizes-w.result.1 ≡ o.h = ap (λ t. t.1) c.sizes-w.ensures.value in
    let within : size ≤ depth = c.if-size-depth.false in
    let written = c.in_ok-skeleton.ensures in
    let passed = (tells_ok (depth_refusal o depth place (length c.args.pieces.now) (skeleton_length depth (o.w * o.h))) tt tt (sym written.answers)).0 in
    let listed = depth_listed o depth place (length c.args.pieces.now) (skeleton_length depth (o.w * o.h)) passed in
    let answer_long : length answer ≡ o.w * o.h = c.if-answer-cells.false ∙ (λ i. wide i * high i) in
    let work_long : length work ≡ o.w * o.h = c.if-work-cells.false ∙ (λ i. wide i * high i) in
    let ok : c.restore.result ≡ Ok tt =
    c.restore.ensures.answers ∙ opened_tells height top bounded low rack e depth size place within listed pieces answer work written.list answer_long work_long _ _ wide high in
    record {
      model = c.runs_of_a_kind.ensures.restoring;
      answers = ok ∙ sym (ap told (refused_as_skeleton o depth size place (length c.args.pieces.now) (length answer) (length work) answer_long work_long listed.there within ∙ passed));
      lists = rw ok (
        written.list,
        c.restore.ensures.answer ∙ opened_answer height top bounded low rack e depth size place within listed pieces answer work written.list answer_long work_long _ _ wide high,
        c.restore.ensures.work ∙ opened_work height top bounded low rack e depth size place within listed pieces answer work written.list answer_long work_long _ _ wide high,
      );
      sheets = record { steps = written.sheets.steps; memory = rw ok written.sheets.memory; lent = written.sheets.lent };
    }
