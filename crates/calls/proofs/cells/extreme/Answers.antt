use Rattle.std.proofs.Common.{◌<◌, ◌≤◌, map, length, get_or, fold, sym, ap, ◌∙◌, arith}
use Rattle.std.proofs.lemmas.List.{length-map, take_all}
use Rattle.std.proofs.lemmas.List.Sums.{fold_more}
use Rattle.morphology.specs.Passes.{extreme}
use Rattle.morphology.proofs.Passing.{height_read}
use Rattle.calls.proofs.Folds.{fold_is_extreme}
use Rattle.calls.proofs.cells.extreme.Goals as goal

pub loop-level-init : goal.loop-level-init
loop-level-init g c = sym (height_read g.L.Level.height c.args.sheet.now 0 c.index-sheet-0.result (omega arith) c.index-sheet-0.is)

pub loop-level-preserved : goal.loop-level-preserved
loop-level-preserved g c =
    let height = g.L.Level.height in
    let heights = map height c.args.sheet.now in
    let i = c.loop-level.level-index in
    let within : i < length heights = rw length-map c.loop-level-test.true in
    let read = sym (height_read height c.args.sheet.now i c.level-item.result c.loop-level-test.true c.level-item.is) in
    c.kept-extreme.ensures
    ∙ (λ k. extreme c.args.which (c.loop-level.invariant k) (read k))
    ∙ sym (fold_more (extreme c.args.which) (get_or heights 0 0) heights i 0 within)

pub returns : goal.returns
returns g c =
    let heights = map g.L.Level.height c.args.sheet.now in
    let all : length heights ≤ c.loop-level.level-index = rw length-map c.loop-level-test.false in
    c.loop-level.invariant
    ∙ ap (fold (extreme c.args.which) (get_or heights 0 0)) (take_all _ heights all)
    ∙ fold_is_extreme c.args.which heights (rw length-map c.requires)
