use Rattle.std.proofs.Common.{◌≡◌, ◌≤◌, ◌<◌, ◌+◌, ◌-◌, ◌*◌, map, length, take, drop, sym, ap, ◌∙◌, zero-add, arith, rules}
use Rattle.std.proofs.lemmas.List.{length-drop, length-take-le}
use Rattle.std.proofs.lemmas.Nat.{mul-le}
use Rattle.morphology.specs.Passes.{extreme, neighbour}
use Rattle.morphology.specs.Sheets.{at_place}
use Rattle.morphology.proofs.Passing.{heights_of_part, passed_more, passed_none, passed_outside}
use Rattle.morphology.proofs.Rows.{above_off, below_off, in_row-neighbour, next_row, on_its_side, row_outside, rows_within}
use Rattle.morphology.proofs.passes.pass.Goals as goal

pub loop-row-init : goal.loop-row-init
loop-row-init g c =
    let w = c.args.sides.w in
    let h = c.args.sides.h in
    let above = c.margins-above.result.0 in
    let within : above * w ≤ length c.args.to.now = omega (arith, rows_within w h above (omega arith)) in
    passed_outside g.L.Level.height c.args.which (at_place w (neighbour w h (map g.L.Level.height c.args.from.now) c.args.c c.args.r)) _ 0 (above * w) (above * w) c.args.to.now c.combine_outside.new.cells
    (zero-add _) within (c.combine_outside.auto.cells ∙ length-take-le (above * w) c.args.to.now within) (passed_none _ _ _)
    (λ p low high. row_outside w h _ c.args.c c.args.r p (above_off w h c.args.r p c.args.sides.some_column (omega arith) (rw (← c.margins-above.ensures.start) high))) c.combine_outside.ensures

pub offset_bounds-to-target : goal.offset_bounds-to-target
offset_bounds-to-target g c =
    let row = c.loop-row.row in
    let few : row * c.args.sides.w < length c.args.to.now = omega (arith, next_row row c.args.sides.w, rows_within c.args.sides.w c.args.sides.h (row + 1) (omega arith)) in
    search rules

pub loop-row-preserved : goal.loop-row-preserved
loop-row-preserved g c =
    let height = g.L.Level.height in
    let w = c.args.sides.w in
    let h = c.args.sides.h in
    let f = map height c.args.from.now in
    let row = c.loop-row.row in
    let n = row * w + w - row * w in
    let source = (row + c.args.r - 3) * w in
    let one : n ≡ w = omega arith in
    let same : source + w - source ≡ w = omega arith in
    let on = on_its_side h row c.args.r (rw (← c.margins-above.ensures.start) c.loop-row.auto.row) (rw (← c.margins-above.ensures.end) c.loop-row-test.true) in
    let within : (row + 1) * w ≤ length c.loop-row.to = omega (arith, rows_within w h (row + 1) (omega arith)) in
    let long : length (take n (drop (row * w) c.loop-row.to)) ≡ w =
    length-take-le n (drop (row * w) c.loop-row.to) (rw (length-drop, one) (omega (arith, next_row row w, within))) ∙ one in
    passed_more height c.args.which (at_place w (neighbour w h f c.args.c c.args.r)) _ (row * w) n ((row + 1) * w) c.loop-row.to c.combine_row.new.cells
    (rw one (next_row row w)) within (c.combine_row.auto.cells ∙ long ∙ sym one) c.loop-row.invariant
    (λ m h. c.combine_row.ensures m (rw long (rw (← one) h)) ∙ ap (extreme c.args.which _) (rw (long, heights_of_part height (source + w - source) source c.args.from.now) (in_row-neighbour w c.args.sides.h f c.args.c c.args.r row _ m same (rw (← one) h) on)))

pub offset_bounds-to-end : goal.offset_bounds-to-end
offset_bounds-to-end g c =
    let end = c.args.sides.h - c.margins-above.result.1 in
    let few : end * c.args.sides.w ≤ length c.args.to.now = omega (arith, rows_within c.args.sides.w c.args.sides.h end (omega arith)) in
    search (rules, mul-le)

pub returns : goal.returns
returns g c p on =
    let height = g.L.Level.height in
    let w = c.args.sides.w in
    let h = c.args.sides.h in
    let to = c.loop-row.to in
    let last = c.combine_outside-2.new.cells in
    let end = h - c.margins-above.result.1 in
    let n = length to - end * w in
    let long : length to ≡ w * h = omega arith in
    let within : end * w ≤ length to = omega (arith, rows_within w h end (omega arith)) in
    let all : c.loop-row.row ≡ end = omega (arith, c.loop-row.auto.row-end) in
    (passed_outside height c.args.which (at_place w (neighbour w h (map height c.args.from.now) c.args.c c.args.r)) (map height c.args.to.now) (end * w) n (w * h) to last
    (omega (arith, long)) (omega (arith, long)) (c.combine_outside-2.auto.cells ∙ length-take-le n (drop (end * w) to) (rw length-drop (omega arith))) (rw (← all) c.loop-row.invariant)
    (λ q low high. row_outside w h _ c.args.c c.args.r q (below_off w h c.args.r q c.args.sides.some_column high (rw (← c.margins-above.ensures.end) low)))
    c.combine_outside-2.ensures).before p on
