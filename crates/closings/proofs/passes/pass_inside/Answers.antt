use Rattle.std.proofs.Common.{◌≡◌, ◌≤◌, ◌<◌, ◌+◌, ◌-◌, ◌*◌, ◌%◌, ◌&&◌, map, length, take, drop, sym, ap, ◌∙◌, arith, rules}
use Rattle.std.proofs.lemmas.List.{length-drop, length-take-le}
use Rattle.std.proofs.lemmas.Nat.{div-mul-add, mod-mul-add}
use Rattle.closings.specs.Passes.{neighbour_inside}
use Rattle.closings.proofs.Lowering.{inside_or_own, passed_outside_kept}
use Rattle.morphology.specs.Passes.{in_row, neighbour, on_side}
use Rattle.morphology.specs.Sheets.{at_place}
use Rattle.morphology.specs.declared.extremum.Extremum.TheVariants.{Minimum}
use Rattle.morphology.proofs.Passing.{heights_of_part, part_was, passed_more, passed_none}
use Rattle.morphology.proofs.Rows.{above_off, below_off, in_row-neighbour, next_row, on_its_side, rows_within}
use Rattle.closings.proofs.passes.pass_inside.Goals as goal

pub loop-row-init : goal.loop-row-init
loop-row-init g c =
    let w = c.args.sides.w in
    let h = c.args.sides.h in
    let above = c.margins-above.result.0 in
    let within : above * w ≤ length c.args.to.now = omega (arith, rows_within w h above (omega arith)) in
    passed_outside_kept (neighbour_inside w h c.args.c c.args.r) _ _ _ 0 (above * w) (omega arith)
    (λ p low high. ap (λ b. b && on_side w (p % w) c.args.c) (above_off w h c.args.r p c.args.sides.some_column (omega arith) (rw (← c.margins-above.ensures.start) high)))
    (passed_none Minimum _ _)

pub offset_bounds-to-target : goal.offset_bounds-to-target
offset_bounds-to-target g c =
    let row = c.loop-row.row in
    let few : row * c.args.sides.w < length c.args.to.now = omega (arith, next_row row c.args.sides.w, rows_within c.args.sides.w c.args.sides.h (row + 1) (omega arith)) in
    search rules

pub loop-row-preserved : goal.loop-row-preserved
loop-row-preserved g c =
    let height = g.L.Level.height in
    let w = c.args.sides.w in
    let h = c.args.sides.h in
    let f = map height c.args.from.now in
    let row = c.loop-row.row in
    let n = row * w + w - row * w in
    let source = (row + c.args.r - 3) * w in
    let one : n ≡ w = omega arith in
    let same : source + w - source ≡ w = omega arith in
    let on = on_its_side h row c.args.r (rw (← c.margins-above.ensures.start) c.loop-row.auto.row) (rw (← c.margins-above.ensures.end) c.loop-row-test.true) in
    let within : (row + 1) * w ≤ length c.loop-row.to = omega (arith, rows_within w h (row + 1) (omega arith)) in
    let long : length (take n (drop (row * w) c.loop-row.to)) ≡ w =
    length-take-le n (drop (row * w) c.loop-row.to) (rw (length-drop, one) (omega (arith, next_row row w, within))) ∙ one in
    let inside = neighbour_inside w h c.args.c c.args.r in
    let v = at_place w (neighbour w h f c.args.c c.args.r) in
    let was = map height c.args.to.now in
    let cells = c.lower_row.new.cells in
    let end : row * w + n ≡ (row + 1) * w = rw one (next_row row w) in
    let written : length cells ≡ n = c.lower_row.auto.cells ∙ long ∙ sym one in
    passed_more height Minimum (inside_or_own inside v was) was (row * w) n ((row + 1) * w) c.loop-row.to cells end within written c.loop-row.invariant (λ m k.
    let short : m < w = rw (← one) k in
    let stays : inside (row * w + m) ≡ on_side w m c.args.c =
    rw (div-mul-add row w m short, mod-mul-add row w m short) (ap (λ b. b && on_side w m c.args.c) on) in
    let reads : in_row w (map height (take (source + w - source) (drop source c.args.from.now))) c.args.c m ≡ v (row * w + m) =
    rw heights_of_part (in_row-neighbour w h f c.args.c c.args.r row _ m same short on) in
    let own = part_was height Minimum (inside_or_own inside v was) was (row * w) n ((row + 1) * w) c.loop-row.to cells end within written c.loop-row.invariant m k in
    let is = c.lower_row.ensures m (rw long short) in
    cc)

pub returns : goal.returns
returns g c p on =
    let w = c.args.sides.w in
    let h = c.args.sides.h in
    let all : c.loop-row.row ≡ h - c.margins-above.result.1 = omega (arith, c.loop-row.auto.row-end) in
    let few : (h - c.margins-above.result.1) * w ≤ w * h = rows_within w h _ (omega arith) in
    (passed_outside_kept (neighbour_inside w h c.args.c c.args.r) _ _ _ (c.loop-row.row * w) (w * h) (rw all few)
    (λ q low high. ap (λ b. b && on_side w (q % w) c.args.c) (below_off w h c.args.r q c.args.sides.some_column high (rw (← c.margins-above.ensures.end, ← all) low)))
    c.loop-row.invariant).before p on
