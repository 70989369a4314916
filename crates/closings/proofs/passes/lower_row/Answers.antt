use Rattle.std.proofs.Common.{◌≡◌, ℕ, ◌≤◌, ◌+◌, ◌-◌, map, length, take, drop, refl, ap, cond, get_or, sym, ◌∙◌, arith}
use Rattle.std.proofs.lemmas.List.{length-drop, length-map, length-take-le}
use Rattle.morphology.specs.Passes.{in_row, on_side}
use Rattle.morphology.specs.declared.extremum.Extremum.TheVariants.{Minimum}
use Rattle.morphology.proofs.Passing.{heights_of_part, passed_combined, passed_none}
use Rattle.morphology.proofs.Rows.{off_end, off_start, on_its_side, row_read}
use Rattle.closings.proofs.Lowering.{inside_or_own, passed_outside_kept}
use Rattle.closings.proofs.passes.lower_row.Goals as goal

pub returns : goal.returns
returns g c =
    let height = g.L.Level.height in
    let cells = c.args.cells.now in
    let others = c.args.others.now in
    let was = map height cells in
    let w = length cells in
    let left = c.margins-left.result.0 in
    let right = c.margins-left.result.1 in
    let n = w - right - left in
    let count = w - left - right in
    let inside = λ (m : ℕ). on_side w m c.args.c in
    let v = in_row w (map height others) c.args.c in
    let start : left ≤ w = omega (arith, c.margins-left.ensures.start) in
    let whole : left + n ≡ w - right = omega (arith, c.margins-left.ensures) in
    let same : count ≡ n = omega arith in
    let first =
    passed_outside_kept inside v was was 0 left (omega arith) (λ m low high. off_start w m c.args.c (omega arith) (rw (← c.margins-left.ensures.start) high)) (passed_none Minimum (inside_or_own inside v was) was) in
    let second =
    passed_combined height Minimum (inside_or_own inside v was) was left n (w - right) cells c.keep_extremes.new.cells whole (omega arith)
    (c.keep_extremes.auto.cells ∙ length-take-le n (drop left cells) (rw length-drop (omega arith))) first
    (map height (take count (drop right others)))
    (length-map _ _ ∙ length-take-le count (drop right others) (rw (length-drop, c.requires) (omega arith)) ∙ same)
    (λ m h. rw heights_of_part (row_read w c.args.c (map height others) left right count m c.margins-left.ensures.start c.margins-left.ensures.end refl (rw same h))
    ∙ sym (ap (λ b. cond b (v (left + m)) (get_or was (left + m) 0)) (on_its_side w (left + m) c.args.c (omega arith) (omega arith))))
    (rw c.unwrap.ensures at c.keep_extremes.ensures.memory) in
    (passed_outside_kept inside v was _ (w - right) w (omega arith) (λ m low high. off_end w m c.args.c high (rw (← c.margins-left.ensures.end) low)) second).before
