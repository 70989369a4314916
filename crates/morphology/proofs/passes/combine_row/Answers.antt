use Rattle.std.proofs.Common.{◌≡◌, ◌≤◌, ◌+◌, ◌-◌, map, length, take, drop, refl, ◌∙◌, zero-add, arith}
use Rattle.std.proofs.lemmas.List.{length-drop, length-map, length-take-le}
use Rattle.morphology.specs.Passes.{in_row}
use Rattle.morphology.proofs.Passing.{heights_of_part, length-rewritten, passed_combined, passed_none, passed_outside, rewritten}
use Rattle.morphology.proofs.Rows.{end_outside, row_read, start_outside}
use Rattle.morphology.proofs.passes.combine_row.Goals as goal

pub returns : goal.returns
returns g c =
    let height = g.L.Level.height in
    let which = c.args.which in
    let cells = c.args.cells.now in
    let w = length cells in
    let left = c.margins-left.result.0 in
    let right = c.margins-left.result.1 in
    let f = map height c.args.others.now in
    let v = in_row w f c.args.c in
    let start : left ≤ w = omega (arith, c.margins-left.ensures.start) in
    let whole : left + (w - right - left) ≡ w - right = omega (arith, c.margins-left.ensures) in
    let same : w - left - right ≡ w - right - left = omega arith in
    let n = w - right - left in
    let first = c.combine_outside.new.cells in
    let second = c.combine_run.new.cells in
    let first_long : length first ≡ left = c.combine_outside.auto.cells ∙ length-take-le left cells start in
    let one = rewritten 0 left cells first in
    let one_long : length one ≡ w = length-rewritten 0 left cells first (rw zero-add start) first_long in
    let second_long : length second ≡ n = c.combine_run.auto.cells ∙ length-take-le n (drop left one) (rw (length-drop, one_long) (omega arith)) in
    let two = rewritten left n one second in
    let two_long : length two ≡ w = length-rewritten left n one second (rw one_long (omega (arith, whole))) second_long ∙ one_long in
    let p =
    passed_outside height which v (map height cells) 0 left left cells first (zero-add _) start first_long (passed_none which v _)
    (λ m low high. start_outside w c.args.c f m (omega arith) (rw (← c.margins-left.ensures.start) high)) c.combine_outside.ensures in
    let q =
    passed_combined height which v (map height cells) left n (w - right) one second whole (rw one_long (omega arith)) second_long p
    (map height (take (w - left - right) (drop right c.args.others.now)))
    (length-map _ _ ∙ length-take-le (w - left - right) (drop right c.args.others.now) (rw (length-drop, c.requires) (omega arith)) ∙ same) (λ m h. rw heights_of_part (row_read w c.args.c f left right (w - left - right) m c.margins-left.ensures.start c.margins-left.ensures.end refl (rw same h))) c.combine_run.ensures in
    let third = c.combine_outside-2.new.cells in
    let rest = length two - (w - right) in
    let end : w - right + rest ≡ w = rw two_long (omega arith) in
    let third_long : length third ≡ rest = c.combine_outside-2.auto.cells ∙ length-take-le rest (drop (w - right) two) (rw length-drop (omega arith)) in
    (passed_outside height which v (map height cells) (w - right) rest w two third end (omega (arith, two_long)) third_long q
    (λ m low high. end_outside w c.args.c f m high (rw (← c.margins-left.ensures.end) low)) c.combine_outside-2.ensures).before
