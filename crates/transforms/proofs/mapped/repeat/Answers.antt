use Rattle.std.proofs.Common.{◌≡◌, ◌+◌, ◌*◌, suc, map, ap, ◌∙◌, arith}
use Rattle.operators.specs.Maps.{times}
use Rattle.transforms.proofs.mapped.repeat.Goals as goal

pub loop-preserved : goal.loop-preserved
loop-preserved g c =
    let one = g.M.SheetMap.maps c.args.by.now c.args.sides.w c.args.sides.h in
    let two : suc (suc (2 * c.loop.counter)) ≡ 2 * (c.loop.counter + 1) = omega arith in
    c.apply-in-loop.ensures
    ∙ ap one (c.apply.ensures ∙ ap one c.loop.invariant)
    ∙ ap (λ n. times n one (map g.L.Level.height c.args.cells.now)) two

pub returns-then-size-eq1 : goal.returns-then-size-eq1
returns-then-size-eq1 g c =
    let one = g.M.SheetMap.maps c.args.by.now c.args.sides.w c.args.sides.h in
    let odd : suc (2 * c.loop.counter) ≡ c.args.size = omega (arith, c.loop.auto.counter-end) in
    ap (map g.L.Level.height) c.copy_from_slice.ensures.after
    ∙ c.apply-then-size-eq1.ensures
    ∙ ap one c.loop.invariant
    ∙ ap (λ n. times n one (map g.L.Level.height c.args.cells.now)) odd
