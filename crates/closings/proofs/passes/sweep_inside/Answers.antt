use Rattle.std.proofs.Common.{map, get_or, sym, ap, ◌∙◌}
use Rattle.closings.specs.Passes.{swept_inside}
use Rattle.closings.proofs.Sweeping.{sweep_set}
use Rattle.morphology.proofs.Sweeping.{flagged_clear}
use Rattle.closings.proofs.passes.sweep_inside.Goals as goal
use Rattle.closings.proofs.passes.sweep_inside.Goals.{then-holds, else-holds}

pub loop-index-preserved : goal.loop-index-preserved
loop-index-preserved g c p h =
    let f = map g.L.Level.height c.args.from.now in
    let sides = c.args.sides in
    let flags = c.args.element.now.flags in
    let index = c.loop-index.index in
    elim c.if-holds.branch [
      | then-holds w ↦
          ap (λ xs. get_or (map g.L.Level.height xs) p 0) w.to-is
          ∙ sweep_set sides.w sides.h f p flags index _ _ c.loop-index-test.true (sym c.holds.ensures ∙ w.if-holds.true) (c.loop-index.invariant p h) (w.pass_inside.ensures p h)
      | else-holds w ↦
          ap (λ xs. get_or (map g.L.Level.height xs) p 0) w.to-is
          ∙ c.loop-index.invariant p h ∙ sym (ap (λ os. swept_inside sides.w sides.h f os p) (flagged_clear flags index (sym c.holds.ensures ∙ w.if-holds.false)))
    ]
