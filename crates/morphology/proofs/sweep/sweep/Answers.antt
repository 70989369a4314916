use Rattle.std.proofs.Common.{map, get_or, sym, ap, ◌∙◌}
use Rattle.morphology.specs.Passes.{extreme, neighbour}
use Rattle.morphology.specs.Sheets.{at_place}
use Rattle.morphology.proofs.Sweeping.{sweep_set, sweep_clear}
use Rattle.morphology.proofs.sweep.sweep.Goals as goal
use Rattle.morphology.proofs.sweep.sweep.Goals.{then-holds, else-holds}

pub loop-index-preserved : goal.loop-index-preserved
loop-index-preserved g c p h =
    let f = map g.L.Level.height c.args.from.now in
    let sides = c.args.sides in
    let flags = c.args.element.now.flags in
    let index = c.loop-index.index in
    elim c.if-holds.branch [
      | then-holds w ↦
          let x = get_or (map g.L.Level.height c.loop-index.to) p 0 in
          ap (λ xs. get_or (map g.L.Level.height xs) p 0) w.to-is
          ∙ sweep_set c.args.op sides.w sides.h f p flags index _ _ c.loop-index-test.true (sym c.holds.ensures ∙ w.if-holds.true) (c.loop-index.invariant p h)
          (w.pass.ensures p h
          ∙ (λ i. extreme (c.extremum-which.ensures i) x (at_place sides.w (neighbour sides.w sides.h f (w.turned.ensures i) (w.turned-then-holds.ensures i)) p)))
      | else-holds w ↦
          ap (λ xs. get_or (map g.L.Level.height xs) p 0) w.to-is
          ∙ sweep_clear c.args.op sides.w sides.h f p flags index _ (sym c.holds.ensures ∙ w.if-holds.false) (c.loop-index.invariant p h)
    ]
