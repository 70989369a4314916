use Rattle.std.proofs.Common.{◌≡◌, ℕ, ◌*◌, ◌<◌, map, get_or, take}
use Rattle.elements.specs.Offsets.{flagged}
use Rattle.closings.specs.Passes.{swept_inside}
use Rattle.closings.proofs.passes.sweep_inside.Given as goal

abbrev pub invariant-loop-index : goal.invariant-loop-index
invariant-loop-index g l =
    let heights = map g.L.Level.height in
    (p : ℕ) → p < l.sides.w * l.sides.h → get_or (heights l.to) p 0 ≡ swept_inside l.sides.w l.sides.h (heights l.from) (flagged 0 (take l.index l.element.flags)) p
