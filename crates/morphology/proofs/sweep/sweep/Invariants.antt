use Rattle.std.proofs.Common.{◌≡◌, ℕ, ◌*◌, ◌<◌, map, get_or, take}
use Rattle.elements.specs.Offsets.{flagged}
use Rattle.morphology.specs.Passes.{swept}
use Rattle.morphology.proofs.sweep.sweep.Given as goal

abbrev pub invariant-loop-index : goal.invariant-loop-index
invariant-loop-index g l =
    let heights = map g.L.Level.height in
    (p : ℕ) → p < l.sides.w * l.sides.h → get_or (heights l.to) p 0 ≡ swept l.op l.sides.w l.sides.h (heights l.from) (flagged 0 (take l.index l.element.flags)) p
