use Rattle.std.proofs.Common.{ℕ, ◌≤◌, ◌<◌, ◌↔◌, IsTrue, map, get_or}
use Rattle.transforms.proofs.reconstruction.nowhere_above.Given as goal

abbrev pub invariant-loop-k : goal.invariant-loop-k
invariant-loop-k g l =
    let heights = map g.L.Level.height in
    IsTrue l.below ↔ ((p : ℕ) → p < l.k → get_or (heights l.one) p 0 ≤ get_or (heights l.other) p 0)
