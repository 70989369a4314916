use Rattle.std.proofs.Common.{◌≡◌, ℕ, ◌-◌, ◌<◌, ◌≤◌, get_or, map}
use Rattle.measurements.proofs.skeleton.subtract_heights.Given as goal

abbrev pub invariant-loop-k : goal.invariant-loop-k
invariant-loop-k g l = record {
  before : (j : ℕ) → j < l.k → get_or l.piece j 0 ≡ get_or l.initial.piece j 0 - get_or (map g.L.Level.height l.sheet) j 0;
  after : (j : ℕ) → l.k ≤ j → get_or l.piece j 0 ≡ get_or l.initial.piece j 0;
}
