use Rattle.std.proofs.Common.{◌≡◌, ℕ, ◌+◌, ◌-◌, ◌<◌, ◌≤◌, get_or}
use Rattle.measurements.proofs.subtracting.subtract_next.Given as goal

abbrev pub invariant-loop-k : goal.invariant-loop-k
invariant-loop-k l = record {
  before : (j : ℕ) → j + 1 < l.k → get_or l.list j 0 ≡ get_or l.initial.list j 0 - get_or l.initial.list (j + 1) 0;
  after : (j : ℕ) → l.k ≤ j + 1 → get_or l.list j 0 ≡ get_or l.initial.list j 0;
}
