use Rattle.std.proofs.Common.{◌≡◌, ℕ, ◌+◌, ◌<◌, get_or}
use Rattle.restoring.specs.Numbers.{heights_of}
use Rattle.restoring.proofs.rebuilding.add_piece.Given as goal

abbrev pub invariant-loop-k : goal.invariant-loop-k
invariant-loop-k l = (j : ℕ) → j < l.k → get_or (heights_of l.sums) j 0 ≡ get_or (heights_of l.sheet) j 0 + get_or l.piece j 0
