use Rattle.std.proofs.Common.{◌≡◌, ℕ, ◌<◌, get_or, map, pos, ◌-ℤ◌}
use Rattle.bench.proofs.numbers.write_difference.Given as goal

abbrev pub invariant-loop-k : goal.invariant-loop-k
invariant-loop-k g l =
    let heights = map g.L.Level.height in
    (j : ℕ) → j < l.k → get_or l.cells j (pos 0) ≡ pos (get_or (heights l.one) j 0) -ℤ pos (get_or (heights l.other) j 0)
