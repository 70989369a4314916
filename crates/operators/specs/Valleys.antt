-- Valleys, which rest on closings. Assumes nothing.
use Rattle.std.specs.Prelude.{ℕ, List, ℤ}
use Rattle.operators.specs.Tallies.{differed}

-- valley: the closing of size 1 minus the sheet, where `close k` is the closing of size k
abbrev pub valley : (ℕ → List ℕ → List ℕ) → List ℕ → List ℤ
valley close f = differed (close 1 f) f
