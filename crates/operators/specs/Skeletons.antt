-- Skeletons. Assumes nothing.
use Rattle.std.specs.Prelude.{ℕ, zero, suc, ◌-◌, List, [], ◌++◌}
use Rattle.morphology.specs.Cells.{cell_by_cell}
use Rattle.operators.specs.Maps.{times}
use Rattle.operators.specs.Openings.{opening}

-- the heights of one sheet minus those of another that is nowhere above it
abbrev pub minus : List ℕ → List ℕ → List ℕ
minus = cell_by_cell ◌-◌

-- piece n of a skeleton, below its depth: the sheet eroded n times, minus the opening of size 1 of that
abbrev pub skeleton_piece : (List ℕ → List ℕ) → (List ℕ → List ℕ) → List ℕ → ℕ → List ℕ
skeleton_piece shrink swell f n = minus (times n shrink f) (opening shrink swell 1 (times n shrink f))

-- the lists p(0) to p(n − 1), one behind the other
abbrev pub concatenated : (ℕ → List ℕ) → ℕ → List ℕ
concatenated p zero = []
concatenated p (suc n) = concatenated p n ++ p n

-- the skeleton to a depth: the pieces below the depth, then the sheet eroded that many times
abbrev pub skeleton : (List ℕ → List ℕ) → (List ℕ → List ℕ) → ℕ → List ℕ → List ℕ
skeleton shrink swell depth f = concatenated (skeleton_piece shrink swell f) depth ++ times depth shrink f
