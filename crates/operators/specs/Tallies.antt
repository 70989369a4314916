-- Signed differences of sheets, as tallies hold them, and sums and multiples of these. Assumes nothing.
use Rattle.std.specs.Prelude.{ℕ, List, map, ℤ, pos, ◌+ℤ◌, ◌-ℤ◌, ◌*ℤ◌}
use Rattle.morphology.specs.Cells.{cell_by_cell}
use Rattle.operators.specs.Openings.{opening}

-- the heights of one sheet minus those of another
abbrev pub differed : List ℕ → List ℕ → List ℤ
differed = cell_by_cell (λ x y. pos x -ℤ pos y)

-- edge: the sheet minus its erosion
abbrev pub edge : (List ℕ → List ℕ) → List ℕ → List ℤ
edge shrink f = differed f (shrink f)

-- peak: the sheet minus its opening of size 1
abbrev pub peak : (List ℕ → List ℕ) → (List ℕ → List ℕ) → List ℕ → List ℤ
peak shrink swell f = differed f (opening shrink swell 1 f)

-- the sums of two tallies' cells
abbrev pub added : List ℤ → List ℤ → List ℤ
added = cell_by_cell ◌+ℤ◌

-- a tally's cells times a factor
abbrev pub scaled : ℤ → List ℤ → List ℤ
scaled factor = map (λ x. factor *ℤ x)
