-- The places of a rack or a slate: their cells in its memory, and what is kept for them beside these. Assumes nothing.
use Rattle.std.specs.Prelude.{◌≡◌, ℕ, ◌-◌, ◌*◌, Bool, cond, ◌&&◌, List, take, drop, ℤ, Some, None, Option, nat_le, slice_index_or}
use Rattle.bench.specs.declared.marks.Marks.{Marks}
use Rattle.weights.specs.declared.weight.Weight.{Weight}
use Rattle.weights.specs.Weights.{AllWithin}

-- whether k is one of that many places, counted from 1
abbrev pub is_place : ℕ → ℕ → Bool
is_place places k = nat_le 1 k && nat_le k places

-- so many cells of memory, from a start on
abbrev pub cells_from : {X : Type 0} → ℕ → ℕ → List X → List X
cells_from start cells memory = take cells (drop start memory)

-- where the cells of place k begin, and which they are, where each place has so many cells
abbrev pub place_start : ℕ → ℕ → ℕ
place_start cells k = (k - 1) * cells

abbrev pub cells_of : {X : Type 0} → ℕ → ℕ → List X → List X
cells_of cells k memory = cells_from (place_start cells k) cells memory

-- what marks keep for place k, which is nothing where there is no such place or it is empty
abbrev pub kept : {T : Type 0} → Marks T → ℕ → Option T
kept m k = cond (is_place m.places k) (slice_index_or m.filled (k - 1) None) None

-- no cell of a filled place exceeds what its weight allows
abbrev pub CellsWithin : Marks Weight → List ℤ → Type 0
CellsWithin m memory = (k : ℕ) (w : Weight) → kept m k ≡ Some w → AllWithin w (cells_of (m.w * m.h) k memory)
