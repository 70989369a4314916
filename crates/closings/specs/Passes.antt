-- What a pass of an offset and a sweep come to where they skip what falls outside. Assumes nothing.
use Rattle.std.specs.Prelude.{ℕ, ◌/◌, ◌%◌, Bool, cond, min, ◌&&◌, List, ℤ, pos, ◌+ℤ◌, filter}
use Rattle.morphology.specs.Passes.{on_side, swept}
use Rattle.morphology.specs.declared.operation.Operation.TheVariants.{Erosion}
use Rattle.operators.specs.Closings.{on_sheet}

-- the lower of a height and of its neighbour's, which counts only where that neighbour is inside
abbrev pub lowered : Bool → ℕ → ℕ → ℕ
lowered inside x y = min x (cond inside y x)

-- whether the neighbour of place p, c − 3 columns and r − 3 rows on, lies on a sheet of w × h heights
abbrev pub neighbour_inside : ℕ → ℕ → ℕ → ℕ → ℕ → Bool
neighbour_inside w h c r p = on_side h (p / w) r && on_side w (p % w) c

-- the least of a cell's own height and of those at the offsets that stay on the sheet from it
abbrev pub swept_inside : ℕ → ℕ → List ℕ → List (ℤ × ℤ) → ℕ → ℕ
swept_inside w h f offsets p =
    swept Erosion w h f (filter (λ o. on_sheet w h (pos (p % w) +ℤ o.0) (pos (p / w) +ℤ o.1)) offsets) p
