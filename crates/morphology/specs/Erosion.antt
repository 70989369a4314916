-- Erosion and dilation of a sheet of heights by the offsets of an element. Assumes nothing.
use Rattle.std.specs.Prelude.{ℕ, min, max, List, [], ◌∷◌, map, ℤ, pos, ◌+ℤ◌, ◌-ℤ◌, fold}
use Rattle.morphology.specs.Sheets.{height_at, by_cells}
use Rattle.morphology.specs.declared.operation.Operation.{Operation}
use Rattle.morphology.specs.declared.operation.Operation.TheVariants.{Erosion, Dilation}

-- the least of some heights
abbrev pub least : List ℕ → ℕ
least [] = 0
least (x ∷ xs) = fold min x xs

-- the greatest of some heights
abbrev pub greatest : List ℕ → ℕ
greatest xs = fold max 0 xs

-- erosion at column m and row n: the least of f(m + i, n + j) over the offsets (i, j)
abbrev pub erosion_at : ℕ → ℕ → List (ℤ × ℤ) → List ℕ → ℕ → ℕ → ℕ
erosion_at w h offsets f m n = least (map (λ o. height_at w h f (pos m +ℤ o.0) (pos n +ℤ o.1)) offsets)

-- dilation at column m and row n: the greatest of f(m − i, n − j) over the offsets (i, j)
abbrev pub dilation_at : ℕ → ℕ → List (ℤ × ℤ) → List ℕ → ℕ → ℕ → ℕ
dilation_at w h offsets f m n = greatest (map (λ o. height_at w h f (pos m -ℤ o.0) (pos n -ℤ o.1)) offsets)

-- the eroded sheet
abbrev pub eroded : ℕ → ℕ → List (ℤ × ℤ) → List ℕ → List ℕ
eroded w h offsets f = by_cells w h (erosion_at w h offsets f)

-- the dilated sheet
abbrev pub dilated : ℕ → ℕ → List (ℤ × ℤ) → List ℕ → List ℕ
dilated w h offsets f = by_cells w h (dilation_at w h offsets f)

-- what an operation makes of a sheet
abbrev pub operated : Operation → ℕ → ℕ → List (ℤ × ℤ) → List ℕ → List ℕ
operated Erosion = eroded
operated Dilation = dilated
