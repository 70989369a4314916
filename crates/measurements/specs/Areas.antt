-- Areas of a sheet by size, and how they fall. Assumes nothing.
use Rattle.std.specs.Prelude.{ℕ, ◌+◌, ◌-◌, List, [], ◌∷◌, map}
use Rattle.std.specs.List.{range_with_len}
use Rattle.morphology.specs.Sheets.{area}
use Rattle.operators.specs.Maps.{times}

-- the areas of what two maps in turn, each so many times, make of a sheet: for each number from 0 to the depth
abbrev pub areas : (List ℕ → List ℕ) → (List ℕ → List ℕ) → ℕ → List ℕ → List ℕ
areas first second depth f = map (λ n. area (times n second (times n first f))) (range_with_len 0 (depth + 1))

-- each number minus the next one, and the last as it is
abbrev pub minus_next : List ℕ → List ℕ
minus_next [] = []
minus_next (x ∷ []) = x ∷ []
minus_next (x ∷ y ∷ xs) = (x - y) ∷ minus_next (y ∷ xs)
