-- Reconstruction of an upper sheet from a marker. Assumes nothing.
use Rattle.std.specs.Prelude.{ℕ, zero, suc, cond, List, bytes_eq}
use Rattle.morphology.specs.Cells.{met}
use Rattle.morphology.specs.Sheets.{area}
use Rattle.operators.specs.Maps.{times}

-- a round dilates and meets with the upper sheet
abbrev pub round : (List ℕ → List ℕ) → List ℕ → List ℕ → List ℕ
round swell upper f = met (swell f) upper

-- how many times a map changes a list, one time after the other, until one would change nothing; at most so many times
-- (`bytes_eq` tells whether two lists of numbers are the same)
abbrev pub changing_times : ℕ → (List ℕ → List ℕ) → List ℕ → ℕ
changing_times zero map f = 0
changing_times (suc most) map f = cond (bytes_eq (map f) f) 0 (suc (changing_times most map (map f)))

-- The number of changing rounds from the meet of marker and upper sheet. Each raises the area, so there are at most as many as
-- the area of the upper sheet.
abbrev pub rounds : (List ℕ → List ℕ) → List ℕ → List ℕ → ℕ
rounds swell marker upper = changing_times (area upper) (round swell upper) (met marker upper)

-- the sheet after these rounds
abbrev pub reconstructed : (List ℕ → List ℕ) → List ℕ → List ℕ → List ℕ
reconstructed swell marker upper = times (rounds swell marker upper) (round swell upper) (met marker upper)
