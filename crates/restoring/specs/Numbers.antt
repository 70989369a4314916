-- Sheets of numbers from 0 to 65,536, each of which is its own height. Assumes nothing.
use Rattle.std.specs.Prelude.{ℕ, List, map}
use Rattle.levels.specs.declared.number.Number.{Number}

-- the heights of a sheet of numbers
abbrev pub heights_of : List Number → List ℕ
heights_of numbers = map (λ (n : Number). n.value) numbers
