-- The numbers that a line tells of what a call on a bench in use tells. Assumes nothing.
use Rattle.std.specs.Prelude.{ℕ, List, [], ◌∷◌}
use Rattle.in_use.specs.declared.call.Told.{Told}
use Rattle.in_use.specs.declared.call.Told.TheVariants.{Area, Spectrum}
use Rattle.levels.specs.declared.gray.Gray.{Gray}

-- an area, or the entries that were written to a list
abbrev pub numbers_in : List ℕ → Told Gray → List ℕ
numbers_in written (Area area) = area ∷ []
numbers_in written Spectrum = written
numbers_in written told = []
