-- The heights of gray levels. Assumes nothing.
use Rattle.std.specs.Prelude.{ℕ}
use Rattle.levels.specs.declared.gray.Gray.{Gray}

-- a gray level is its own height
abbrev pub gray_height : Gray → ℕ
gray_height g = g.value
