-- Maps from sheets to sheets, applied more than once. Assumes nothing.
use Rattle.std.specs.Prelude.{ℕ, zero, suc, List}

-- a map applied so many times
abbrev pub times : ℕ → (List ℕ → List ℕ) → List ℕ → List ℕ
times zero map f = f
times (suc k) map f = map (times k map f)
