-- Openings. Assumes nothing.
use Rattle.std.specs.Prelude.{ℕ, List}
use Rattle.operators.specs.Maps.{times}

-- opening of size k: k erosions, then k dilations; size 0 is the sheet itself
abbrev pub opening : (List ℕ → List ℕ) → (List ℕ → List ℕ) → ℕ → List ℕ → List ℕ
opening shrink swell k f = times k swell (times k shrink f)
