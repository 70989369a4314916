-- Pattern spectra. Assumes nothing.
use Rattle.std.specs.Prelude.{ℕ, ◌+◌, ◌-◌, List, [], ◌∷◌, ◌++◌, map}
use Rattle.std.specs.List.{range_with_len}
use Rattle.morphology.specs.Sheets.{area}
use Rattle.operators.specs.Closings.{closing_entries}
use Rattle.operators.specs.Openings.{opening}

-- the entry of size n: the area of the opening of size n minus that of the next size
abbrev pub opening_entry : (List ℕ → List ℕ) → (List ℕ → List ℕ) → List ℕ → ℕ → ℕ
opening_entry shrink swell f n = area (opening shrink swell n f) - area (opening shrink swell (n + 1) f)

-- the entries of the sizes from 0 to depth − 1, and the rest, which is the area of the opening of that depth
abbrev pub opening_spectrum : (List ℕ → List ℕ) → (List ℕ → List ℕ) → ℕ → List ℕ → List ℕ
opening_spectrum shrink swell depth f =
    map (opening_entry shrink swell f) (range_with_len 0 depth) ++ area (opening shrink swell depth f) ∷ []

-- the spectrum to a depth: the entries of the sizes from −depth to −1 by closings, and then those by openings with the rest
abbrev pub spectrum : (ℕ → List ℕ → List ℕ) → (List ℕ → List ℕ) → (List ℕ → List ℕ) → ℕ → List ℕ → List ℕ
spectrum close shrink swell depth f = closing_entries close depth f ++ opening_spectrum shrink swell depth f
