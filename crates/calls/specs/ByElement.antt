-- What an element makes of sheets of w × h heights: erosion, dilation, openings, reconstruction and skeletons. Assumes nothing.
use Rattle.std.specs.Prelude.{ℕ, ◌+◌, ◌*◌, List}
use Rattle.elements.specs.declared.element.Element.{Element}
use Rattle.elements.specs.Elements.{offsets}
use Rattle.morphology.specs.Erosion.{dilated, eroded}
use Rattle.bench.specs.Calls.{Making, OfTwo}
use Rattle.operators.specs.Openings.{opening}
use Rattle.operators.specs.Reconstruction.{reconstructed, rounds}
use Rattle.operators.specs.Skeletons.{skeleton}

-- Its erosion and dilation.
abbrev pub shrink : Element → ℕ → ℕ → List ℕ → List ℕ
shrink e w h = eroded w h (offsets e)

abbrev pub swell : Element → ℕ → ℕ → List ℕ → List ℕ
swell e w h = dilated w h (offsets e)

-- What it makes of two sheets: its opening of a size, for which only the first is read, and its reconstruction, from a marker and an
-- upper sheet.
abbrev pub opening_by : Element → ℕ → Making
opening_by e size w h f g = opening (shrink e w h) (swell e w h) size f

abbrev pub reconstruction_by : Element → Making
reconstruction_by e w h marker upper = reconstructed (swell e w h) marker upper

-- The changing rounds of its reconstruction.
abbrev pub rounds_by : Element → OfTwo ℕ
rounds_by e w h = rounds (swell e w h)

-- Its skeleton to a depth, and how many numbers that has of a sheet of so many cells: a piece for each size from 0 to the depth.
abbrev pub skeleton_by : Element → ℕ → ℕ → ℕ → List ℕ → List ℕ
skeleton_by e depth w h = skeleton (shrink e w h) (swell e w h) depth

abbrev pub skeleton_length : ℕ → ℕ → ℕ
skeleton_length depth cells = (depth + 1) * cells
