-- What rests on closings by an element, of sheets of w × h heights. Assumes nothing.
use Rattle.std.specs.Prelude.{ℕ, ◌+◌, ◌*◌, List}
use Rattle.elements.specs.declared.element.Element.{Element}
use Rattle.elements.specs.Elements.{offsets}
use Rattle.bench.specs.Calls.{Making, OfTwo}
use Rattle.calls.specs.ByElement.{shrink, swell}
use Rattle.operators.specs.Closings.{closed_by}
use Rattle.operators.specs.Spectra.{spectrum}
use Rattle.operators.specs.Valleys.{valley}
use Rattle.weights.specs.Weights.{Tally, difference}

-- its closing of a size
abbrev pub close : Element → ℕ → ℕ → ℕ → List ℕ → List ℕ
close e w h = closed_by w h (offsets e)

-- the sheet and the tally that calls make by it
abbrev pub closing_by : Element → ℕ → Making
closing_by e size w h f g = close e w h size f

abbrev pub valley_by : Element → OfTwo Tally
valley_by e w h f g = difference (valley (close e w h) f)

-- Its pattern spectrum to a depth, and how many numbers that has: an entry for each size from −depth to depth − 1, and the rest.
abbrev pub spectrum_by : Element → ℕ → ℕ → ℕ → List ℕ → List ℕ
spectrum_by e depth w h = spectrum (close e w h) (shrink e w h) (swell e w h) depth

abbrev pub spectrum_length : ℕ → ℕ → ℕ
spectrum_length depth cells = 2 * depth + 1
