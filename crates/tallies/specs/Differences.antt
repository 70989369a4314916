-- The tallies that are made of sheets. Assumes nothing.
use Rattle.elements.specs.declared.element.Element.{Element}
use Rattle.bench.specs.Calls.{Making, OfTwo}
use Rattle.calls.specs.ByElement.{shrink, swell}
use Rattle.operators.specs.Tallies.{differed, edge, peak}
use Rattle.weights.specs.Weights.{Tally, difference}
use Rattle.tallies.specs.declared.order.Order.{Order}
use Rattle.tallies.specs.declared.order.Order.TheVariants.{SheetFirst, MadeFirst}

-- the difference of two sheets
abbrev pub difference_of_two : OfTwo Tally
difference_of_two w h f g = difference (differed f g)

-- the difference of a sheet and what is made of it
abbrev pub difference_with : Order → Making → OfTwo Tally
difference_with SheetFirst made w h f g = difference (differed f (made w h f g))
difference_with MadeFirst made w h f g = difference (differed (made w h f g) f)

-- the edge and the peak of a sheet by an element
abbrev pub edge_by : Element → OfTwo Tally
edge_by e w h f g = difference (edge (shrink e w h) f)

abbrev pub peak_by : Element → OfTwo Tally
peak_by e w h f g = difference (peak (shrink e w h) (swell e w h) f)
