-- What the calls that make a sheet by an element make. Assumes nothing.
use Rattle.std.specs.Prelude.{List, ℤ}
use Rattle.bench.specs.Calls.{Making}
use Rattle.morphology.specs.Erosion.{operated}
use Rattle.morphology.specs.declared.operation.Operation.{Operation}

-- erosion and dilation by an element of these offsets: of the two sheets only the first is read
abbrev pub by_element : Operation → List (ℤ × ℤ) → Making
by_element op offsets w h f g = operated op w h offsets f
