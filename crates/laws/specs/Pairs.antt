-- The laws of a pair of maps on sheets, one that shrinks and one that swells, and that erosion and dilation keep them.
-- What is said of openings, reconstruction, skeletons and spectra from size 0 on rests on these laws alone. Assumes nothing.
use Rattle.std.specs.Prelude.{◌≡◌, ℕ, ◌*◌, List, length}
use Rattle.elements.specs.declared.element.Element.{Element}
use Rattle.elements.specs.Elements.{offsets}
use Rattle.morphology.specs.Erosion.{eroded, dilated}
use Rattle.laws.specs.Maps.{Below, FlatOperator}

-- Both maps are flat operators. Swelling is nowhere below its sheet; swelling after shrinking is nowhere above the sheet; and a
-- sheet nowhere above some shrunken sheet is nowhere above its own swelling, shrunk.
pub record PairLaws (cells : ℕ) (shrink swell : List ℕ → List ℕ) : Type 0 where
  pub shrinks : FlatOperator cells shrink
  pub swells : FlatOperator cells swell
  pub above : (f : List ℕ) → length f ≡ cells → Below f (swell f)
  pub within : (f : List ℕ) → length f ≡ cells → Below (swell (shrink f)) f
  pub returns : (f g : List ℕ) → length f ≡ cells → length g ≡ cells → Below f (shrink g) → Below f (shrink (swell f))

-- erosion and dilation by an element are such a pair, on sheets of any sides
abbrev pub ErosionAndDilationArePair : Element → Type 0
ErosionAndDilationArePair e = (w h : ℕ) → PairLaws (w * h) (eroded w h (offsets e)) (dilated w h (offsets e))
