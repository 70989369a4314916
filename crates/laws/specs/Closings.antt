-- The laws of closings, which rest on nothing of openings. Assumes nothing.
use Rattle.std.specs.Prelude.{◌≡◌, ℕ, suc, ◌+◌, ◌*◌, ◌≤◌, List, length, sum}
use Rattle.elements.specs.declared.element.Element.{Element}
use Rattle.elements.specs.Elements.{offsets}
use Rattle.morphology.specs.Cells.{cut}
use Rattle.morphology.specs.Erosion.{dilated}
use Rattle.morphology.specs.Sheets.{area}
use Rattle.operators.specs.Closings.{closing, closing_entries, eroded_inside}
use Rattle.laws.specs.Maps.{Below, FlatOperator}
use Rattle.laws.specs.Sums.{HeightsAtMost, ListSum}

-- A pair of maps to close with: both are flat operators, and the second after the first is nowhere below the sheet.
pub record ClosingPairLaws (cells : ℕ) (swell shrink_inside : List ℕ → List ℕ) : Type 0 where
  pub swells : FlatOperator cells swell
  pub shrinks : FlatOperator cells shrink_inside
  pub above : (f : List ℕ) → length f ≡ cells → Below f (shrink_inside (swell f))

-- dilation by an element and the erosion by it that skips offsets falling outside are such a pair, on sheets of any sides
abbrev pub DilationAndErosionInsideClose : Element → Type 0
DilationAndErosionInsideClose e = (w h : ℕ) → ClosingPairLaws (w * h) (dilated w h (offsets e)) (eroded_inside w h (offsets e))

-- Closings, where `close k` is that of size k, are flat operators, nowhere below the sheet, and grow with the size; size 0 is the
-- sheet itself.
pub record ClosingLaws (cells : ℕ) (close : ℕ → List ℕ → List ℕ) : Type 0 where
  pub flat : (k : ℕ) → FlatOperator cells (close k)
  pub above : (k : ℕ) (f : List ℕ) → length f ≡ cells → Below f (close k f)
  pub grow : (k : ℕ) (f : List ℕ) → length f ≡ cells → Below (close k f) (close (suc k) f)
  pub none : (f : List ℕ) → length f ≡ cells → close 0 f ≡ f

abbrev pub PairsClose : Type 0
PairsClose = (cells : ℕ) (swell shrink_inside : List ℕ → List ℕ) → ClosingPairLaws cells swell shrink_inside →
    ClosingLaws cells (closing swell shrink_inside)

-- No entry of a negative size is a subtraction of more from less, and these entries are the sums of those of the cuts.
pub record ClosingEntryLaws (cells : ℕ) (close : ℕ → List ℕ → List ℕ) : Type 0 where
  pub growing : (n : ℕ) (f : List ℕ) → length f ≡ cells → area (close n f) ≤ area (close (n + 1) f)
  pub long : (depth : ℕ) (f : List ℕ) → length f ≡ cells → length (closing_entries close depth f) ≡ depth
  pub total : (depth : ℕ) (f : List ℕ) → length f ≡ cells → sum (closing_entries close depth f) + area f ≡ area (close depth f)
  pub sums : (top depth : ℕ) (f : List ℕ) → length f ≡ cells → HeightsAtMost top f →
      ListSum top (closing_entries close depth f) (λ a. closing_entries close depth (cut a f))

abbrev pub ClosingsHaveEntries : Type 0
ClosingsHaveEntries = (cells : ℕ) (close : ℕ → List ℕ → List ℕ) → ClosingLaws cells close → ClosingEntryLaws cells close
