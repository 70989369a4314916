-- The laws of pattern spectra. Assumes nothing.
use Rattle.std.specs.Prelude.{◌≡◌, ℕ, ◌+◌, ◌*◌, ◌≤◌, List, length, take, drop, sum}
use Rattle.morphology.specs.Cells.{cut}
use Rattle.morphology.specs.Sheets.{area}
use Rattle.operators.specs.Openings.{opening}
use Rattle.operators.specs.Spectra.{opening_spectrum, spectrum}
use Rattle.laws.specs.Closings.{ClosingLaws}
use Rattle.laws.specs.Pairs.{PairLaws}
use Rattle.laws.specs.Sums.{ListSum, HeightsAtMost}

-- From size 0 on: no entry is a subtraction of more from less; the entries of the sizes from 0 to below n sum to the area that the
-- opening of size n takes away, and with the rest they all sum to the area of the sheet; and they are the sums of those of the cuts.
pub record OpeningSpectrumLaws (cells : ℕ) (shrink swell : List ℕ → List ℕ) : Type 0 where
  pub falling : (n : ℕ) (f : List ℕ) → length f ≡ cells → area (opening shrink swell (n + 1) f) ≤ area (opening shrink swell n f)
  pub long : (depth : ℕ) (f : List ℕ) → length f ≡ cells → length (opening_spectrum shrink swell depth f) ≡ depth + 1
  pub removed : (depth n : ℕ) (f : List ℕ) → length f ≡ cells → n ≤ depth →
      sum (take n (opening_spectrum shrink swell depth f)) + area (opening shrink swell n f) ≡ area f
  pub total : (depth : ℕ) (f : List ℕ) → length f ≡ cells → sum (opening_spectrum shrink swell depth f) ≡ area f
  pub sums : (top depth : ℕ) (f : List ℕ) → length f ≡ cells → HeightsAtMost top f →
      ListSum top (opening_spectrum shrink swell depth f) (λ a. opening_spectrum shrink swell depth (cut a f))

abbrev pub PairsHaveSpectra : Type 0
PairsHaveSpectra = (cells : ℕ) (shrink swell : List ℕ → List ℕ) → PairLaws cells shrink swell → OpeningSpectrumLaws cells shrink swell

-- A whole spectrum has an entry for each size from −depth to depth − 1, and the rest; the part from size 0 on stands behind the entries of
-- negative sizes, and sums to the area of the sheet; and a spectrum is the sum of those of the cuts.
pub record SpectrumLaws (cells : ℕ) (close : ℕ → List ℕ → List ℕ) (shrink swell : List ℕ → List ℕ) : Type 0 where
  pub long : (depth : ℕ) (f : List ℕ) → length f ≡ cells → length (spectrum close shrink swell depth f) ≡ 2 * depth + 1
  pub openings : (depth : ℕ) (f : List ℕ) → length f ≡ cells → drop depth (spectrum close shrink swell depth f) ≡ opening_spectrum shrink swell depth f
  pub total : (depth : ℕ) (f : List ℕ) → length f ≡ cells → sum (drop depth (spectrum close shrink swell depth f)) ≡ area f
  pub sums : (top depth : ℕ) (f : List ℕ) → length f ≡ cells → HeightsAtMost top f →
      ListSum top (spectrum close shrink swell depth f) (λ a. spectrum close shrink swell depth (cut a f))

abbrev pub SpectraOfBoth : Type 0
SpectraOfBoth = (cells : ℕ) (close : ℕ → List ℕ → List ℕ) (shrink swell : List ℕ → List ℕ) →
    ClosingLaws cells close → PairLaws cells shrink swell → SpectrumLaws cells close shrink swell
