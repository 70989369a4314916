-- The laws of reconstruction. Assumes nothing.
use Rattle.std.specs.Prelude.{◌≡◌, ℕ, ◌≤◌, ◌<◌, ◌≢◌, List, length}
use Rattle.morphology.specs.Cells.{cut, met}
use Rattle.operators.specs.Maps.{times}
use Rattle.operators.specs.Reconstruction.{reconstructed, round, rounds}
use Rattle.laws.specs.Maps.{Below}
use Rattle.laws.specs.Pairs.{PairLaws}
use Rattle.laws.specs.Sums.{HeightsAtMost, greatest_to}

-- Reconstruction by a map that swells: a further round would change nothing and each of the told rounds changes a cell; it
-- commutes with cutting, and the rounds are the greatest of those of the cuts.
pub record ReconstructionLaws (cells : ℕ) (swell : List ℕ → List ℕ) : Type 0 where
  pub sheet : (f g : List ℕ) → length f ≡ cells → length g ≡ cells → length (reconstructed swell f g) ≡ cells
  pub below : (f g : List ℕ) → length f ≡ cells → length g ≡ cells → Below (reconstructed swell f g) g
  pub settled : (f g : List ℕ) → length f ≡ cells → length g ≡ cells →
      round swell g (reconstructed swell f g) ≡ reconstructed swell f g
  pub changing : (f g : List ℕ) → length f ≡ cells → length g ≡ cells → (t : ℕ) → t < rounds swell f g →
      round swell g (times t (round swell g) (met f g)) ≢ times t (round swell g) (met f g)
  pub cuts : (a : ℕ) (f g : List ℕ) → 1 ≤ a → length f ≡ cells → length g ≡ cells →
      reconstructed swell (cut a f) (cut a g) ≡ cut a (reconstructed swell f g)
  pub most_rounds : (top : ℕ) (f g : List ℕ) → length f ≡ cells → length g ≡ cells → HeightsAtMost top g →
      rounds swell f g ≡ greatest_to top (λ a. rounds swell (cut a f) (cut a g))

abbrev pub PairsReconstruct : Type 0
PairsReconstruct = (cells : ℕ) (shrink swell : List ℕ → List ℕ) → PairLaws cells shrink swell → ReconstructionLaws cells swell
