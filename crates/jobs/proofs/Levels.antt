-- The heights of a picture as levels. Assumes nothing.
use Rattle.std.proofs.Common.{◌≡◌, ℕ, zero, suc, max, List, [], ◌∷◌, map, refl, ap, arith}
use Rattle.laws.specs.Sums.{HeightsAtMost}
use Rattle.runs.specs.Theorems.{HeightsTo}

-- heights up to a top as levels, and that they are these heights
pub levels_of : (top : ℕ) (f : List ℕ) → HeightsAtMost top f → List (HeightsTo top)
levels_of top [] topped = []
levels_of top (x ∷ f) topped = (x, topped 0) ∷ levels_of top f (λ p. topped (suc p))

pub heights_back : (top : ℕ) (f : List ℕ) (topped : HeightsAtMost top f) → map (λ (x : HeightsTo top). x.0) (levels_of top f topped) ≡ f
unfolding levels_of
heights_back top [] topped = refl
heights_back top (x ∷ f) topped = ap (λ rest. x ∷ rest) (heights_back top f (λ p. topped (suc p)))

-- every list of heights has a top
pub topped : (f : List ℕ) → (top : ℕ) × HeightsAtMost top f
topped [] = (0, λ p. omega arith)
topped (x ∷ f) = (max x (topped f).0, at (topped f).0 (topped f).1)
  where
    at : (top : ℕ) → HeightsAtMost top f → HeightsAtMost (max x top) (x ∷ f)
    at top most zero = omega arith
    at top most (suc p) = let h = most p in omega arith
