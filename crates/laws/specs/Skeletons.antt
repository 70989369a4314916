-- The laws of skeletons. Assumes nothing.
use Rattle.std.specs.Prelude.{◌≡◌, ℕ, ◌+◌, ◌-◌, ◌*◌, ◌≤◌, ◌<◌, List, length}
use Rattle.morphology.specs.Cells.{cut}
use Rattle.operators.specs.Maps.{times}
use Rattle.operators.specs.Openings.{opening}
use Rattle.operators.specs.Restoring.{rebuilt, restored}
use Rattle.operators.specs.Skeletons.{skeleton}
use Rattle.laws.specs.Maps.{Below}
use Rattle.laws.specs.Pairs.{PairLaws}
use Rattle.laws.specs.Sums.{ListSum, HeightsAtMost}

-- A skeleton has a piece for each size up to its depth; what is rebuilt down to piece k is the sheet eroded k times, and restoring
-- to size k gives the opening of size k; from any list of pieces, no step lowers a cell of what is rebuilt; and a skeleton is the sum
-- of those of the cuts.
pub record SkeletonLaws (cells : ℕ) (shrink swell : List ℕ → List ℕ) : Type 0 where
  pub long : (depth : ℕ) (f : List ℕ) → length f ≡ cells → length (skeleton shrink swell depth f) ≡ (depth + 1) * cells
  pub rebuilds : (depth k : ℕ) (f : List ℕ) → length f ≡ cells → k ≤ depth →
      rebuilt swell cells depth (skeleton shrink swell depth f) (depth - k) ≡ times k shrink f
  pub restores : (depth k : ℕ) (f : List ℕ) → length f ≡ cells → k ≤ depth →
      restored swell cells depth k (skeleton shrink swell depth f) ≡ opening shrink swell k f
  pub rises : (depth n : ℕ) (pieces : List ℕ) → length pieces ≡ (depth + 1) * cells → n < depth →
      Below (rebuilt swell cells depth pieces n) (rebuilt swell cells depth pieces (n + 1))
  pub sums : (top depth : ℕ) (f : List ℕ) → length f ≡ cells → HeightsAtMost top f →
      ListSum top (skeleton shrink swell depth f) (λ a. skeleton shrink swell depth (cut a f))

abbrev pub PairsRestore : Type 0
PairsRestore = (cells : ℕ) (shrink swell : List ℕ → List ℕ) → PairLaws cells shrink swell → SkeletonLaws cells shrink swell
