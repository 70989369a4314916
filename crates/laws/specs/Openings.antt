-- The laws of openings. Assumes nothing.
use Rattle.std.specs.Prelude.{◌≡◌, ℕ, suc, List, length}
use Rattle.operators.specs.Openings.{opening}
use Rattle.laws.specs.Maps.{Below, FlatOperator}
use Rattle.laws.specs.Pairs.{PairLaws}

-- Openings by a pair are flat operators, nowhere above the sheet, and fall with the size.
pub record OpeningLaws (cells : ℕ) (shrink swell : List ℕ → List ℕ) : Type 0 where
  pub flat : (k : ℕ) → FlatOperator cells (opening shrink swell k)
  pub below : (k : ℕ) (f : List ℕ) → length f ≡ cells → Below (opening shrink swell k f) f
  pub fall : (k : ℕ) (f : List ℕ) → length f ≡ cells → Below (opening shrink swell (suc k) f) (opening shrink swell k f)

abbrev pub PairsOpen : Type 0
PairsOpen = (cells : ℕ) (shrink swell : List ℕ → List ℕ) → PairLaws cells shrink swell → OpeningLaws cells shrink swell
