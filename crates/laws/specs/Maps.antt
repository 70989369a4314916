-- What makes a map from sheets to sheets a flat operator. Assumes nothing.
use Rattle.std.specs.Prelude.{◌≡◌, ℕ, ◌≤◌, List, length, slice_index}
use Rattle.morphology.specs.Cells.{cut}

-- a sheet is nowhere above another
abbrev pub Below : List ℕ → List ℕ → Type 0
Below f g = (p : ℕ) → slice_index f p ≤ slice_index g p

-- A flat operator on sheets of so many cells makes sheets of as many cells, respects their order, and commutes with cutting
-- at every height.
pub record FlatOperator (cells : ℕ) (map : List ℕ → List ℕ) : Type 0 where
  pub sheet : (f : List ℕ) → length f ≡ cells → length (map f) ≡ cells
  pub order : (f g : List ℕ) → length f ≡ cells → length g ≡ cells → Below f g → Below (map f) (map g)
  pub cuts : (a : ℕ) (f : List ℕ) → 1 ≤ a → length f ≡ cells → map (cut a f) ≡ cut a (map f)
