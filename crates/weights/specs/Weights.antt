-- Tallies and their weights, and what is made of them. Assumes nothing.
use Rattle.std.specs.Prelude.{◌≡◌, ℕ, ◌+◌, ◌*◌, ◌≤◌, Bool, true, false, List, [], ℤ, pos, ◌+ℤ◌, ◌*ℤ◌, nat_le, slice_index_or, unsigned_abs}
use Rattle.operators.specs.Tallies.{added, scaled}
use Rattle.weights.specs.declared.combination.Combination.{Combination}
use Rattle.weights.specs.declared.combination.Combination.TheVariants.{Sum, Multiple}
use Rattle.weights.specs.declared.weight.Weight.{Weight}

-- A tally: a signed number for each cell, and a weight.
pub record Tally : Type 0 where
  pub cells : List ℤ
  pub weight : ℕ

-- no cells, as an empty place is read
abbrev pub no_tally : Tally
no_tally = record { cells = []; weight = 0 }

-- the tally of which this weight and these cells are kept
abbrev pub weighed : Weight → List ℤ → Tally
weighed w cells = record { cells = cells; weight = w.number }

-- a tally's weight is 0 to 1,000
abbrev pub lawful_weight : Tally → Bool
lawful_weight t = nat_le t.weight 1000

-- A lawful weight, and no cell exceeds weight × top in size.
pub record WithinWeight (top : ℕ) (t : Tally) : Type 0 where
  pub weight : t.weight ≤ 1000
  pub cells : (k : ℕ) → unsigned_abs (slice_index_or t.cells k (pos 0)) ≤ t.weight * top

-- a cell does not exceed weight × 65,536 in size, the greatest top of a level kind
abbrev pub CellWithin : Weight → ℤ → Type 0
CellWithin w x = unsigned_abs x ≤ w.number * 65536

-- no cell of a list does
abbrev pub AllWithin : Weight → List ℤ → Type 0
AllWithin w cells = (k : ℕ) → CellWithin w (slice_index_or cells k (pos 0))

-- the heights of a sheet minus those of another weigh 1
abbrev pub difference : List ℤ → Tally
difference cells = record { cells = cells; weight = 1 }

-- cells and weights are added
abbrev pub sum_of_tallies : Tally → Tally → Tally
sum_of_tallies t u = record { cells = added t.cells u.cells; weight = t.weight + u.weight }

-- cells are multiplied by a factor, and the weight by its size
abbrev pub multiple : ℤ → Tally → Tally
multiple factor t = record { cells = scaled factor t.cells; weight = unsigned_abs factor * t.weight }

-- what is made of two tallies, of two lists of cells, and of two cells
abbrev pub combined_tally : Combination → Tally → Tally → Tally
combined_tally Sum t u = sum_of_tallies t u
combined_tally (Multiple factor) t u = multiple factor t

abbrev pub combined_cells : Combination → List ℤ → List ℤ → List ℤ
combined_cells Sum xs ys = added xs ys
combined_cells (Multiple factor) xs ys = scaled factor xs

abbrev pub combined_cell : Combination → ℤ → ℤ → ℤ
combined_cell Sum x y = x +ℤ y
combined_cell (Multiple factor) x y = factor *ℤ x

-- What is made of any two tallies of these weights has a lawful weight, and this is it.
pub record AcceptedWeight (how : Combination) (one other made : Weight) : Type 0 where
  pub lawful : (xs ys : List ℤ) → lawful_weight (combined_tally how (weighed one xs) (weighed other ys)) ≡ true
  pub tally : (xs ys : List ℤ) → combined_tally how (weighed one xs) (weighed other ys) ≡ weighed made (combined_cells how xs ys)

-- What is made of any two tallies of these weights has no lawful weight.
abbrev pub RefusedWeight : Combination → Weight → Weight → Type 0
RefusedWeight how one other = (xs ys : List ℤ) → lawful_weight (combined_tally how (weighed one xs) (weighed other ys)) ≡ false
