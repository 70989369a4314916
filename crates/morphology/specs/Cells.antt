-- What is made or told of sheets cell by cell: meet, join, cut, and the first places of the least and the greatest height. Assumes nothing.
use Rattle.std.specs.Prelude.{ℕ, suc, min, max, cond, List, [], ◌∷◌, map, ◌==◌, nat_le}
use Rattle.morphology.specs.Erosion.{least, greatest}
use Rattle.morphology.specs.declared.extremum.Extremum.{Extremum}
use Rattle.morphology.specs.declared.extremum.Extremum.TheVariants.{Minimum, Maximum}

-- two sheets of the same sides, or two tallies, taken together cell by cell
abbrev pub cell_by_cell : {X Y : Type 0} → (X → X → Y) → List X → List X → List Y
cell_by_cell op [] g = []
cell_by_cell op (x ∷ f) [] = []
cell_by_cell op (x ∷ f) (y ∷ g) = op x y ∷ cell_by_cell op f g

-- the meet takes the lower of two sheets, cell by cell
abbrev pub met : List ℕ → List ℕ → List ℕ
met f g = cell_by_cell min f g

-- the join takes the higher
abbrev pub joined : List ℕ → List ℕ → List ℕ
joined f g = cell_by_cell max f g

-- the meet for the minimum, the join for the maximum
abbrev pub combined : Extremum → List ℕ → List ℕ → List ℕ
combined Minimum = met
combined Maximum = joined

-- cutting at height a gives a mask: yes (1) exactly where the height is at least a, and else no (0)
abbrev pub cut : ℕ → List ℕ → List ℕ
cut a f = map (λ x. cond (nat_le a x) 1 0) f

-- the first place, in reading order, at which a sheet has this height
abbrev pub first_place : ℕ → List ℕ → ℕ
first_place height [] = 0
first_place height (x ∷ f) = cond (x == height) 0 (suc (first_place height f))

-- the least or the greatest height of a sheet
abbrev pub extreme_of : Extremum → List ℕ → ℕ
extreme_of Minimum = least
extreme_of Maximum = greatest
