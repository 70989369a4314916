-- Sums over the heights from 1 to a top, and lists that are such sums, number by number. Assumes nothing.
use Rattle.std.specs.Prelude.{◌≡◌, ℕ, zero, suc, ◌+◌, ◌≤◌, max, List, length, ℤ, pos, ◌+ℤ◌, slice_index, slice_index_or}
use Rattle.morphology.specs.Cells.{cut}

-- what a function of two makes of f(1) to f(top), one after the other, from a start
abbrev pub fold_heights : {X : Type 0} → (X → X → X) → X → ℕ → (ℕ → X) → X
fold_heights op start zero f = start
fold_heights op start (suc a) f = op (fold_heights op start a f) (f (suc a))

-- the sum of f(1) to f(top), of whole and of signed numbers
abbrev pub sum_to : ℕ → (ℕ → ℕ) → ℕ
sum_to = fold_heights ◌+◌ 0

abbrev pub int_sum_to : ℕ → (ℕ → ℤ) → ℤ
int_sum_to = fold_heights ◌+ℤ◌ (pos 0)

-- the greatest of f(1) to f(top)
abbrev pub greatest_to : ℕ → (ℕ → ℕ) → ℕ
greatest_to = fold_heights max 0

-- All lists f(1), f(2) and so on are as long as this one, and the function makes this one of the first `top` of them, number by
-- number.
pub record ListFold {X : Type 0} (op : X → X → X) (start : X) (top : ℕ) (xs : List X) (f : ℕ → List X) : Type 0 where
  pub as_long : (a : ℕ) → 1 ≤ a → length (f a) ≡ length xs
  pub number : (k : ℕ) → slice_index_or xs k start ≡ fold_heights op start top (λ a. slice_index_or (f a) k start)

-- a list is the sum of others, number by number
abbrev pub ListSum : ℕ → List ℕ → (ℕ → List ℕ) → Type 0
ListSum = ListFold ◌+◌ 0

abbrev pub IntListSum : ℕ → List ℤ → (ℕ → List ℤ) → Type 0
IntListSum = ListFold ◌+ℤ◌ (pos 0)

-- no height of a sheet is above the top
abbrev pub HeightsAtMost : ℕ → List ℕ → Type 0
HeightsAtMost top f = (p : ℕ) → slice_index f p ≤ top

-- a sheet is the sum of its cuts
abbrev pub SheetsAreSumsOfCuts : Type 0
SheetsAreSumsOfCuts = (top : ℕ) (f : List ℕ) → HeightsAtMost top f → ListSum top f (λ a. cut a f)
