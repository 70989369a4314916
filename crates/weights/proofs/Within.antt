-- Cells and the tallies that are made of them, against their weights. Assumes nothing.
use Rattle.std.proofs.Common.{◌≡◌, ℕ, zero, suc, ◌+◌, ◌*◌, ◌≤◌, List, [], ◌∷◌, length, get_or, ℤ, pos, ◌+ℤ◌, ◌-ℤ◌, ◌*ℤ◌, ap, inl, inr, add-mul, mul_assoc, arith, w32}
use Rattle.std.specs.Prelude.{unsigned_abs}
use Rattle.std.specs.Int.RustNames.{FitsSigned}
use Rattle.std.proofs.lemmas.Int.{fits_signed_from_abs, ints, unsigned_abs-mul}
use Rattle.std.proofs.lemmas.Nat.{mul-le}
use Rattle.std.proofs.lemmas.Bool.{cases_lt}
use Rattle.std.proofs.lemmas.List.{get_or_past}
use Rattle.operators.specs.Tallies.{differed}
use Rattle.weights.specs.declared.combination.Combination.{Combination}
use Rattle.weights.specs.declared.combination.Combination.TheVariants.{Sum, Multiple}
use Rattle.weights.specs.declared.weight.Weight.{Weight}
use Rattle.weights.specs.Weights.{AcceptedWeight, AllWithin, CellWithin, combined_cell, combined_cells, difference, weighed}
use Rattle.weights.proofs.Cells.{get_or-combined_cells, length-combined_cells}

-- the size of a difference, of a sum and of a multiple
size_of_difference : (top x y : ℕ) → x ≤ top → y ≤ top → unsigned_abs (pos x -ℤ pos y) ≤ top
size_of_difference top x y one other = omega (arith, ints)

pub size_of_sum : (top m n : ℕ) (x y : ℤ) → unsigned_abs x ≤ m * top → unsigned_abs y ≤ n * top → unsigned_abs (x +ℤ y) ≤ (m + n) * top
size_of_sum top m n x y one other = let parts = add-mul m n top in omega (arith, ints)

pub size_of_multiple : (top m : ℕ) (factor x : ℤ) → unsigned_abs x ≤ m * top → unsigned_abs (factor *ℤ x) ≤ unsigned_abs factor * m * top
size_of_multiple top m factor x one =
    let size = unsigned_abs factor in
    rw unsigned_abs-mul (omega (arith, mul-le size (unsigned_abs x) size (m * top) (omega arith) one, mul_assoc size m top))

-- the cells of a difference of two sheets with no height above the top
pub differed_within : (top : ℕ) (f g : List ℕ) → ((k : ℕ) → get_or f k 0 ≤ top) → ((k : ℕ) → get_or g k 0 ≤ top) → (k : ℕ) → unsigned_abs (get_or (differed f g) k (pos 0)) ≤ top
differed_within top [] g s t k = omega arith
differed_within top (x ∷ f) [] s t k = omega arith
differed_within top (x ∷ f) (y ∷ g) s t zero = size_of_difference top x y (s 0) (t 0)
differed_within top (x ∷ f) (y ∷ g) s t (suc k) = differed_within top f g (λ p. s (suc p)) (λ p. t (suc p)) k

-- they are within the weight of a difference
pub difference_within : (w : Weight) → ((cells : List ℤ) → weighed w cells ≡ difference cells) → (f g : List ℕ) → ((k : ℕ) → get_or f k 0 ≤ 65536) → ((k : ℕ) → get_or g k 0 ≤ 65536) → AllWithin w (differed f g)
difference_within w own f g s t k =
    let one : w.number ≡ 1 = ap (λ t. t.weight) (own []) in
    let size = differed_within 65536 f g s t k in
    omega arith

-- what is made of two cells within their weights is within the weight that was accepted
pub combined_within : (how : Combination) (one other made : Weight) → AcceptedWeight how one other made → (x y : ℤ) → CellWithin one x → CellWithin other y → CellWithin made (combined_cell how x y)
combined_within Sum one other made accepted x y low high =
    rw (← ap (λ t. t.weight) (accepted.tally [] [])) (size_of_sum 65536 one.number other.number x y low high)
combined_within (Multiple factor) one other made accepted x y low high =
    rw (← ap (λ t. t.weight) (accepted.tally [] [])) (size_of_multiple 65536 one.number factor x low)

-- a cell within its weight is an i32
pub cell_fits : (w : Weight) (x : ℤ) → CellWithin w x → FitsSigned w32 x
cell_fits w x within = let lawful = w.lawful in fits_signed_from_abs w32 x (omega (arith, within))

-- and so are the cells of the tally that is made
pub combined_all_within : (how : Combination) (one other made : Weight) → AcceptedWeight how one other made → (xs ys : List ℤ) → length ys ≡ length xs → AllWithin one xs → AllWithin other ys → AllWithin made (combined_cells how xs ys)
combined_all_within how one other made accepted xs ys same low high k = elim (cases_lt k (length xs)) [
  | inl within ↦
      rw (get_or-combined_cells how xs ys k (pos 0) same within) (combined_within how one other made accepted _ _ (low k) (high k))
  | inr past ↦ rw (get_or_past (combined_cells how xs ys) k (pos 0) (rw (length-combined_cells how xs ys same) past)) (omega arith)
]
