-- What is made of two lists of cells, at each place. Assumes nothing.
use Rattle.std.proofs.Common.{◌≡◌, ℕ, ◌<◌, List, length, get_or, ℤ, pos, ◌+ℤ◌, ◌*ℤ◌, sym, arith}
use Rattle.std.proofs.lemmas.List.{get_or-map, length-map}
use Rattle.morphology.proofs.TakenTogether.{get_or-shorter, length-cell_by_cell}
use Rattle.weights.specs.declared.combination.Combination.{Combination}
use Rattle.weights.specs.declared.combination.Combination.TheVariants.{Sum, Multiple}
use Rattle.weights.specs.Weights.{combined_cell, combined_cells}

pub length-combined_cells : (how : Combination) (xs ys : List ℤ) → length ys ≡ length xs → length (combined_cells how xs ys) ≡ length xs
length-combined_cells Sum xs ys same = length-cell_by_cell ◌+ℤ◌ xs ys (sym same)
length-combined_cells (Multiple factor) xs ys same = length-map xs (λ x. factor *ℤ x)

pub get_or-combined_cells : (how : Combination) (xs ys : List ℤ) (k : ℕ) (d : ℤ) → length ys ≡ length xs → k < length xs
    → get_or (combined_cells how xs ys) k d ≡ combined_cell how (get_or xs k (pos 0)) (get_or ys k (pos 0))
get_or-combined_cells Sum xs ys k d same within = get_or-shorter ◌+ℤ◌ xs ys k (pos 0) d (omega arith)
get_or-combined_cells (Multiple factor) xs ys k d same within = get_or-map (λ x. factor *ℤ x) xs k (pos 0) d within
