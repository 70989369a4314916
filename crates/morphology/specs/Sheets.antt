-- Sheets of heights, read by column and row. Assumes nothing.
-- A sheet is a list of w × h heights, row by row; columns and rows count from 0.
use Rattle.std.specs.Prelude.{ℕ, ◌+◌, ◌*◌, ◌/◌, ◌%◌, cond, not, ◌&&◌, List, map, ℤ, pos, negsuc, fold, None, Option, ◌==◌, nat_lt, slice_index}
use Rattle.std.specs.List.{list_all, range_with_len}
use Rattle.limits.specs.declared.fault.Fault.{Fault}
use Rattle.limits.specs.declared.fault.Fault.TheVariants.{Side, Length}
use Rattle.limits.specs.Faults.{first}
use Rattle.limits.specs.Sizes.{lawful_side}

-- the height at column m and row n of a sheet of w × h heights; outside the sheet counts as lowest
abbrev pub height_at : ℕ → ℕ → List ℕ → ℤ → ℤ → ℕ
height_at w h f (pos m) (pos n) = cond (nat_lt m w && nat_lt n h) (slice_index f (n * w + m)) 0
height_at w h f (pos m) (negsuc n) = 0
height_at w h f (negsuc m) n = 0

-- what a function of the column and the row gives at place p of a sheet whose rows have w cells
abbrev pub at_place : ℕ → (ℕ → ℕ → ℕ) → ℕ → ℕ
at_place w cell p = cell (p % w) (p / w)

-- the sheet of w × h heights that a function of the column and the row gives
abbrev pub by_cells : ℕ → ℕ → (ℕ → ℕ → ℕ) → List ℕ
by_cells w h cell = map (at_place w cell) (range_with_len 0 (w * h))

-- a call on lists of these lengths: the sides, then that every list has w × h levels
abbrev pub lists_refusal : ℕ → ℕ → List ℕ → Option Fault
lists_refusal w h lens =
    first (not (lawful_side w && lawful_side h)) Side
    (first (not (list_all (λ len. len == w * h) lens)) Length None)

-- the area of a sheet is the sum of its heights
abbrev pub area : List ℕ → ℕ
area f = fold ◌+◌ 0 f
