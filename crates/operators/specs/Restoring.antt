-- Restoring a sheet from a skeleton; and restore, the call on lists: what it refuses, in order, and what it leaves in its two lists.
-- Assumes nothing.
use Rattle.std.specs.Prelude.{zero, suc, take, drop, ℕ, ◌+◌, ◌-◌, ◌*◌, not, ◌&&◌, List, length, replicate, Some, None, Option, ◌==◌, nat_le, nat_lt}
use Rattle.std.specs.List.{list_any}
use Rattle.limits.specs.declared.fault.Fault.{Fault}
use Rattle.limits.specs.declared.fault.Fault.TheVariants.{Side, Length, SizeOrDepth, ListLength, RestoreCell}
use Rattle.limits.specs.Faults.{first}
use Rattle.limits.specs.Sizes.{lawful_side, lawful_size}
use Rattle.morphology.specs.Cells.{cell_by_cell}
use Rattle.operators.specs.Maps.{times}

-- the sums of the heights of two sheets
abbrev pub plus : List ℕ → List ℕ → List ℕ
plus = cell_by_cell ◌+◌

-- piece n of a skeleton of sheets of so many cells
abbrev pub piece_of : ℕ → List ℕ → ℕ → List ℕ
piece_of cells pieces n = take cells (drop (n * cells) pieces)

-- the last piece, then so many times swollen and the piece before added
abbrev pub rebuilt : (List ℕ → List ℕ) → ℕ → ℕ → List ℕ → ℕ → List ℕ
rebuilt swell cells depth pieces zero = piece_of cells pieces depth
rebuilt swell cells depth pieces (suc n) =
    plus (swell (rebuilt swell cells depth pieces n)) (piece_of cells pieces (depth - suc n))

-- restoring to size k: the pieces from the last down to piece k, then k times swollen
abbrev pub restored : (List ℕ → List ℕ) → ℕ → ℕ → ℕ → List ℕ → List ℕ
restored swell cells depth k pieces = times k swell (rebuilt swell cells depth pieces (depth - k))

-- For a skeleton to a depth, restored to a size by a map that swells sheets of w × h cells: the sides, then the lengths of the answer
-- list and the work list, then the depth and the size, then the length of the skeleton list, then a cell that is above 65,536
-- before the last dilations. No step before lowers a cell, so the last of these sheets tells of all.
abbrev pub restore_refusal : (List ℕ → List ℕ) → ℕ → ℕ → ℕ → ℕ → List ℕ → ℕ → ℕ → Option Fault
restore_refusal swell w h depth size pieces answer_len work_len =
    first (not (lawful_side w && lawful_side h)) Side
    (first (not (answer_len == w * h && work_len == w * h)) Length
    (first (not (lawful_size depth && nat_le size depth)) SizeOrDepth
    (first (not (length pieces == (depth + 1) * (w * h))) ListLength
    (first (list_any (nat_lt 65536) (rebuilt swell (w * h) depth pieces (depth - size))) RestoreCell None))))

-- what stands in a list that held `old`: this where the call is accepted, zeros where a cell was too high, and else what it held
abbrev pub left_in_list : Option Fault → List ℕ → List ℕ → List ℕ
left_in_list None this old = this
left_in_list (Some RestoreCell) this old = replicate (length old) 0
left_in_list (Some fault) this old = old

-- the answer list afterwards: the restored sheet
abbrev pub answer_list : (List ℕ → List ℕ) → ℕ → ℕ → ℕ → ℕ → List ℕ → List ℕ → List ℕ → List ℕ
answer_list swell w h depth size pieces answer work =
    left_in_list (restore_refusal swell w h depth size pieces (length answer) (length work)) (restored swell (w * h) depth size pieces) answer

-- the work list afterwards: zeros
abbrev pub work_list : (List ℕ → List ℕ) → ℕ → ℕ → ℕ → ℕ → List ℕ → List ℕ → List ℕ → List ℕ
work_list swell w h depth size pieces answer work =
    left_in_list (restore_refusal swell w h depth size pieces (length answer) (length work)) (replicate (w * h) 0) work
