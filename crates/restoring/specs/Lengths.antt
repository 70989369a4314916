-- What restore refuses before it looks at a cell: its sides, lengths, depth and size. Assumes nothing.
use Rattle.std.specs.Prelude.{ℕ, ◌+◌, ◌*◌, not, ◌&&◌, None, Option, ◌==◌, nat_le}
use Rattle.limits.specs.declared.fault.Fault.{Fault}
use Rattle.limits.specs.declared.fault.Fault.TheVariants.{Side, Length, SizeOrDepth, ListLength}
use Rattle.limits.specs.Faults.{first}
use Rattle.limits.specs.Sizes.{lawful_side, lawful_size}

-- the sides, then the lengths of the answer list and the work list, then the depth and the size, then the length of the skeleton list
abbrev pub lengths_refusal : ℕ → ℕ → ℕ → ℕ → ℕ → ℕ → ℕ → Option Fault
lengths_refusal w h depth size pieces_len answer_len work_len =
    first (not (lawful_side w && lawful_side h)) Side
    (first (not (answer_len == w * h && work_len == w * h)) Length
    (first (not (lawful_size depth && nat_le size depth)) SizeOrDepth
    (first (not (pieces_len == (depth + 1) * (w * h))) ListLength None)))
