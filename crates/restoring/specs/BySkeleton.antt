-- What opening a sheet by way of its skeleton refuses, in order. Assumes nothing.
use Rattle.std.specs.Prelude.{ℕ, ◌*◌, not, ◌&&◌, Option, ◌==◌, nat_le}
use Rattle.limits.specs.declared.fault.Fault.{Fault}
use Rattle.limits.specs.declared.fault.Fault.TheVariants.{Length, SheetPlace, SizeOrDepth, ListLength}
use Rattle.limits.specs.Faults.{first}
use Rattle.limits.specs.Sizes.{lawful_size}
use Rattle.bench.specs.Calls.{sheet_refusal}
use Rattle.bench.specs.Model.{Outline, is_place}
use Rattle.calls.specs.ByElement.{skeleton_length}

-- by a skeleton to a depth, to a size, of the sheet in a place: the lengths of the answer list and the work list, then the place, then the
-- depth and the size, then the length of the skeleton list, then the visit and the sheet
abbrev pub by_skeleton_refusal : Outline → ℕ → ℕ → ℕ → ℕ → ℕ → ℕ → Option Fault
by_skeleton_refusal o depth size place pieces_len answer_len work_len =
    first (not (answer_len == o.w * o.h && work_len == o.w * o.h)) Length
    (first (not (is_place o.places place)) SheetPlace
    (first (not (lawful_size depth && nat_le size depth)) SizeOrDepth
    (first (not (pieces_len == skeleton_length depth (o.w * o.h))) ListLength
    (sheet_refusal o place))))
