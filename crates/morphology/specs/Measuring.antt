-- What a measurement refuses, in order. Assumes nothing.
use Rattle.std.specs.Prelude.{ℕ, ◌*◌, not, ◌&&◌, List, None, Option, ◌==◌}
use Rattle.std.specs.List.{list_all}
use Rattle.limits.specs.declared.fault.Fault.{Fault}
use Rattle.limits.specs.declared.fault.Fault.TheVariants.{Side, Length, SizeOrDepth, ListLength}
use Rattle.limits.specs.Faults.{first}
use Rattle.limits.specs.Sizes.{lawful_side, lawful_size}

-- a list of so many numbers that is to have `wanted` of them, told to a depth: the depth, then the length of the list
abbrev pub numbers_refusal : ℕ → ℕ → ℕ → Option Fault
numbers_refusal depth wanted len =
    first (not (lawful_size depth)) SizeOrDepth
    (first (not (len == wanted)) ListLength None)

-- and of a sheet, with lists of these lengths: the sides, then that every list has w × h levels, then these
abbrev pub measure_refusal : ℕ → ℕ → List ℕ → ℕ → ℕ → ℕ → Option Fault
measure_refusal w h lens depth wanted len =
    first (not (lawful_side w && lawful_side h)) Side
    (first (not (list_all (λ n. n == w * h) lens)) Length
    (numbers_refusal depth wanted len))
