-- Opening and closing, which are of a size: what they refuse, in order. Assumes nothing.
use Rattle.std.specs.Prelude.{ℕ, not, ◌&&◌, is_some, None, Option}
use Rattle.limits.specs.declared.fault.Fault.{Fault}
use Rattle.limits.specs.declared.fault.Fault.TheVariants.{SheetPlace, SizeOrDepth, NoVisit, EmptySheet}
use Rattle.limits.specs.Faults.{first}
use Rattle.limits.specs.Sizes.{lawful_size}
use Rattle.bench.specs.Model.{Outline, is_place}

-- the places, then the size, then the visit, then the source
abbrev pub of_size_refusal : Outline → ℕ → ℕ → ℕ → Option Fault
of_size_refusal o size from to =
    first (not (is_place o.places from && is_place o.places to)) SheetPlace
    (first (not (lawful_size size)) SizeOrDepth
    (first (not (is_some o.visit)) NoVisit
    (first (not (o.filled from)) EmptySheet None)))
