-- What scale refuses, in order. Assumes nothing.
use Rattle.std.specs.Prelude.{ℕ, not, ◌&&◌, ℤ, is_some, None, Option}
use Rattle.limits.specs.declared.fault.Fault.{Fault}
use Rattle.limits.specs.declared.fault.Fault.TheVariants.{TallyPlace, FactorOrHeight, NoVisit, EmptyTally, Weight}
use Rattle.limits.specs.Faults.{first}
use Rattle.limits.specs.Sizes.{lawful_factor}
use Rattle.bench.specs.Model.{Outline, is_place}
use Rattle.weights.specs.Weights.{Tally, lawful_weight}

-- where this is the multiple: the places, then the factor, then the visit on the slate, then the source, then the weight
abbrev pub scale_refusal : Outline → Tally → ℤ → ℕ → ℕ → Option Fault
scale_refusal o made factor from to =
    first (not (is_place o.places from && is_place o.places to)) TallyPlace
    (first (not (lawful_factor factor)) FactorOrHeight
    (first (not (is_some o.visit)) NoVisit
    (first (not (o.filled from)) EmptyTally
    (first (not (lawful_weight made)) Weight None))))
