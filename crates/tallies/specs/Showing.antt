-- What showing a tally refuses, in order. Assumes nothing.
use Rattle.std.specs.Prelude.{ℕ, ◌*◌, not, Option, ◌==◌}
use Rattle.limits.specs.declared.fault.Fault.{Fault}
use Rattle.limits.specs.declared.fault.Fault.TheVariants.{Length}
use Rattle.limits.specs.Faults.{first}
use Rattle.bench.specs.Model.{Outline}
use Rattle.bench.specs.Calls.{tally_refusal}

-- the list's length, then what any call refuses that reads a tally
abbrev pub show_tally_refusal : Outline → ℕ → ℕ → Option Fault
show_tally_refusal o k len = first (not (len == o.w * o.h)) Length (tally_refusal o k)
