-- What regrow answers. Assumes nothing.
use Rattle.std.specs.Prelude.{ℕ, List, Result}
use Rattle.elements.specs.declared.element.Element.{Element}
use Rattle.limits.specs.declared.fault.Fault.{Fault}
use Rattle.limits.specs.Faults.{tells}
use Rattle.bench.specs.Model.{State}
use Rattle.bench.specs.Calls.{made_of, make_refusal}
use Rattle.calls.specs.ByElement.{rounds_by}

-- its refusal, or the number of changing rounds
abbrev pub regrow_answer : Element → State (List ℕ) → ℕ → ℕ → ℕ → Result ℕ Fault
regrow_answer e s marker upper to = tells (make_refusal s.outline marker upper to) (made_of (rounds_by e) s marker upper)
