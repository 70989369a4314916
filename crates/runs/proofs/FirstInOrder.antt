-- That a call tells the first refusal whose condition holds, and leaves the bench by it. Assumes nothing.
use Rattle.std.proofs.Common.{◌≡◌, Bool, true, false, not, Some, None, Err, Option, ℕ, refl, ap, sym, ◌∙◌, arith}
use Rattle.std.proofs.Math.Bool.{and_assoc, and_self, and-true, or-false}
use Rattle.std.specs.Prelude.{find, ◌==◌}
use Rattle.limits.specs.declared.fault.Fault.{Fault}
use Rattle.limits.specs.declared.fault.Fault.TheVariants.{Side}
use Rattle.limits.specs.Faults.{fault_number, first, tells, unless}
use Rattle.model.specs.Calls.{Begin, Call, Told}
use Rattle.model.specs.Steps.{Bench}
use Rattle.runs.specs.Conditions.{FirstInOrder, NumbersAscend, RefusalsLeaveTheBench, applies, in_order, fault_told}
use Rattle.runs.proofs.Parts.{answer_parts, leaves, refusal, step_parts, told_by}

-- the list of refusals is in order and complete
pub numbers_ascend : NumbersAscend
numbers_ascend = record { ascend = refl; complete = found }
  where
    found : (fault : Fault) → find (λ other. fault_number other == fault_number fault) in_order ≡ Some fault
    found Side = refl
    found fault = refl

-- what is tried again two tests later need not be
tried_once : (test second third : Bool) (fault f g : Fault) (rest : Option Fault) →
    first (not test) fault (first second f (first third g (first (not test) fault rest))) ≡ first (not test) fault (first second f (first third g rest))
tried_once true second third fault f g rest = refl
tried_once false second third fault f g rest = refl

-- how the tests of a table differ from those of the conditions
ruleset tests = (and_self, and-true, or-false, ← and_assoc, tried_once)

-- each call by itself: both sides compute to the same tests
conditions_tried : (b : Bench) (call : Call ℕ) → refusal b call ≡ find (applies b.rack b.slate call) in_order
conditions_tried b (Begin flat) = simp tests
conditions_tried b call = simp tests

told_is : (o : Option Fault) (t : Told) → fault_told (tells o t) ≡ o
told_is None t = refl
told_is (Some fault) t = refl

pub first_in_order : FirstInOrder
first_in_order b call = ap fault_told (answer_parts b call) ∙ told_is (refusal b call) (told_by b call) ∙ conditions_tried b call

-- what an answer refuses, the bench does not do
left_alone : (o : Option Fault) (t : Told) (new old : Bench) (fault : Fault) → tells o t ≡ Err fault → unless o new old ≡ old
left_alone None t new old fault h = absurd (let z : ◌≡◌ {A = ℕ} 0 1 = cc in omega arith)
left_alone (Some other) t new old fault h = refl

pub refusals_leave_the_bench : RefusalsLeaveTheBench
refusals_leave_the_bench b call fault h =
    step_parts b call ∙ left_alone (refusal b call) (told_by b call) (leaves b call) b fault (sym (answer_parts b call) ∙ h)
