-- Spectrum and skeleton, which write a list: what each refuses, in order, and what it writes. Assumes nothing.
use Rattle.std.specs.Prelude.{ℕ, ◌*◌, List, Option, Result}
use Rattle.elements.specs.declared.element.Element.{Element}
use Rattle.limits.specs.declared.fault.Fault.{Fault}
use Rattle.limits.specs.Faults.{tells}
use Rattle.bench.specs.Model.{Outline, State, sheet_of}
use Rattle.bench.specs.Calls.{depth_refusal}
use Rattle.calls.specs.ByElement.{skeleton_by, skeleton_length}
use Rattle.closings.specs.ByElement.{spectrum_by, spectrum_length}

-- spectrum
abbrev pub spectrum_refusal : Outline → ℕ → ℕ → ℕ → Option Fault
spectrum_refusal o depth place len = depth_refusal o depth place len (spectrum_length depth (o.w * o.h))

abbrev pub spectrum_answer : Element → State (List ℕ) → ℕ → ℕ → ℕ → Result (List ℕ) Fault
spectrum_answer e s depth place len =
    tells (spectrum_refusal s.outline depth place len) (spectrum_by e depth s.outline.w s.outline.h (sheet_of s place))

-- skeleton
abbrev pub skeleton_refusal : Outline → ℕ → ℕ → ℕ → Option Fault
skeleton_refusal o depth place len = depth_refusal o depth place len (skeleton_length depth (o.w * o.h))

abbrev pub skeleton_answer : Element → State (List ℕ) → ℕ → ℕ → ℕ → Result (List ℕ) Fault
skeleton_answer e s depth place len =
    tells (skeleton_refusal s.outline depth place len) (skeleton_by e depth s.outline.w s.outline.h (sheet_of s place))
