-- How answers are printed. Assumes nothing.
use Rattle.std.specs.Prelude.{ℕ, List, ◌++◌, flat_map, codes, Some, None, Ok, Err, Option, Result}
use Rattle.std.specs.Fmt.{decimal}
use Rattle.limits.specs.declared.fault.Fault.{Fault}
use Rattle.limits.specs.Faults.{fault_number}

-- the answer of a call that tells nothing, and of one that tells a number, with the number if there is one
abbrev pub with_no_number : Result (Unit {0}) Fault → Result (Option ℕ) Fault
with_no_number (Ok x) = Ok None
with_no_number (Err fault) = Err fault

abbrev pub with_number : Result ℕ Fault → Result (Option ℕ) Fault
with_number (Ok n) = Ok (Some n)
with_number (Err fault) = Err fault

-- `=` with the number that is told, if any, or `!` with the number of the refusal
abbrev pub printed_answer : Result (Option ℕ) Fault → List ℕ
printed_answer (Ok None) = codes "="
printed_answer (Ok (Some n)) = codes "= " ++ decimal n
printed_answer (Err fault) = codes "! " ++ decimal (fault_number fault)

-- each height behind a space
abbrev pub heights_text : {L : Type 0} → (L → ℕ) → List L → List ℕ
heights_text height levels = flat_map (λ level. codes " " ++ decimal (height level)) levels
