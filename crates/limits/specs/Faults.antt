-- The refusals and their numbers, and what a call tells and leaves by them. Assumes nothing.
use Rattle.std.specs.Prelude.{ℕ, Bool, cond, Some, None, Ok, Err, Option, Result}
use Rattle.limits.specs.declared.fault.Fault.{Fault}
use Rattle.limits.specs.declared.fault.Fault.TheVariants.{Side, Places, Memory, Length, SheetPlace, TallyPlace, SizeOrDepth, ListLength, FactorOrHeight, BuiltIn, Flat, RestoreCell, NoVisit, VisitOpen, OtherFlat, EmptySheet, EmptyTally, Weight, Unequal}

-- the number of a refusal
abbrev pub fault_number : Fault → ℕ
fault_number Side = 1
fault_number Places = 2
fault_number Memory = 3
fault_number Length = 4
fault_number SheetPlace = 5
fault_number TallyPlace = 6
fault_number SizeOrDepth = 7
fault_number ListLength = 8
fault_number FactorOrHeight = 9
fault_number BuiltIn = 10
fault_number Flat = 11
fault_number RestoreCell = 21
fault_number NoVisit = 31
fault_number VisitOpen = 32
fault_number OtherFlat = 33
fault_number EmptySheet = 34
fault_number EmptyTally = 35
fault_number Weight = 36
fault_number Unequal = 37

-- the number of a refusal that there may be, 0 where there is none
abbrev pub refusal_number : Option Fault → ℕ
refusal_number None = 0
refusal_number (Some fault) = fault_number fault

-- a fault if the test says so, and else what the rest finds
abbrev pub first : {F : Type 0} → Bool → F → Option F → Option F
first test fault rest = cond test (Some fault) rest

-- the answer of a call that tells something where it is not refused, and of one that tells nothing then
abbrev pub tells : {X : Type 0} → Option Fault → X → Result X Fault
tells None x = Ok x
tells (Some fault) x = Err fault

abbrev pub told : Option Fault → Result (Unit {0}) Fault
told refusal = tells refusal tt

-- what a call leaves: the state as it was where it is refused, and else the new one
abbrev pub unless : {S : Type 0} → Option Fault → S → S → S
unless None new old = new
unless (Some fault) new old = old
