-- How a fault of readings is told. Assumes nothing.
use Rattle.std.specs.Prelude.{ℕ}
use Rattle.readings.specs.declared.fault.ReadingFault.{ReadingFault}
use Rattle.readings.specs.declared.fault.ReadingFault.TheVariants.{Lengths, Unreadable}

-- the number by which a fault is told
abbrev pub reading_fault_number : ReadingFault → ℕ
reading_fault_number Lengths = 3
reading_fault_number (Unreadable k) = 18

-- the index of the reading at which a fault is told
abbrev pub reading_fault_place : ReadingFault → ℕ
reading_fault_place Lengths = 0
reading_fault_place (Unreadable k) = k
