-- A job's fault: the fault of the layer below, whole. Assumes nothing.
use Rattle.std.specs.Prelude.{ℕ, List, ◌++◌, codes, decimal}
use Rattle.elements.specs.Cards.{card_fault_number, card_fault_place}
use Rattle.pictures.specs.Headers.{picture_fault_number, picture_fault_place}
use Rattle.limits.specs.Faults.{fault_number}
use Rattle.faults.specs.declared.JobFault.{JobFault}
use Rattle.faults.specs.declared.JobFault.TheVariants.{Card, Picture, Bench, Line}

-- the letter of the layer
abbrev pub fault_layer : JobFault → List ℕ
fault_layer (Card f) = codes "C"
fault_layer (Picture f) = codes "P"
fault_layer (Bench f) = codes "B"
fault_layer (Line f) = codes "J"

-- the number of the refusal
abbrev pub job_fault_number : JobFault → ℕ
job_fault_number (Card f) = card_fault_number f
job_fault_number (Picture f) = picture_fault_number f
job_fault_number (Bench f) = fault_number f
job_fault_number (Line f) = 22

-- the byte of a card or a picture, or the column of a line; a refusal of the bench has place 0
abbrev pub job_fault_place : JobFault → ℕ
job_fault_place (Card f) = card_fault_place f
job_fault_place (Picture f) = picture_fault_place f
job_fault_place (Bench f) = 0
job_fault_place (Line f) = f.column

-- the letter of the layer, the number and the place, as they are printed
abbrev pub fault_text : JobFault → List ℕ
fault_text f = fault_layer f ++ (codes " " ++ (decimal (job_fault_number f) ++ (codes " " ++ decimal (job_fault_place f))))
