-- What is printed for an answer. Assumes nothing.
use Rattle.std.specs.Prelude.{ℕ, List, ◌++◌, take, Ok, Err, codes, decimal, Result}
use Rattle.std.specs.Result.{result_map_both}
use Rattle.commands.specs.Lines.{spaced}
use Rattle.faults.specs.declared.JobFault.{JobFault}
use Rattle.faults.specs.Faults.{fault_text}
use Rattle.jobs.specs.Commands.{LineAnswer}

-- the answer to a line that tells so many numbers, those at the front of a list
abbrev pub counted : Result ℕ JobFault → List ℕ → LineAnswer
counted answer list = result_map_both (λ count. take count list) (λ fault. fault) answer

-- Success is "=" and each number that is told, after a blank; a fault is "!" with the line, the layer, the number and the place.
abbrev pub answer_text : ℕ → LineAnswer → List ℕ
answer_text line (Ok numbers) = codes "=" ++ spaced numbers
answer_text line (Err fault) = codes "! " ++ (decimal line ++ (codes " " ++ fault_text fault))
