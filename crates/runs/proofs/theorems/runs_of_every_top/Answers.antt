-- The laws of runs, at the heights to any top.
use Rattle.runs.proofs.RunLaws.{run_laws}
use Rattle.runs.proofs.theorems.runs_of_every_top.Goals as goal

pub returns : goal.returns
returns c top low high = run_laws (λ x. x.0) top (λ x. x.1) high
