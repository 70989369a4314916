-- That a refused call leaves the bench.
use Rattle.runs.proofs.FirstInOrder.{refusals_leave_the_bench}
use Rattle.runs.proofs.theorems.refusals_in_order.Goals as goal

pub returns-clause-bench : goal.returns-clause-bench
returns-clause-bench c = refusals_leave_the_bench
