use Rattle.bench.proofs.Combining.{CombinedBelow}
use Rattle.bench.proofs.numbers.combine_cells.Given as goal

abbrev pub invariant-loop-k : goal.invariant-loop-k
invariant-loop-k l = CombinedBelow l.how l.one l.other l.to l.k l.initial.memory l.memory
