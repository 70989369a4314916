use Rattle.std.proofs.Common.{arith}
use Rattle.std.proofs.lemmas.List.{take_more_set}
use Rattle.jobs.proofs.job.tell.Goals as goal

pub returns-in-Area-clause-numbers : goal.returns-in-Area-clause-numbers
returns-in-Area-clause-numbers c = rw c.in-Area.is (take_more_set c.args.list.now 0 c.in-Area.area (omega (arith, c.requires.room)))
