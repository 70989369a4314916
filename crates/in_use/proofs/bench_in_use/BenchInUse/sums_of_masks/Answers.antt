use Rattle.in_use.proofs.Kept.{sums_of_masks}
use Rattle.in_use.proofs.bench_in_use.BenchInUse.sums_of_masks.Goals as goal

pub returns : goal.returns
returns g c = sums_of_masks g.L.Level.height g.L.Level.top _ c.runs_of_a_kind.ensures.sums c.args.self.now.reached
