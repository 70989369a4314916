use Rattle.in_use.proofs.Kept.{reached_more}
use Rattle.model.specs.Calls.{End}
use Rattle.in_use.proofs.bench_in_use.BenchInUse.end.Goals as goal

pub invariant_of-self-2-clause-reached : goal.invariant_of-self-2-clause-reached
invariant_of-self-2-clause-reached g c =
    reached_more g.L.Level.height _ _ (End c.in-Some.slip.flat) (λ i. record { rack = c.end.ensures.rack_steps i; slate = c.end.ensures.slate_steps i }) c.args.self.now.reached
