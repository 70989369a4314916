use Rattle.std.proofs.Common.{length}
use Rattle.in_use.proofs.Kept.{reached_none}
use Rattle.in_use.proofs.bench_in_use.BenchInUse.open.Goals as goal

pub invariant_of-result-clause-reached : goal.invariant_of-result-clause-reached
invariant_of-result-clause-reached g c =
    reached_none g.L.Level.height (record {
      rack = record { w = c.args.sheets.w; h = c.args.sheets.h; places = c.args.sheets.places; memory = length c.args.levels.now };
      slate = record { w = c.args.tallies.w; h = c.args.tallies.h; places = c.args.tallies.places; memory = length c.args.numbers.now };
    }) _ (λ i. record { rack = c.open.ensures.state i; slate = c.open-2.ensures.state i })
