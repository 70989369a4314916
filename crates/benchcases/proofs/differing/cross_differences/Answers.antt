use Rattle.std.proofs.Common.{Some, sym, ◌∙◌}
use Rattle.bench.specs.Model.{rack_state, visit_to}
use Rattle.bench.proofs.KeptVisits.{stored_shared, tallied_shared}
use Rattle.benchcases.proofs.differing.cross_differences.Goals as goal

pub end_own-requires-clause-same : goal.end_own-requires-clause-same
end_own-requires-clause-same g c =
    let height = g.L.Level.height in
    let begun = c.begin_free-slip.ensures in
    let sides = c.requires.same in
    stored_shared _ (rack_state height c.begin_free-slip.new.rack) (rack_state height c.load.new.rack) _ _ c.load.ensures.steps
    ∙ begun.rack ∙ (λ i. (Some (visit_to c.args.flat), (sides i).1, (sides i).2)) ∙ sym begun.slate
    ∙ sym (tallied_shared _ _ _ _ _ _ c.differ-own.ensures)

pub returns-clause-rack : goal.returns-clause-rack
returns-clause-rack g c =
    let height = g.L.Level.height in
    let kept = stored_shared _ (rack_state height c.begin_free-slip.new.rack) (rack_state height c.load.new.rack) _ _ c.load.ensures.steps ∙ c.begin_free-slip.ensures.rack in
    c.end_own.ensures.rack ∙ (λ i. (sym c.requires.free i, (kept i).1, (kept i).2))
