use Rattle.std.proofs.Common.{◌≡◌, ℕ, List, map, length, replicate, rules, ap, ◌∙◌}
use Rattle.std.proofs.lemmas.List.{length-map}
use Rattle.bench.specs.Calls.{as_opened, wiped}
use Rattle.bench.specs.Model.{rack_outline, rack_state}
use Rattle.bench.proofs.KeptVisits.{made_places, stored_places}
use Rattle.benchcases.proofs.lending.visit_on.Goals as goal

pub returns-clause-levels : goal.returns-clause-levels
returns-clause-levels g c =
    let height = g.L.Level.height in
    let memory = map height c.erode.new.rack.memory.now in
    let four : (rack_outline c.erode.new.rack).places ≡ 4 =
    made_places height _ _ _ _ _ _ _ _ c.erode.ensures ∙ stored_places _ (rack_state height c.begin_free-slip.new.rack) (rack_state height c.load.new.rack) _ _ c.load.ensures.steps ∙ c.begin_free-slip.ensures.rack_places
    ∙ ap (λ s. s.outline.places) c.open-rack.ensures.state ∙ ap (λ n. (as_opened {C = List ℕ} 2 5 1 4 n).outline.places) c.requires.levels in
    let long : length memory ≡ 30 =
    length-map _ _ ∙ c.erode.ensures.lent.long ∙ c.load.ensures.lent.long ∙ c.begin_free-slip.ensures.rack_lent.long
    ∙ ap length c.open-rack.ensures.memory ∙ c.requires.levels in
    let end : map height c.end_own.new.rack.memory.now ≡ replicate 30 0 =
    c.end_own.ensures.levels ∙ ap (λ n. wiped n 0 memory) four ∙ ap (λ n. replicate n 0) long in
    search rules
