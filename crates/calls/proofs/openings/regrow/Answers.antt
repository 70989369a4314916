use Rattle.std.proofs.Common.{ℕ, List, subst}
use Rattle.elements.specs.Elements.{offsets}
use Rattle.morphology.specs.Erosion.{operated}
use Rattle.operators.specs.Reconstruction.{reconstructed, rounds}
use Rattle.bench.specs.Calls.{MakesSheet}
use Rattle.calls.proofs.openings.regrow.Goals as goal

pub returns : goal.returns
returns g c =
    let map = c.by_element.ensures in
    subst
    (λ (swell : ℕ → ℕ → List ℕ → List ℕ). MakesSheet g.L.Level.height (λ w h. reconstructed (swell w h)) (λ w h. rounds (swell w h)) c.args.rack.now c.make.new.self c.args.marker c.args.upper c.args.to c.make.result)
    (λ i w h. operated (map.operation i) w h (offsets (map.element i))) c.make.ensures
