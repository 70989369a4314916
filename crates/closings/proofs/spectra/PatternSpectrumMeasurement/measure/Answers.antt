use Rattle.std.proofs.Common.{◌≡◌, ℕ, ◌+◌, ◌++◌, map, length, take, refl, ap, ◌∙◌}
use Rattle.std.specs.Prelude.{reverse}
use Rattle.std.proofs.lemmas.List.FromFn.{length-map-range_with_len}
use Rattle.calls.specs.ByElement.{shrink, swell}
use Rattle.closings.specs.ByElement.{close}
use Rattle.measurements.specs.Areas.{minus_next}
use Rattle.morphology.specs.Sheets.{area}
use Rattle.operators.specs.Openings.{opening}
use Rattle.closings.proofs.Areas.{falls_are_entries, front_and_back}
use Rattle.closings.proofs.spectra.PatternSpectrumMeasurement.measure.Goals as goal

pub returns-clause-memory : goal.returns-clause-memory
returns-clause-memory g c =
    let d = c.args.self.now.depth in
    let e = c.args.self.now.element.now in
    let w = c.args.w in
    let h = c.args.h in
    let f = map g.L.Level.height c.args.sheet.now in
    let closed = λ (n : ℕ). area (close e w h n f) in
    let opened = λ (n : ℕ). area (opening (shrink e w h) (swell e w h) n f) in
    let front = c.in_ok-measure.ensures.memory in
    let back = c.in_ok-measure-2.ensures.memory in
    let long : length c.measure.new.list ≡ d + 1 = ap length front ∙ length-map-range_with_len closed 0 (d + 1) in
    rw (c.subtract_next.ensures, c.reverse.ensures.after)
    (ap minus_next (front_and_back d c.args.list.now c.measure.new.list c.measure-2.new.list long)
    ∙ (λ i. minus_next (take d (reverse (front i)) ++ back i))
    ∙ falls_are_entries d closed opened refl)
