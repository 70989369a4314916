use Rattle.std.proofs.Common.{◌≡◌, ◌*◌, true, map, take, Err, ap, sym, ◌∙◌, rules}
use Rattle.std.proofs.lemmas.Result.{err_from_is_err_and}
use Rattle.limits.specs.Faults.{tells}
use Rattle.bench.specs.Calls.{made_of, stored}
use Rattle.bench.specs.Model.{is_place, overwritten, place_start, rack_outline, rack_state}
use Rattle.bench.proofs.Refusals.{accepted_leaves, make_refusal_at, refused_leaves}
use Rattle.bench.proofs.rack.Rack.make.Goals as goal

pub returns-in_err-report : goal.returns-in_err-report
returns-in_err-report g c =
    let height = g.L.Level.height in
    let rack = c.args.self.now in
    let there : is_place rack.marks.places c.args.to ≡ true = sym c.has_place.ensures ∙ search rules in
    let told_back = err_from_is_err_and c.from_residual.result c.from_residual.ensures.1 in
    let refused = c.in_err-report.ensures in
    let same = make_refusal_at (rack_outline rack) c.args.one c.args.other c.args.to there in
    let report = made_of (g.T.Transform.report_of c.args.transform.now) (rack_state height rack) c.args.one c.args.other in
    let answer = refused.answers ∙ ap (λ o. tells o report) (sym same) in
    record {
      answers = told_back.1 ∙ ap Err told_back.2 ∙ answer;
      steps = refused.steps ∙ refused_leaves _ _ report _ _ answer;
      memory = rw told_back.1 refused.memory;
      lent = refused.lent;
    }

pub returns : goal.returns
returns g c =
    let height = g.L.Level.height in
    let rack = c.args.self.now in
    let between = c.make_in_plane.new.self in
    let there : is_place rack.marks.places c.args.to ≡ true = sym c.has_place.ensures ∙ search rules in
    let planar = c.in_ok-report.ensures in
    let kept = c.keep_plane.ensures in
    let same = make_refusal_at (rack_outline rack) c.args.one c.args.other c.args.to there in
    let report = made_of (g.T.Transform.report_of c.args.transform.now) (rack_state height rack) c.args.one c.args.other in
    let made = made_of (g.T.Transform.makes c.args.transform.now) (rack_state height rack) c.args.one c.args.other in
    let answer = planar.answers ∙ ap (λ o. tells o report) (sym same) in
    let w : between.marks.w ≡ rack.marks.w = ap (λ s. s.outline.w) planar.steps in
    let h : between.marks.h ≡ rack.marks.h = ap (λ s. s.outline.h) planar.steps in
    let places : between.marks.places ≡ rack.marks.places = ap (λ s. s.outline.places) planar.steps in
    record {
      answers = answer;
      steps = kept.steps ∙ (λ i. stored (planar.steps i) c.args.to (planar.memory.1 i)) ∙ accepted_leaves _ _ report _ _ answer;
      memory =
          sym (λ i. take (places i * (w i * h i)) (map height c.keep_plane.new.self.memory.now))
          ∙ kept.memory
          ∙ (λ i. overwritten (place_start (w i * h i) c.args.to) (planar.memory.1 i) (take (places i * (w i * h i)) (map height between.memory.now)))
          ∙ ap (overwritten (place_start (rack.marks.w * rack.marks.h) c.args.to) made) planar.memory.0;
      lent = record { reference = kept.lent.reference ∙ planar.lent.reference; long = kept.lent.long ∙ planar.lent.long };
    }
