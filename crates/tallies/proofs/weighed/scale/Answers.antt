use Rattle.std.proofs.Common.{◌≡◌, ◌&&◌, Err, true, ap, ◌∙◌, arith, w32}
use Rattle.std.proofs.lemmas.Grind.{common_steps}
use Rattle.std.proofs.lemmas.Int.{to_z-of_z}
use Rattle.std.proofs.lemmas.Result.{err_from_is_err_and}
use Rattle.limits.specs.Faults.{told}
use Rattle.limits.specs.Sizes.{factor_refusal}
use Rattle.bench.specs.Model.{is_place, slate_outline, slate_state, tally_of}
use Rattle.bench.specs.TallyCalls.{combine_refusal}
use Rattle.weights.specs.Weights.{multiple}
use Rattle.tallies.proofs.Accepted.{makes_same, refused_makes, scale_refused, scale_refusal_is}
use Rattle.tallies.proofs.weighed.scale.Goals as goal

pub returns-in_err-check_factor : goal.returns-in_err-check_factor
returns-in_err-check_factor c =
    let o = slate_outline c.args.slate.now in
    let back = err_from_is_err_and c.from_residual.result c.from_residual.ensures.1 in
    let refused = c.in_err-check_factor.ensures ∙ ap (λ z. told (factor_refusal z)) (to_z-of_z w32 c.args.factor c.ranges.factor) in
    let places : (is_place o.places c.args.from && is_place o.places c.args.to) ≡ true = grind (arith, common_steps) in
    refused_makes _ _ _ _ _ _ (scale_refused o (multiple c.args.factor (tally_of (slate_state c.args.slate.now) c.args.from)) c.args.factor c.args.from c.args.to places _ refused) (back.1 ∙ ap Err back.2)

pub returns : goal.returns
returns c =
    let o = slate_outline c.args.slate.now in
    let source = tally_of (slate_state c.args.slate.now) c.args.from in
    let same = to_z-of_z w32 c.args.factor c.ranges.factor in
    let passed = c.in_ok-check_factor.ensures ∙ ap (λ z. told (factor_refusal z)) same in
    let places : (is_place o.places c.args.from && is_place o.places c.args.to) ≡ true = grind (arith, common_steps) in
    makes_same _ _ _ _ _ _ _ _
    (ap (λ z. combine_refusal o (multiple z source) c.args.from c.args.from c.args.to) same ∙ scale_refusal_is o (multiple c.args.factor source) c.args.factor c.args.from c.args.to places passed)
    (ap (λ z. multiple z source) same) c.combine.ensures
