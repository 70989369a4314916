use Rattle.std.proofs.Common.{◌≡◌, [], map, Err, sym, ap, ◌∙◌, unwrap_or}
use Rattle.std.proofs.lemmas.Result.{err_from_is_err_and}
use Rattle.bench.specs.Model.{rack_outline, rack_state, sheet_of, slate_outline}
use Rattle.operators.specs.Tallies.{differed}
use Rattle.weights.specs.Weights.{difference}
use Rattle.tallies.proofs.Accepted.{accepted, makes_same, not_both, refused_makes}
use Rattle.tallies.proofs.differences.differ.Goals as goal

pub returns-in_err-check_difference : goal.returns-in_err-check_difference
returns-in_err-check_difference g c =
    let back = err_from_is_err_and c.from_residual.result c.from_residual.ensures.1 in
    refused_makes _ _ _ _ _ _ c.in_err-check_difference.ensures (back.1 ∙ ap Err back.2)

pub returns-in_err-one : goal.returns-in_err-one
returns-in_err-one g c =
    absurd (not_both _ _ (accepted (rack_outline c.args.rack.now) (slate_outline c.args.slate.now) c.args.one c.args.other c.args.to c.in_ok-check_difference.ensures).first c.in_err-one.ensures.answers)

pub returns-in_err-other : goal.returns-in_err-other
returns-in_err-other g c =
    absurd (not_both _ _ (accepted (rack_outline c.args.rack.now) (slate_outline c.args.slate.now) c.args.one c.args.other c.args.to c.in_ok-check_difference.ensures).second c.in_err-other.ensures.answers)

pub returns : goal.returns
returns g c =
    let height = g.L.Level.height in
    let state = rack_state height c.args.rack.now in
    let passed = accepted (rack_outline c.args.rack.now) (slate_outline c.args.slate.now) c.args.one c.args.other c.args.to c.in_ok-check_difference.ensures in
    let one = c.in_ok-one.ensures in
    let other = c.in_ok-other.ensures in
    let first : map height c.in_ok-one.one.now ≡ sheet_of state c.args.one = sym (ap (λ o. unwrap_or o []) one.answers.1) in
    let second : map height c.in_ok-other.other.now ≡ sheet_of state c.args.other = sym (ap (λ o. unwrap_or o []) other.answers.1) in
    makes_same _ _ _ _ _ _ _ _ (passed.store _ _ one.sides.0 other.sides.0 ∙ sym passed.difference) (λ i. difference (differed (first i) (second i))) c.store_difference.ensures
