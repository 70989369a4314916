use Rattle.std.proofs.Common.{Err, sym, ap, ◌∙◌}
use Rattle.std.proofs.lemmas.Result.{err_from_is_err_and}
use Rattle.bench.specs.Calls.{sheet_refusal}
use Rattle.bench.specs.Model.{rack_outline, slate_outline}
use Rattle.tallies.proofs.Accepted.{accepted, makes_same, not_both, refused_makes}
use Rattle.tallies.proofs.Reading.{made_first, read_after, sheet_first}
use Rattle.tallies.proofs.differences.difference.Goals as goal

pub returns-in_err-check_difference-clause-tally : goal.returns-in_err-check_difference-clause-tally
returns-in_err-check_difference-clause-tally g c =
    let back = err_from_is_err_and c.from_residual.result c.from_residual.ensures.1 in
    refused_makes _ _ _ _ _ _ c.in_err-check_difference.ensures (back.1 ∙ ap Err back.2)

pub returns-in_err-sheet-clause-tally : goal.returns-in_err-sheet-clause-tally
returns-in_err-sheet-clause-tally g c =
    let same = ap (λ s. sheet_refusal s.outline c.args.from) c.make_in_plane.ensures.steps in
    absurd (not_both _ _ (same ∙ (accepted (rack_outline c.args.rack.now) (slate_outline c.args.slate.now) c.args.from c.args.from c.args.to c.in_ok-check_difference.ensures).first) c.in_err-sheet.ensures.answers)

pub returns-in_err-sheet-clause-sheets : goal.returns-in_err-sheet-clause-sheets
returns-in_err-sheet-clause-sheets g c =
    let same = ap (λ s. sheet_refusal s.outline c.args.from) c.make_in_plane.ensures.steps in
    absurd (not_both _ _ (same ∙ (accepted (rack_outline c.args.rack.now) (slate_outline c.args.slate.now) c.args.from c.args.from c.args.to c.in_ok-check_difference.ensures).first) c.in_err-sheet.ensures.answers)

pub returns-in-SheetFirst-clause-tally : goal.returns-in-SheetFirst-clause-tally
returns-in-SheetFirst-clause-tally g c =
    let passed = accepted (rack_outline c.args.rack.now) (slate_outline c.args.slate.now) c.args.from c.args.from c.args.to c.in_ok-check_difference.ensures in
    let sheet = c.in_ok-sheet.ensures in
    let plane = c.plane-made.ensures in
    let read = read_after g.L.Level.height (g.T.Transform.makes c.args.transform.now) c.args.rack.now c.make_in_plane.new.self c.args.from _ _ _ c.in_ok-make_in_plane.was c.make_in_plane.ensures sheet.answers.1 sheet.sides.0 plane.value plane.sides in
    makes_same _ _ _ _ _ _ _ _ (passed.store _ _ read.sheet_long read.plane_long ∙ sym passed.difference) (sheet_first _ _ _ _ _ _ read c.args.order c.in-SheetFirst.is) c.store_difference.ensures

pub returns-in-MadeFirst-clause-tally : goal.returns-in-MadeFirst-clause-tally
returns-in-MadeFirst-clause-tally g c =
    let passed = accepted (rack_outline c.args.rack.now) (slate_outline c.args.slate.now) c.args.from c.args.from c.args.to c.in_ok-check_difference.ensures in
    let sheet = c.in_ok-sheet.ensures in
    let plane = c.plane-made.ensures in
    let read = read_after g.L.Level.height (g.T.Transform.makes c.args.transform.now) c.args.rack.now c.make_in_plane.new.self c.args.from _ _ _ c.in_ok-make_in_plane.was c.make_in_plane.ensures sheet.answers.1 sheet.sides.0 plane.value plane.sides in
    makes_same _ _ _ _ _ _ _ _ (passed.store _ _ read.plane_long read.sheet_long ∙ sym passed.difference) (made_first _ _ _ _ _ _ read c.args.order c.in-MadeFirst.is) c.store_difference-in-MadeFirst.ensures
