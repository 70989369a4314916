use Rattle.std.proofs.Common.{length, [], w32, rules, Err, unwrap_or, refl, sym, ap, ◌∙◌}
use Rattle.std.proofs.lemmas.Int.{to_z-of_z}
use Rattle.std.proofs.lemmas.Result.{err_from_is_err_and}
use Rattle.limits.specs.Faults.{told}
use Rattle.in_use.proofs.Kept.{accepted_measure, accepted_told, all_kept, on_err, refused_measure, refused_told, sheet_stored, sheet_written, tally_stored, tally_written}
use Rattle.in_use.specs.InUse.{bench_of}
use Rattle.model.specs.Calls as model
use Rattle.model.specs.Steps.{answer, step}
use Rattle.weights.specs.Weights.{no_tally}
use Rattle.in_use.proofs.bench_in_use.BenchInUse.perform.Goals as goal

pub invariant_of-self : goal.invariant_of-self
invariant_of-self g c = let kept = all_kept c.args.self.now (model.Spectrum c.in-Spectrum.element.now c.in-Spectrum.depth c.in-Spectrum.place (length c.in-Spectrum.list.now)) _ c.spectrum.ensures.sheets.steps refl in record { own_slip = kept.own_slip; reached = kept.reached }

pub invariant_of-self-in-Skeleton : goal.invariant_of-self-in-Skeleton
invariant_of-self-in-Skeleton g c = let kept = all_kept c.args.self.now (model.Skeleton c.in-Skeleton.element.now c.in-Skeleton.depth c.in-Skeleton.place (length c.in-Skeleton.list.now)) _ c.skeleton.ensures.sheets.steps refl in record { own_slip = kept.own_slip; reached = kept.reached }

pub invariant_of-self-in-Load : goal.invariant_of-self-in-Load
invariant_of-self-in-Load g c = let kept = sheet_stored c.args.self.now (model.Load c.in-Load.place c.in-Load.picture.now) _ _ _ _ c.load.ensures.steps refl in record { own_slip = kept.own_slip; reached = kept.reached }

pub invariant_of-self-in-Erode : goal.invariant_of-self-in-Erode
invariant_of-self-in-Erode g c = let kept = sheet_stored c.args.self.now (model.Erode c.in-Erode.element.now c.in-Erode.from c.in-Erode.to) _ _ _ _ c.erode.ensures.steps refl in record { own_slip = kept.own_slip; reached = kept.reached }

pub invariant_of-self-in-Dilate : goal.invariant_of-self-in-Dilate
invariant_of-self-in-Dilate g c = let kept = sheet_stored c.args.self.now (model.Dilate c.in-Dilate.element.now c.in-Dilate.from c.in-Dilate.to) _ _ _ _ c.dilate.ensures.steps refl in record { own_slip = kept.own_slip; reached = kept.reached }

pub invariant_of-self-in-Open : goal.invariant_of-self-in-Open
invariant_of-self-in-Open g c = let kept = sheet_stored c.args.self.now (model.Open c.in-Open.element.now c.in-Open.size c.in-Open.from c.in-Open.to) _ _ _ _ c.open.ensures.steps refl in record { own_slip = kept.own_slip; reached = kept.reached }

pub invariant_of-self-in-Close : goal.invariant_of-self-in-Close
invariant_of-self-in-Close g c = let kept = sheet_stored c.args.self.now (model.Close c.in-Close.element.now c.in-Close.size c.in-Close.from c.in-Close.to) _ _ _ _ c.close.ensures.steps refl in record { own_slip = kept.own_slip; reached = kept.reached }

pub invariant_of-self-in-Meet : goal.invariant_of-self-in-Meet
invariant_of-self-in-Meet g c = let kept = sheet_stored c.args.self.now (model.Meet c.in-Meet.one c.in-Meet.other c.in-Meet.to) _ _ _ _ c.meet.ensures.steps refl in record { own_slip = kept.own_slip; reached = kept.reached }

pub invariant_of-self-in-Join : goal.invariant_of-self-in-Join
invariant_of-self-in-Join g c = let kept = sheet_stored c.args.self.now (model.Join c.in-Join.one c.in-Join.other c.in-Join.to) _ _ _ _ c.join.ensures.steps refl in record { own_slip = kept.own_slip; reached = kept.reached }

pub invariant_of-self-in-Regrow : goal.invariant_of-self-in-Regrow
invariant_of-self-in-Regrow g c = let kept = sheet_stored c.args.self.now (model.Regrow c.in-Regrow.element.now c.in-Regrow.marker c.in-Regrow.upper c.in-Regrow.to) _ _ _ _ c.regrow.ensures.steps refl in record { own_slip = kept.own_slip; reached = kept.reached }

pub invariant_of-self-in-Edge : goal.invariant_of-self-in-Edge
invariant_of-self-in-Edge g c = let kept = tally_stored c.args.self.now (model.Edge c.in-Edge.element.now c.in-Edge.from c.in-Edge.to) _ _ _ _ _ c.edge.ensures.sheets.steps c.edge.ensures.tally.steps refl in record { own_slip = kept.own_slip; reached = kept.reached }

pub invariant_of-self-in-Peak : goal.invariant_of-self-in-Peak
invariant_of-self-in-Peak g c = let kept = tally_stored c.args.self.now (model.Peak c.in-Peak.element.now c.in-Peak.from c.in-Peak.to) _ _ _ _ _ c.peak.ensures.sheets.steps c.peak.ensures.tally.steps refl in record { own_slip = kept.own_slip; reached = kept.reached }

pub invariant_of-self-in-Valley : goal.invariant_of-self-in-Valley
invariant_of-self-in-Valley g c = let kept = tally_stored c.args.self.now (model.Valley c.in-Valley.element.now c.in-Valley.from c.in-Valley.to) _ _ _ _ _ c.valley.ensures.sheets.steps c.valley.ensures.tally.steps refl in record { own_slip = kept.own_slip; reached = kept.reached }

pub invariant_of-self-in-Differ : goal.invariant_of-self-in-Differ
invariant_of-self-in-Differ g c = let kept = tally_stored c.args.self.now (model.Differ c.in-Differ.one c.in-Differ.other c.in-Differ.to) _ _ _ _ _ refl c.differ.ensures.steps refl in record { own_slip = kept.own_slip; reached = kept.reached }

pub invariant_of-self-in-Add : goal.invariant_of-self-in-Add
invariant_of-self-in-Add g c = let kept = tally_stored c.args.self.now (model.Add c.in-Add.one c.in-Add.other c.in-Add.to) _ _ _ _ _ refl c.add.ensures.steps refl in record { own_slip = kept.own_slip; reached = kept.reached }

pub invariant_of-self-in-Scale : goal.invariant_of-self-in-Scale
invariant_of-self-in-Scale g c =
    let same = to_z-of_z w32 c.in-Scale.factor (search rules) in
    let kept = tally_stored c.args.self.now (model.Scale c.in-Scale.factor c.in-Scale.from c.in-Scale.to) _ _ _ _ _ refl c.scale.ensures.steps
    (ap (λ factor. step (bench_of g.L.Level.height c.args.self.now) (model.Scale factor c.in-Scale.from c.in-Scale.to)) (sym same)) in
    record { own_slip = kept.own_slip; reached = kept.reached }

pub returns-in_err-show_sheet-in-ShowSheet-clause-lists : goal.returns-in_err-show_sheet-in-ShowSheet-clause-lists
returns-in_err-show_sheet-in-ShowSheet-clause-lists g c =
    rw c.in-ShowSheet.is (on_err c.from_residual.result c.in_err-show_sheet-in-ShowSheet.ensures.list)

pub returns-in_ok-show_sheet-in-ShowSheet-clause-answers : goal.returns-in_ok-show_sheet-in-ShowSheet-clause-answers
returns-in_ok-show_sheet-in-ShowSheet-clause-answers g c =
    rw c.in-ShowSheet.is (accepted_told model.SheetTold _ _ _ _ _ c.in_ok-show_sheet-in-ShowSheet.ensures.answers (sym (ap (λ held. unwrap_or held []) c.in_ok-show_sheet-in-ShowSheet.ensures.list)))

pub returns-in_err-weight-in-ShowTally-clause-lists : goal.returns-in_err-weight-in-ShowTally-clause-lists
returns-in_err-weight-in-ShowTally-clause-lists g c =
    rw c.in-ShowTally.is (on_err c.from_residual-in_err-weight-in-ShowTally.result c.in_err-weight-in-ShowTally.ensures.list)

pub returns-in_ok-weight-in-ShowTally-clause-answers : goal.returns-in_ok-weight-in-ShowTally-clause-answers
returns-in_ok-weight-in-ShowTally-clause-answers g c =
    rw c.in-ShowTally.is (accepted_told model.TallyTold _ _ _ _ _ (sym (ap told c.in_ok-weight-in-ShowTally.ensures.answers)) (sym (ap (λ held. unwrap_or held no_tally) c.in_ok-weight-in-ShowTally.ensures.list)))

pub returns-in_err-spectrum-in-Spectrum-clause-lists : goal.returns-in_err-spectrum-in-Spectrum-clause-lists
returns-in_err-spectrum-in-Spectrum-clause-lists g c =
    rw c.in-Spectrum.is (on_err c.from_residual-in_err-spectrum-in-Spectrum.result c.in_err-spectrum-in-Spectrum.ensures.list)

pub returns-in_err-spectrum-in-Spectrum-clause-answers : goal.returns-in_err-spectrum-in-Spectrum-clause-answers
returns-in_err-spectrum-in-Spectrum-clause-answers g c =
    let back = err_from_is_err_and c.from_residual-in_err-spectrum-in-Spectrum.result c.from_residual-in_err-spectrum-in-Spectrum.ensures.1 in
    rw c.in-Spectrum.is (refused_measure _ model.SpectrumTold _ _ _ _ _ (back.1 ∙ ap Err back.2) c.in_err-spectrum-in-Spectrum.ensures.answers)

pub returns-in_ok-spectrum-in-Spectrum-clause-answers : goal.returns-in_ok-spectrum-in-Spectrum-clause-answers
returns-in_ok-spectrum-in-Spectrum-clause-answers g c =
    rw c.in-Spectrum.is (accepted_measure model.SpectrumTold _ _ _ _ _ c.in_ok-spectrum-in-Spectrum.ensures.answers c.in_ok-spectrum-in-Spectrum.ensures.list)

pub returns-in_err-skeleton-in-Skeleton-clause-lists : goal.returns-in_err-skeleton-in-Skeleton-clause-lists
returns-in_err-skeleton-in-Skeleton-clause-lists g c =
    rw c.in-Skeleton.is (on_err c.from_residual-in_err-skeleton-in-Skeleton.result c.in_err-skeleton-in-Skeleton.ensures.list)

pub returns-in_err-skeleton-in-Skeleton-clause-answers : goal.returns-in_err-skeleton-in-Skeleton-clause-answers
returns-in_err-skeleton-in-Skeleton-clause-answers g c =
    let back = err_from_is_err_and c.from_residual-in_err-skeleton-in-Skeleton.result c.from_residual-in_err-skeleton-in-Skeleton.ensures.1 in
    rw c.in-Skeleton.is (refused_measure _ model.SkeletonTold _ _ _ _ _ (back.1 ∙ ap Err back.2) c.in_err-skeleton-in-Skeleton.ensures.answers)

pub returns-in_ok-skeleton-in-Skeleton-clause-answers : goal.returns-in_ok-skeleton-in-Skeleton-clause-answers
returns-in_ok-skeleton-in-Skeleton-clause-answers g c =
    rw c.in-Skeleton.is (accepted_measure model.SkeletonTold _ _ _ _ _ c.in_ok-skeleton-in-Skeleton.ensures.answers c.in_ok-skeleton-in-Skeleton.ensures.list)

pub returns-in_err-open-in-Open-clause-answers : goal.returns-in_err-open-in-Open-clause-answers
returns-in_err-open-in-Open-clause-answers g c =
    let back = err_from_is_err_and c.from_residual-in_err-open-in-Open.result c.from_residual-in_err-open-in-Open.ensures.1 in
    rw c.in-Open.is (refused_told _ _ _ _ _ model.NothingTold (back.1 ∙ ap Err back.2) c.in_err-open-in-Open.ensures.answers)

pub returns-in_err-close-in-Close-clause-answers : goal.returns-in_err-close-in-Close-clause-answers
returns-in_err-close-in-Close-clause-answers g c =
    let back = err_from_is_err_and c.from_residual-in_err-close-in-Close.result c.from_residual-in_err-close-in-Close.ensures.1 in
    rw c.in-Close.is (refused_told _ _ _ _ _ model.NothingTold (back.1 ∙ ap Err back.2) c.in_err-close-in-Close.ensures.answers)

pub returns-in_err-edge-in-Edge-clause-answers : goal.returns-in_err-edge-in-Edge-clause-answers
returns-in_err-edge-in-Edge-clause-answers g c =
    let back = err_from_is_err_and c.from_residual-in_err-edge-in-Edge.result c.from_residual-in_err-edge-in-Edge.ensures.1 in
    rw c.in-Edge.is (refused_told _ _ _ _ _ model.NothingTold (back.1 ∙ ap Err back.2) c.in_err-edge-in-Edge.ensures.tally.answers)

pub returns-in_err-peak-in-Peak-clause-answers : goal.returns-in_err-peak-in-Peak-clause-answers
returns-in_err-peak-in-Peak-clause-answers g c =
    let back = err_from_is_err_and c.from_residual-in_err-peak-in-Peak.result c.from_residual-in_err-peak-in-Peak.ensures.1 in
    rw c.in-Peak.is (refused_told _ _ _ _ _ model.NothingTold (back.1 ∙ ap Err back.2) c.in_err-peak-in-Peak.ensures.tally.answers)

pub returns-in_err-valley-in-Valley-clause-answers : goal.returns-in_err-valley-in-Valley-clause-answers
returns-in_err-valley-in-Valley-clause-answers g c =
    let back = err_from_is_err_and c.from_residual-in_err-valley-in-Valley.result c.from_residual-in_err-valley-in-Valley.ensures.1 in
    rw c.in-Valley.is (refused_told _ _ _ _ _ model.NothingTold (back.1 ∙ ap Err back.2) c.in_err-valley-in-Valley.ensures.tally.answers)

pub returns-in_err-differ-in-Differ-clause-answers : goal.returns-in_err-differ-in-Differ-clause-answers
returns-in_err-differ-in-Differ-clause-answers g c =
    let back = err_from_is_err_and c.from_residual-in_err-differ-in-Differ.result c.from_residual-in_err-differ-in-Differ.ensures.1 in
    rw c.in-Differ.is (refused_told _ _ _ _ _ model.NothingTold (back.1 ∙ ap Err back.2) c.in_err-differ-in-Differ.ensures.answers)

pub returns-in_err-add-in-Add-clause-answers : goal.returns-in_err-add-in-Add-clause-answers
returns-in_err-add-in-Add-clause-answers g c =
    let back = err_from_is_err_and c.from_residual-in_err-add-in-Add.result c.from_residual-in_err-add-in-Add.ensures.1 in
    rw c.in-Add.is (refused_told _ _ _ _ _ model.NothingTold (back.1 ∙ ap Err back.2) c.in_err-add-in-Add.ensures.answers)

pub returns-in_err-scale-in-Scale-clause-answers : goal.returns-in_err-scale-in-Scale-clause-answers
returns-in_err-scale-in-Scale-clause-answers g c =
    let same = to_z-of_z w32 c.in-Scale.factor (search rules) in
    let back = err_from_is_err_and c.from_residual-in_err-scale-in-Scale.result c.from_residual-in_err-scale-in-Scale.ensures.1 in
    rw c.in-Scale.is (refused_told _ _ _ _ _ model.NothingTold (back.1 ∙ ap Err back.2) c.in_err-scale-in-Scale.ensures.answers
    ∙ ap (λ factor. answer (bench_of g.L.Level.height c.args.self.now) (model.Scale factor c.in-Scale.from c.in-Scale.to)) same)

pub returns-in_ok-erode-in-Erode-clause-levels : goal.returns-in_ok-erode-in-Erode-clause-levels
returns-in_ok-erode-in-Erode-clause-levels g c =
    rw c.in-Erode.is (sheet_written g.L.Level.height c.in_ok-erode-in-Erode.ensures)

pub returns-in_ok-dilate-in-Dilate-clause-levels : goal.returns-in_ok-dilate-in-Dilate-clause-levels
returns-in_ok-dilate-in-Dilate-clause-levels g c =
    rw c.in-Dilate.is (sheet_written g.L.Level.height c.in_ok-dilate-in-Dilate.ensures)

pub returns-in_ok-open-in-Open-clause-levels : goal.returns-in_ok-open-in-Open-clause-levels
returns-in_ok-open-in-Open-clause-levels g c =
    rw c.in-Open.is (sheet_written g.L.Level.height c.in_ok-open-in-Open.ensures)

pub returns-in_ok-close-in-Close-clause-levels : goal.returns-in_ok-close-in-Close-clause-levels
returns-in_ok-close-in-Close-clause-levels g c =
    rw c.in-Close.is (sheet_written g.L.Level.height c.in_ok-close-in-Close.ensures)

pub returns-in_ok-meet-in-Meet-clause-levels : goal.returns-in_ok-meet-in-Meet-clause-levels
returns-in_ok-meet-in-Meet-clause-levels g c =
    rw c.in-Meet.is (sheet_written g.L.Level.height c.in_ok-meet-in-Meet.ensures)

pub returns-in_ok-join-in-Join-clause-levels : goal.returns-in_ok-join-in-Join-clause-levels
returns-in_ok-join-in-Join-clause-levels g c =
    rw c.in-Join.is (sheet_written g.L.Level.height c.in_ok-join-in-Join.ensures)

pub returns-in_ok-rounds-in-Regrow-clause-levels : goal.returns-in_ok-rounds-in-Regrow-clause-levels
returns-in_ok-rounds-in-Regrow-clause-levels g c =
    rw c.in-Regrow.is (sheet_written g.L.Level.height c.in_ok-rounds-in-Regrow.ensures)

pub returns-in_ok-edge-in-Edge-clause-numbers : goal.returns-in_ok-edge-in-Edge-clause-numbers
returns-in_ok-edge-in-Edge-clause-numbers g c =
    rw c.in-Edge.is (tally_written c.in_ok-edge-in-Edge.ensures.tally)

pub returns-in_ok-peak-in-Peak-clause-numbers : goal.returns-in_ok-peak-in-Peak-clause-numbers
returns-in_ok-peak-in-Peak-clause-numbers g c =
    rw c.in-Peak.is (tally_written c.in_ok-peak-in-Peak.ensures.tally)

pub returns-in_ok-valley-in-Valley-clause-numbers : goal.returns-in_ok-valley-in-Valley-clause-numbers
returns-in_ok-valley-in-Valley-clause-numbers g c =
    rw c.in-Valley.is (tally_written c.in_ok-valley-in-Valley.ensures.tally)

pub returns-in_ok-differ-in-Differ-clause-numbers : goal.returns-in_ok-differ-in-Differ-clause-numbers
returns-in_ok-differ-in-Differ-clause-numbers g c =
    rw c.in-Differ.is (tally_written c.in_ok-differ-in-Differ.ensures)

pub returns-in_ok-add-in-Add-clause-numbers : goal.returns-in_ok-add-in-Add-clause-numbers
returns-in_ok-add-in-Add-clause-numbers g c =
    rw c.in-Add.is (tally_written c.in_ok-add-in-Add.ensures)

pub returns-in_ok-scale-in-Scale-clause-numbers : goal.returns-in_ok-scale-in-Scale-clause-numbers
returns-in_ok-scale-in-Scale-clause-numbers g c =
    rw c.in-Scale.is (tally_written c.in_ok-scale-in-Scale.ensures)
