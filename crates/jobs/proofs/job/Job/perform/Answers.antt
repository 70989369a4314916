use Rattle.in_use.specs.InUse.{bench_of}
use Rattle.levels.specs.Gray.{gray_height}
use Rattle.model.specs.Calls as model
use Rattle.model.specs.Steps.{step}
use Rattle.std.proofs.Common.{◌≡◌, length, Err, refl, ap, ◌∙◌, arith}
use Rattle.std.proofs.lemmas.Grind.{common_steps}
use Rattle.std.proofs.lemmas.Result.{err_from_is_err_and}
use Rattle.jobs.proofs.Tellings.{front_so_long, listed_line, refused_line, spectrum_told}
use Rattle.jobs.proofs.job.Job.perform.Goals as goal

pub returns-in_err-told-in-Erode-clause-steps : goal.returns-in_err-told-in-Erode-clause-steps
returns-in_err-told-in-Erode-clause-steps c =
    rw c.in-Erode.is (c.perform-in-Erode.ensures.steps
    ∙ (λ i. step (bench_of gray_height c.args.self.now.bench) (model.Erode c.args.self.now.element (c.from-from.ensures i) (c.from-to.ensures i))))

pub returns-in_err-told-in-Dilate-clause-steps : goal.returns-in_err-told-in-Dilate-clause-steps
returns-in_err-told-in-Dilate-clause-steps c =
    rw c.in-Dilate.is (c.perform-in-Dilate.ensures.steps
    ∙ (λ i. step (bench_of gray_height c.args.self.now.bench) (model.Dilate c.args.self.now.element (c.from-from-in-Dilate.ensures i) (c.from-to-in-Dilate.ensures i))))

pub returns-in_err-told-in-Spectrum-clause-answers : goal.returns-in_err-told-in-Spectrum-clause-answers
returns-in_err-told-in-Spectrum-clause-answers c =
    let back = err_from_is_err_and c.from_residual-in_err-told-in-Spectrum.result c.from_residual-in_err-told-in-Spectrum.ensures.1 in
    rw c.in-Spectrum.is (refused_line _ _ _ _ (back.1 ∙ ap Err back.2)
    (spectrum_told (bench_of gray_height c.args.self.now.bench) c.args.self.now.element c.in-Spectrum.depth c.in-Spectrum.place c.from-depth.result c.from-place-in-Spectrum.result _ _ c.in_err-told-in-Spectrum.ensures.answers c.from-depth.ensures c.from-place-in-Spectrum.ensures (grind (arith, common_steps))))

pub returns-in_ok-told-in-Spectrum-clause-answers : goal.returns-in_ok-told-in-Spectrum-clause-answers
returns-in_ok-told-in-Spectrum-clause-answers c =
    let entries = c.perform-in-Spectrum.new.call.1.1.1.0 in
    let long : length entries ≡ c.min-written.result = grind (arith, common_steps) in
    rw c.in-Spectrum.is (listed_line (record c.args.list { now = entries }) c.in_ok-told-in-Spectrum.told _ _ _
    (spectrum_told (bench_of gray_height c.args.self.now.bench) c.args.self.now.element c.in-Spectrum.depth c.in-Spectrum.place c.from-depth.result c.from-place-in-Spectrum.result _ _ c.in_ok-told-in-Spectrum.ensures.answers c.from-depth.ensures c.from-place-in-Spectrum.ensures (grind (arith, common_steps)))
    c.tell-in-Spectrum.ensures.numbers (front_so_long entries _ c.split_at_mut-entries.result.1.now c.min-written.result long refl))
