use Rattle.std.proofs.Common.{append_assoc, arith}
use Rattle.std.proofs.lemmas.Grind.{common_steps}
use Rattle.jobs.proofs.Tellings.{spaced_more}
use Rattle.jobs.proofs.answers.numbers_line.Goals as goal

pub loop-number-preserved : goal.loop-number-preserved
loop-number-preserved c =
    let more = spaced_more c.args.numbers.now c.loop-number.number-index (omega arith) in
    grind (arith, common_steps, append_assoc)
