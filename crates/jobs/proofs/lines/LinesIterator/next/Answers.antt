use Rattle.std.proofs.Common.{◌<◌, length, arith, rules}
use Rattle.std.proofs.lemmas.Bool.Decides.{nat_tests}
use Rattle.jobs.proofs.Splitting.{next_line}
use Rattle.jobs.proofs.lines.LinesIterator.next.Goals as goal

pub returns-clause-steps : goal.returns-clause-steps
returns-clause-steps c =
    let some : 0 < length c.args.self.now.0.now = grind (arith, nat_tests) in
    next_line c.args.self.now.0.now _ _ _ _ some c.line_end.ensures.first c.split_at.ensures.front c.split_at.ensures.back c.min.ensures

pub returns-clause-goes : goal.returns-clause-goes
returns-clause-goes c =
    let some : 0 < length c.args.self.now.0.now = grind (arith, nat_tests) in
    let line = next_line c.args.self.now.0.now _ _ _ _ some c.line_end.ensures.first c.split_at.ensures.front c.split_at.ensures.back c.min.ensures in
    search rules
