use Rattle.std.proofs.Common.{length, ap, ◌∙◌, inl, arith}
use Rattle.std.specs.Iterator.Adapters.{enumerate_source, enumerate_count}
use Rattle.std.specs.declared.iter.Enumerate.{Enumerate}
use Rattle.jobs.specs.declared.lines.Lines.{Lines}
use Rattle.jobs.specs.Lines.{lines_of}
use Rattle.jobs.proofs.Splitting.{lines_within}
use Rattle.jobs.proofs.run.run_lines.Goals as goal

pub loop-index-init-derived : goal.loop-index-init-derived
loop-index-init-derived c =
    let start = c.into_iter-index-iterator.ensures.into_iter_gives in
    let items = c.enumerate-index-items.ensures in
    let none = ap enumerate_count start ∙ items.count in
    let all = ap (λ (s : Enumerate Lines). length (lines_of (enumerate_source s).0.now)) start ∙ ap (λ (s : Lines). length (lines_of s.0.now)) items.source in
    ((tt, tt, inl (omega (arith, none, all, lines_within c.args.input.now))), tt)
