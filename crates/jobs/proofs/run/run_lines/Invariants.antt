use Rattle.std.proofs.Common.{◌≡◌, ◌+◌, ◌++◌, map, length, string_bytes}
use Rattle.std.specs.Iterator.Adapters.{enumerate_source, enumerate_count}
use Rattle.levels.specs.Gray.{gray_height}
use Rattle.in_use.specs.InUse.{bench_of}
use Rattle.jobs.specs.Lines.{lines_of}
use Rattle.jobs.specs.Runs.{printed_lines}
use Rattle.jobs.proofs.run.run_lines.Given as goal

-- What is printed and what is still to come is what the whole input prints.
abbrev pub invariant-loop-index : goal.invariant-loop-index
invariant-loop-index l =
    let k = enumerate_count l.index-iterator in
    let lines = lines_of (enumerate_source l.index-iterator).0.now in
    record {
      numbered : k + length lines ≡ length (lines_of l.input);
      room : length l.list ≡ 129;
      element : l.job.element ≡ l.initial.job.element;
      picture : l.job.picture.now ≡ l.initial.job.picture.now;
      printed :
          string_bytes l.out ++ printed_lines l.initial.job.element (map gray_height l.initial.job.picture.now) (bench_of gray_height l.job.bench) (k + 1) lines
          ≡ printed_lines l.initial.job.element (map gray_height l.initial.job.picture.now) (bench_of gray_height l.initial.job.bench) 1 (lines_of l.input);
    }
