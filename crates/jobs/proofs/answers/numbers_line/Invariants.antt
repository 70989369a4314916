use Rattle.std.proofs.Common.{◌≡◌, ◌++◌, take, codes, string_bytes}
use Rattle.commands.specs.Lines.{spaced}
use Rattle.jobs.proofs.answers.numbers_line.Given as goal

-- The numbers so far are printed.
abbrev pub invariant-loop-number : goal.invariant-loop-number
invariant-loop-number l = string_bytes l.text ≡ codes "=" ++ spaced (take l.number-index l.numbers)
