-- The laws of reading a line hold.
use Rattle.commands.proofs.Laws.{reads_back_lines, reads_only_lines, refuses_lines_at_misfit}
use Rattle.commands.proofs.read_line.Goals as goal

pub returns-clause-back : goal.returns-clause-back
returns-clause-back c = reads_back_lines

pub returns-clause-only : goal.returns-clause-only
returns-clause-only c = reads_only_lines

pub returns-clause-misfit : goal.returns-clause-misfit
returns-clause-misfit c = refuses_lines_at_misfit
