-- The laws of reading a picture file hold, and a picture that was read fills its file.
use Rattle.std.proofs.Common.{rules}
use Rattle.pictures.proofs.Laws.{fills_file, reads_back_pictures, reads_only_pictures, refuses_what_is_wrong}
use Rattle.pictures.proofs.read_picture.Goals as goal

pub returns-in_err-header-clause-back : goal.returns-in_err-header-clause-back
returns-in_err-header-clause-back c = reads_back_pictures

pub returns-in_err-header-clause-only : goal.returns-in_err-header-clause-only
returns-in_err-header-clause-only c = reads_only_pictures

pub returns-in_err-header-clause-wrong : goal.returns-in_err-header-clause-wrong
returns-in_err-header-clause-wrong c = refuses_what_is_wrong

pub returns-clause-within : goal.returns-clause-within
returns-clause-within c = search (rules, fills_file)

pub returns-clause-back : goal.returns-clause-back
returns-clause-back c = reads_back_pictures

pub returns-clause-only : goal.returns-clause-only
returns-clause-only c = reads_only_pictures

pub returns-clause-wrong : goal.returns-clause-wrong
returns-clause-wrong c = refuses_what_is_wrong
