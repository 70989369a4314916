-- The call on the bench that a command stands for, and what a line answers and leaves. Assumes nothing.
use Rattle.std.specs.Prelude.{ℕ, ◌+◌, ◌*◌, List, [], ◌∷◌, take, Ok, Err, Result, slice_index_or}
use Rattle.std.specs.Result.{result_map_both}
use Rattle.elements.specs.declared.element.Element.{Element}
use Rattle.commands.specs.declared.Command.{Command}
use Rattle.commands.specs.declared.Command.TheVariants.{Begin, Load, Erode, Dilate, Open, Close, Area, Spectrum, End}
use Rattle.commands.specs.declared.LineFault.{LineFault}
use Rattle.commands.specs.Reading.{read}
use Rattle.limits.specs.declared.fault.Fault.{Fault}
use Rattle.faults.specs.declared.JobFault.{JobFault}
use Rattle.faults.specs.declared.JobFault.TheVariants as fault_of
use Rattle.in_use.specs.InUse.{open_flat}
use Rattle.model.specs.Calls as calls
use Rattle.model.specs.Calls.{Call, Told, AreaTold, SpectrumTold}
use Rattle.model.specs.Steps.{Bench, answer, step}

-- the call that a command stands for, with the card's element, the job's picture, and the flat of the slip at hand; a spectrum is written
-- to a list of its own length
abbrev pub call_of : {X : Type 0} → Element → List X → ℕ → Command → Call X
call_of element picture on_slip (Begin flat) = calls.Begin flat
call_of element picture on_slip (Load place) = calls.Load place picture
call_of element picture on_slip (Erode from to) = calls.Erode element from to
call_of element picture on_slip (Dilate from to) = calls.Dilate element from to
call_of element picture on_slip (Open size from to) = calls.Open element size from to
call_of element picture on_slip (Close size from to) = calls.Close element size from to
call_of element picture on_slip (Area place) = calls.Area place
call_of element picture on_slip (Spectrum depth place) = calls.Spectrum element depth place (2 * depth + 1)
call_of element picture on_slip End = calls.End on_slip

-- the numbers that a line tells of what its call tells: an area, or the entries and the rest of a spectrum
abbrev pub numbers_told : Told → List ℕ
numbers_told (AreaTold area) = area ∷ []
numbers_told (SpectrumTold entries) = entries
numbers_told told = []

-- the answer to a line: the numbers that it tells, or a fault
abbrev pub LineAnswer : Type 0
LineAnswer = Result (List ℕ) JobFault

-- the answer to a line by the answer of its call
abbrev pub told_on_line : Result Told Fault → LineAnswer
told_on_line = result_map_both numbers_told fault_of.Bench

-- what a line answers: a line that is no command is refused
abbrev pub answer_to : Element → List ℕ → Bench → Result Command LineFault → LineAnswer
answer_to element picture b (Ok command) = told_on_line (answer b (call_of element picture (open_flat b) command))
answer_to element picture b (Err fault) = Err (fault_of.Line fault)

abbrev pub line_answer : Element → List ℕ → Bench → List ℕ → LineAnswer
line_answer element picture b line = answer_to element picture b (read line)

-- what a line leaves of the bench: a line that is no command leaves it as it is
abbrev pub leaves_after : Element → List ℕ → Bench → Result Command LineFault → Bench
leaves_after element picture b (Ok command) = step b (call_of element picture (open_flat b) command)
leaves_after element picture b (Err fault) = b

abbrev pub line_leaves : Element → List ℕ → Bench → List ℕ → Bench
line_leaves element picture b line = leaves_after element picture b (read line)

-- what some lines leave of the bench, one after another
abbrev pub lines_leave : Element → List ℕ → Bench → List (List ℕ) → Bench
lines_leave element picture b [] = b
lines_leave element picture b (line ∷ lines) = lines_leave element picture (line_leaves element picture b line) lines

-- the answer to line k of some lines, by the bench that the lines before it leave
abbrev pub answer_at : Element → List ℕ → Bench → List (List ℕ) → ℕ → LineAnswer
answer_at element picture b lines k = line_answer element picture (lines_leave element picture b (take k lines)) (slice_index_or lines k [])
