-- How a line is read, and what holds of that for every line.
use Rattle.std.specs.Prelude.{◌≡◌, ℕ, zero, suc, ◌+◌, ◌-◌, ◌≤◌, cond, List, [], ◌∷◌, length, Some, None, Ok, Err, Option, Result, MatchResult, ◌==◌, slice_index}
use Rattle.text.specs.declared.Misfit.{Misfit}
use Rattle.text.specs.Forms.{Form, nothing, fixed, number, NumbersRead, scan}
use Rattle.text.specs.Misfits.{FirstMisfit}
use Rattle.text.specs.Pieces.{refused_at}
use Rattle.commands.specs.declared.Command.{Command}
use Rattle.commands.specs.declared.Command.TheVariants.{Begin, Load, Erode, Dilate, Open, Close, Area, Spectrum, End}
use Rattle.commands.specs.declared.LineFault.{LineFault}
use Rattle.commands.specs.Lines.{command_text, InRange, Lawful}

-- what follows the letter of a command with so many numbers
abbrev pub arguments : ℕ → Form
arguments zero = nothing
arguments (suc count) = fixed (32 ∷ []) (number 0 (arguments count))

-- the line has these numbers after its letter, and ends; or it is refused where the form does not fit
abbrev pub TellsArguments : ℕ → List ℕ → Result (List ℕ) Misfit → Type 0
TellsArguments count line r =
    MatchResult r (λ ns. scan (arguments count) line 1 ≡ Ok (record { numbers = ns; end = length line }))
    (λ misfit. scan (arguments count) line 1 ≡ Err misfit)

-- a kind of command: how many numbers it has, and the command of them
pub record CommandKind : Type 0 where
  pub count : ℕ
  pub make : List ℕ → Command

-- a kind of command with one number
abbrev pub one : (ℕ → Command) → CommandKind
one make = record { count = 1; make = λ ns. make (slice_index ns 0) }

-- a kind of command with two numbers
abbrev pub two : (ℕ → ℕ → Command) → CommandKind
two make = record { count = 2; make = λ ns. make (slice_index ns 0) (slice_index ns 1) }

-- a kind of command with three numbers
abbrev pub three : (ℕ → ℕ → ℕ → Command) → CommandKind
three make = record { count = 3; make = λ ns. make (slice_index ns 0) (slice_index ns 1) (slice_index ns 2) }

-- the kind that a letter stands for
abbrev pub command_kind : ℕ → Option CommandKind
command_kind l =
    cond (l == 86) (Some (one Begin))
    (cond (l == 76) (Some (one Load))
    (cond (l == 69) (Some (two Erode))
    (cond (l == 68) (Some (two Dilate))
    (cond (l == 79) (Some (three Open))
    (cond (l == 67) (Some (three Close))
    (cond (l == 65) (Some (one Area))
    (cond (l == 80) (Some (two Spectrum))
    (cond (l == 88) (Some (record { count = 0; make = λ _. End }))
    None))))))))

-- the command of what was read after its letter
abbrev pub made : CommandKind → Result NumbersRead Misfit → Result Command Misfit
made k (Ok reading) = Ok (k.make reading.numbers)
made k (Err misfit) = Err misfit

-- the command that a line of this kind tells; a letter of no kind is the first misfit
abbrev pub made_by : Option CommandKind → List ℕ → Result Command Misfit
made_by None line = refused_at 0
made_by (Some k) line = made k (scan (arguments k.count) line 1)

-- the command on a line, or the place of the first misfit, from 0
abbrev pub command_or_misfit : List ℕ → Result Command Misfit
command_or_misfit line = made_by (command_kind (slice_index line 0)) line

-- columns count from 1
abbrev pub by_column : Result Command Misfit → Result Command LineFault
by_column (Ok command) = Ok command
by_column (Err misfit) = Err (record { column = misfit.place + 1 })

-- what a line reads as
abbrev pub read : List ℕ → Result Command LineFault
read line = by_column (command_or_misfit line)

-- every command is read back from its line
abbrev pub ReadsBackLines : Type 0
ReadsBackLines = (command : Command) → InRange command → read (command_text command) ≡ Ok command

-- what is read as a command is exactly that command's line
abbrev pub ReadsOnlyLines : Type 0
ReadsOnlyLines =
    (line : List ℕ) (command : Command) → read line ≡ Ok command → (line ≡ command_text command) × InRange command

-- any other line is refused at its first misfit
abbrev pub RefusesLinesAtMisfit : Type 0
RefusesLinesAtMisfit =
    (line : List ℕ) (fault : LineFault) → read line ≡ Err fault
    → (1 ≤ fault.column) × FirstMisfit Lawful line (fault.column - 1)
