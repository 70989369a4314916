-- The line of a command: a letter, and each number after one blank.
use Rattle.std.specs.Prelude.{◌≡◌, ℕ, ◌≤◌, List, [], ◌∷◌, ◌++◌, decimal}
use Rattle.commands.specs.declared.Command.{Command}
use Rattle.commands.specs.declared.Command.TheVariants.{Begin, Load, Erode, Dilate, Open, Close, Area, Spectrum, End}

-- the letter of a command: V, L, E, D, O, C, A, P or X
abbrev pub letter : Command → ℕ
letter (Begin flat) = 86
letter (Load place) = 76
letter (Erode from to) = 69
letter (Dilate from to) = 68
letter (Open size from to) = 79
letter (Close size from to) = 67
letter (Area place) = 65
letter (Spectrum depth place) = 80
letter End = 88

-- the numbers of a command, in the order of its line
abbrev pub numbers : Command → List ℕ
numbers (Begin flat) = flat ∷ []
numbers (Load place) = place ∷ []
numbers (Erode from to) = from ∷ to ∷ []
numbers (Dilate from to) = from ∷ to ∷ []
numbers (Open size from to) = size ∷ from ∷ to ∷ []
numbers (Close size from to) = size ∷ from ∷ to ∷ []
numbers (Area place) = place ∷ []
numbers (Spectrum depth place) = depth ∷ place ∷ []
numbers End = []

-- each number in decimal after one blank
abbrev pub spaced : List ℕ → List ℕ
spaced [] = []
spaced (n ∷ ns) = 32 ∷ (decimal n ++ spaced ns)

-- the line of a command
abbrev pub command_text : Command → List ℕ
command_text command = letter command ∷ spaced (numbers command)

-- each of the numbers is one that a line can hold
abbrev pub AllInRange : List ℕ → Type 0
AllInRange [] = Unit {0}
AllInRange (n ∷ ns) = (n ≤ 9999) × AllInRange ns

-- the command's numbers are all such
abbrev pub InRange : Command → Type 0
InRange command = AllInRange (numbers command)

-- the lines of commands
abbrev pub Lawful : List ℕ → Type 0
Lawful line = (command : Command) × InRange command × (line ≡ command_text command)
