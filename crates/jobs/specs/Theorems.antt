-- What holds of every job, told of the lines of its input and of what is printed for them. Here lines count from 0. Assumes nothing.
use Rattle.std.specs.Prelude.{◌≡◌, ℕ, ◌+◌, ◌*◌, ◌<◌, ◌≤◌, List, [], ◌∷◌, ◌++◌, drop, length, Ok, Err, MatchResult, slice_index_or}
use Rattle.commands.specs.declared.Command.TheVariants.{Begin}
use Rattle.commands.specs.Lines.{command_text}
use Rattle.elements.specs.declared.element.Element.{Element}
use Rattle.faults.specs.declared.JobFault.{JobFault}
use Rattle.laws.specs.Sums.{HeightsAtMost, ListSum}
use Rattle.morphology.specs.Cells.{cut}
use Rattle.pictures.specs.declared.Picture.{Picture}
use Rattle.pictures.specs.Headers.{LawfulSide, header}
use Rattle.jobs.specs.Answers.{answer_text}
use Rattle.jobs.specs.Commands.{LineAnswer, answer_at}
use Rattle.jobs.specs.Lines.{lines_of}
use Rattle.jobs.specs.Runs.{opened_bench, prepared, printed}

-- line k of what is printed tells this answer to line k of the input
abbrev pub Prints : List ℕ → List ℕ → List ℕ → ℕ → LineAnswer → Type 0
Prints card file input k answer = slice_index_or (lines_of (printed card file input)) k [] ≡ answer_text (k + 1) answer

-- for one card and one picture file, the same answer is printed to line i of an input and to line k of another
abbrev pub PrintsAlike : List ℕ → List ℕ → List ℕ → ℕ → List ℕ → ℕ → Type 0
PrintsAlike card file one i other k = (answer : LineAnswer) × Prints card file one i answer × Prints card file other k answer

-- One answer a line. An accepted job prints as many lines as its input has, and line k is the answer of the bench that the lines
-- before it leave.
abbrev pub OneAnswerALine : Type 0
OneAnswerALine = (card file input : List ℕ) (element : Element) (p : Picture) → prepared card file ≡ Ok (element, p) →
    let lines = lines_of input in
    let picture = drop p.start file in
    (length (lines_of (printed card file input)) ≡ length lines)
    × ((k : ℕ) → k < length lines → Prints card file input k (answer_at element picture (opened_bench p.width p.height) lines k))

-- An answer beside those of the jobs whose picture is cut, one for each height: the same fault is told in all; or as many numbers are
-- told in all, and each is the sum of those that stand in its place where the picture is cut at 1 to the top.
abbrev pub LineAnswerSum : ℕ → LineAnswer → (ℕ → LineAnswer) → Type 0
LineAnswerSum top (Ok numbers) cuts = (ns : ℕ → List ℕ) × ((a : ℕ) → 1 ≤ a → cuts a ≡ Ok (ns a)) × ListSum top numbers ns
LineAnswerSum top (Err fault) cuts = (a : ℕ) → 1 ≤ a → cuts a ≡ Err fault

-- Sums. Take the same job with its picture cut at each height. Each line is refused in all of them with the same fault, or in none, and
-- then each number told is the sum of those that the jobs cut at 1 to 255 tell. Where card or sides are refused, all print the same.
abbrev pub SumsOfCutJobs : Type 0
SumsOfCutJobs = (card input : List ℕ) (w h : ℕ) (cells : List ℕ) →
    LawfulSide w → LawfulSide h → length cells ≡ w * h → HeightsAtMost 255 cells →
    let file = header w h ++ cells in
    let cut_file = λ (a : ℕ). header w h ++ cut a cells in
    MatchResult (prepared card file)
    (λ _. (k : ℕ) → k < length (lines_of input) → (answer : LineAnswer) × (cuts : ℕ → LineAnswer)
    × Prints card file input k answer × ((a : ℕ) → 1 ≤ a → Prints card (cut_file a) input k (cuts a)) × LineAnswerSum 255 answer cuts)
    (λ _. (a : ℕ) → 1 ≤ a → printed card (cut_file a) input ≡ printed card file input)

-- Forgetting. Where two inputs end with the same lines, from a `V` line on that is accepted in both, these lines get the same answers.
abbrev pub ForgettingJobs : Type 0
ForgettingJobs = (card file one other : List ℕ) (before others last : List (List ℕ)) (flat : ℕ) →
    lines_of one ≡ before ++ (command_text (Begin flat) ∷ last) → lines_of other ≡ others ++ (command_text (Begin flat) ∷ last) →
    Prints card file one (length before) (Ok []) → Prints card file other (length others) (Ok []) →
    (k : ℕ) → k ≤ length last → PrintsAlike card file one (length before + k) other (length others + k)

-- A line that is refused changes nothing: without it, the lines before it and those after it get the same answers.
abbrev pub RefusedLinesChangeNothing : Type 0
RefusedLinesChangeNothing = (card file one other : List ℕ) (before rest : List (List ℕ)) (line : List ℕ) (fault : JobFault) →
    lines_of one ≡ before ++ (line ∷ rest) → lines_of other ≡ before ++ rest →
    Prints card file one (length before) (Err fault) →
    ((k : ℕ) → k < length before → PrintsAlike card file one k other k)
    × ((k : ℕ) → k < length rest → PrintsAlike card file one (length before + 1 + k) other (length before + k))
