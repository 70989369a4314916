-- The run of a job: what is printed for the bytes of a card, a picture file and job lines. Assumes nothing.
use Rattle.std.specs.Prelude.{ℕ, ◌+◌, ◌*◌, cond, ◌&&◌, List, [], ◌∷◌, ◌++◌, codes, drop, Ok, Err, Result, nat_le}
use Rattle.elements.specs.declared.cards.CardFault.{CardFault}
use Rattle.elements.specs.declared.element.Element.{Element}
use Rattle.pictures.specs.declared.Picture.{Picture}
use Rattle.pictures.specs.declared.PictureFault.{PictureFault}
use Rattle.pictures.specs.Reading.{read}
use Rattle.limits.specs.declared.fault.Fault.TheVariants.{Side}
use Rattle.faults.specs.declared.JobFault.{JobFault}
use Rattle.faults.specs.declared.JobFault.TheVariants as fault_of
use Rattle.model.specs.Steps.{Bench, BenchSizes, bench_opened}
use Rattle.jobs.specs.Answers.{answer_text}
use Rattle.jobs.specs.Cards.{card_element}
use Rattle.jobs.specs.Commands.{line_answer, line_leaves}
use Rattle.jobs.specs.Lines.{lines_of}

-- Card, picture and sides, in this order: the element and the picture, or the first fault. The program's sides are at most 96.
abbrev pub small_enough : Element → Picture → Result (Element × Picture) JobFault
small_enough element p = cond (nat_le p.width 96 && nat_le p.height 96) (Ok (element, p)) (Err (fault_of.Bench Side))

abbrev pub after_picture : Element → Result Picture PictureFault → Result (Element × Picture) JobFault
after_picture element (Ok p) = small_enough element p
after_picture element (Err fault) = Err (fault_of.Picture fault)

abbrev pub after_card : Result Element CardFault → Result Picture PictureFault → Result (Element × Picture) JobFault
after_card (Ok element) picture = after_picture element picture
after_card (Err fault) picture = Err (fault_of.Card fault)

abbrev pub prepared : List ℕ → List ℕ → Result (Element × Picture) JobFault
prepared card file = after_card (card_element card) (read file)

-- the sizes of a job's bench: four sheet places and one tally, with just the memory that they need
abbrev pub job_sizes : ℕ → ℕ → BenchSizes
job_sizes w h = record {
  rack = record { w = w; h = h; places = 4; memory = 6 * (w * h) };
  slate = record { w = w; h = h; places = 1; memory = w * h };
}

-- the bench as it opens
abbrev pub opened_bench : ℕ → ℕ → Bench
opened_bench w h = bench_opened (job_sizes w h)

-- what is printed for the lines from line number k on: the answer to each, and a newline
abbrev pub printed_lines : Element → List ℕ → Bench → ℕ → List (List ℕ) → List ℕ
printed_lines element picture b k [] = []
printed_lines element picture b k (line ∷ lines) =
    answer_text k (line_answer element picture b line)
    ++ (codes "\n" ++ printed_lines element picture (line_leaves element picture b line) (k + 1) lines)

-- what is printed: for each line its answer, or the fault of card, picture or sides alone, with line 0
abbrev pub printed_for : Result (Element × Picture) JobFault → List ℕ → List ℕ → List ℕ
printed_for (Ok (element, p)) file input =
    printed_lines element (drop p.start file) (opened_bench p.width p.height) 1 (lines_of input)
printed_for (Err fault) file input = answer_text 0 (Err fault) ++ codes "\n"

abbrev pub printed : List ℕ → List ℕ → List ℕ → List ℕ
printed card file input = printed_for (prepared card file) file input
