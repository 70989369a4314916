-- The lines of a job are a run of calls, and those of the jobs cut at each height are the same run on masks. Assumes nothing.
use Rattle.std.proofs.Common.{◌≡◌, ℕ, ◌+◌, ◌≤◌, List, [], ◌∷◌, ◌++◌, map, Ok, Err, Result, sym, refl, ap, ◌∙◌, subst}
use Rattle.commands.specs.declared.Command.{Command}
use Rattle.commands.specs.declared.Command.TheVariants as commands
use Rattle.commands.specs.declared.LineFault.{LineFault}
use Rattle.commands.specs.Reading.{read}
use Rattle.elements.specs.declared.element.Element.{Element}
use Rattle.laws.specs.Sums.{ListSum}
use Rattle.laws.proofs.Sums.{list_fold_none, list_fold_one, list_fold_same}
use Rattle.limits.specs.declared.fault.Fault.{Fault}
use Rattle.morphology.specs.Cells.{cut}
use Rattle.model.specs.Calls.{Begin, Call, Told, NothingTold, SlipTold, RoundsTold, AreaTold, SpanTold, SpectrumTold, SkeletonTold, SheetTold, TallyTold, with_picture}
use Rattle.model.specs.Steps.{Bench, BenchSizes, answer, bench_opened, step, with_rack}
use Rattle.runs.specs.Sums.{AnswerSum, ToldSum}
use Rattle.runs.specs.Theorems.{bench_after, cut_at, in_heights, mask_bench_after}
use Rattle.runs.proofs.RunLaws.{mask_sums}
use Rattle.in_use.specs.InUse.{open_flat}
use Rattle.in_use.proofs.Kept.{one_more}
use Rattle.jobs.specs.Commands.{LineAnswer, answer_to, call_of, leaves_after, lines_leave, numbers_told, told_on_line}
use Rattle.jobs.specs.Theorems.{LineAnswerSum}

-- the call of a command with something else made of its picture is that with what is made of the picture
call_kept : {X Y : Type 0} (change : List X → List Y) (element : Element) (picture : List X) (flat : ℕ) (command : Command)
    → with_picture change (call_of element picture flat command) ≡ call_of element (change picture) flat command
call_kept change element picture flat commands.End = refl
call_kept change element picture flat command = refl

-- the flat is told from the rack's outline
flat_of_outline : (b c : Bench) → b.rack.outline ≡ c.rack.outline → open_flat b ≡ open_flat c
flat_of_outline b c same = ap (λ outline. open_flat (with_rack b (record { outline = outline; content = b.rack.content }))) same

-- the numbers that calls tell sum up as what they tell does
no_numbers : (top : ℕ) (tolds : ℕ → Told) → ((a : ℕ) → 1 ≤ a → numbers_told (tolds a) ≡ []) → ListSum top [] (λ a. numbers_told (tolds a))
no_numbers top tolds none = list_fold_same ◌+◌ 0 top [] (λ a. []) (λ a. numbers_told (tolds a)) (λ a low. sym (none a low)) (list_fold_none ◌+◌ 0 refl top)

numbers_sum : (top : ℕ) (told : Told) (tolds : ℕ → Told) → ToldSum top told tolds → ListSum top (numbers_told told) (λ a. numbers_told (tolds a))
numbers_sum top NothingTold tolds are = no_numbers top tolds (λ a low. ap numbers_told (are a low))
numbers_sum top (SlipTold flat) tolds are = no_numbers top tolds (λ a low. ap numbers_told (are a low))
numbers_sum top (RoundsTold n) tolds sum = no_numbers top tolds (λ a low. ap numbers_told (sum.1 a low))
numbers_sum top (AreaTold n) tolds sum =
    list_fold_same ◌+◌ 0 top (n ∷ []) (λ a. sum.0 a ∷ []) (λ a. numbers_told (tolds a)) (λ a low. sym (ap numbers_told (sum.1 a low))) (list_fold_one ◌+◌ 0 refl top n sum.0 sum.2)
numbers_sum top (SpanTold least greatest) tolds sum = no_numbers top tolds (λ a low. ap numbers_told (sum.2 a low))
numbers_sum top (SpectrumTold ns) tolds sum =
    list_fold_same ◌+◌ 0 top ns sum.0 (λ a. numbers_told (tolds a)) (λ a low. sym (ap numbers_told (sum.1 a low))) sum.2
numbers_sum top (SkeletonTold ns) tolds sum = no_numbers top tolds (λ a low. ap numbers_told (sum.1 a low))
numbers_sum top (SheetTold f) tolds are = no_numbers top tolds (λ a low. ap numbers_told (are a low))
numbers_sum top (TallyTold t) tolds sum = no_numbers top tolds (λ a low. ap numbers_told (sum.1 a low))

-- and so the answers to lines do
answers_sum : (top : ℕ) (told : Result Told Fault) (tolds : ℕ → Result Told Fault) → AnswerSum top told tolds
    → (cuts : ℕ → LineAnswer) → ((a : ℕ) → 1 ≤ a → cuts a ≡ told_on_line (tolds a)) → LineAnswerSum top (told_on_line told) cuts
answers_sum top (Ok told) tolds sum cuts are =
    ((λ a. numbers_told (sum.0 a)), (λ a low. are a low ∙ ap told_on_line (sum.1 a low)), numbers_sum top told sum.0 sum.2)
answers_sum top (Err fault) tolds refused cuts are = λ a low. are a low ∙ ap told_on_line (refused a low)

module _ {X : Type 0} (height : X → ℕ) (top : ℕ) (bounded : (x : X) → height x ≤ top) (element : Element) (levels : List X) (o : BenchSizes) where
  -- a bench, and those of the cut jobs, that one run of calls reaches
  pub record OneRun (b : Bench) (cuts : ℕ → Bench) : Type 0 where
    pub calls : List (Call X)
    pub is : b ≡ bench_after height o calls
    pub are : (a : ℕ) → 1 ≤ a → cuts a ≡ mask_bench_after height a o calls

  -- A command on them all: the slips at hand are of one flat, since all benches have the same visit.
  module _ (command : Command) (b : Bench) (cuts : ℕ → Bench) (run : OneRun b cuts) where
    -- the call, in heights and cut
    the_call : Call X
    the_call = call_of element levels (open_flat b) command

    called : in_heights height the_call ≡ call_of element (map height levels) (open_flat b) command
    unfolding the_call
    called = call_kept (map height) element levels (open_flat b) command

    cut_called : (a : ℕ) → 1 ≤ a → cut_at height a the_call ≡ call_of element (cut a (map height levels)) (open_flat (cuts a)) command
    unfolding the_call
    cut_called a low =
        let same = (mask_sums height top bounded o (λ a. o) (λ a low. record { rack = refl; slate = refl }) run.calls (Begin 0)).0.rack a low in
        let flats : open_flat (cuts a) ≡ open_flat b = ap open_flat (run.are a low) ∙ flat_of_outline (mask_bench_after height a o run.calls) (bench_after height o run.calls) same ∙ sym (ap open_flat run.is) in
        call_kept (λ picture. cut a (map height picture)) element levels (open_flat b) command
        ∙ ap (λ flat. call_of element (cut a (map height levels)) flat command) (sym flats)

    -- the run goes on with it
    command_goes : OneRun (leaves_after element (map height levels) b (Ok command)) (λ a. leaves_after element (cut a (map height levels)) (cuts a) (Ok command))
    command_goes = record {
      calls = run.calls ++ (the_call ∷ []);
      is = (λ i. step (run.is i) (sym called i)) ∙ one_more (in_heights height) (bench_opened o) run.calls the_call;
      are = λ a low. (λ i. step (run.are a low i) (sym (cut_called a low) i)) ∙ one_more (cut_at height a) (bench_opened o) run.calls the_call;
    }

    -- its answers sum up, by the theorem on runs
    command_sums : LineAnswerSum top (answer_to element (map height levels) b (Ok command)) (λ a. answer_to element (cut a (map height levels)) (cuts a) (Ok command))
    command_sums =
        let sums = (mask_sums height top bounded o (λ a. o) (λ a low. record { rack = refl; slate = refl }) run.calls the_call).1 in
        let told : answer (bench_after height o run.calls) (in_heights height the_call) ≡ answer b (call_of element (map height levels) (open_flat b) command)
        = λ i. answer (sym run.is i) (called i) in
        answers_sum top _ (λ a. answer (mask_bench_after height a o run.calls) (cut_at height a the_call))
        (subst (λ x. AnswerSum top x (λ a. answer (mask_bench_after height a o run.calls) (cut_at height a the_call))) told sums)
        (λ a. answer_to element (cut a (map height levels)) (cuts a) (Ok command))
        (λ a low. λ i. told_on_line (answer (run.are a low i) (sym (cut_called a low) i)))

  -- a line that is no command changes nothing and is refused in all
  line_goes : (r : Result Command LineFault) (b : Bench) (cuts : ℕ → Bench) → OneRun b cuts
      → OneRun (leaves_after element (map height levels) b r) (λ a. leaves_after element (cut a (map height levels)) (cuts a) r)
  line_goes (Ok command) b cuts run = command_goes command b cuts run
  line_goes (Err fault) b cuts run = run

  pub line_sums : (r : Result Command LineFault) (b : Bench) (cuts : ℕ → Bench) → OneRun b cuts
      → LineAnswerSum top (answer_to element (map height levels) b r) (λ a. answer_to element (cut a (map height levels)) (cuts a) r)
  line_sums (Ok command) b cuts run = command_sums command b cuts run
  line_sums (Err fault) b cuts run = λ a low. refl

  -- so the lines before any line are one run
  pub lines_go : (lines : List (List ℕ)) (b : Bench) (cuts : ℕ → Bench) → OneRun b cuts
      → OneRun (lines_leave element (map height levels) b lines) (λ a. lines_leave element (cut a (map height levels)) (cuts a) lines)
  lines_go [] b cuts run = run
  lines_go (line ∷ lines) b cuts run = lines_go lines _ _ (line_goes (read line) b cuts run)

  -- no line has been obeyed yet
  pub start : OneRun (bench_opened o) (λ a. bench_opened o)
  start = record { calls = []; is = refl; are = λ a low. refl }
