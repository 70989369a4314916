-- One answer a line, forgetting, and that a line that is refused changes nothing. Assumes nothing.
use Rattle.std.proofs.Common.{◌≡◌, ℕ, suc, ◌+◌, ◌<◌, List, [], ◌∷◌, ◌++◌, drop, length, get_or, Some, None, Ok, Err, Option, Result, sym, refl, ap, ◌∙◌, subst, arith}
use Rattle.std.proofs.lemmas.List.{length-append}
use Rattle.commands.specs.declared.Command.{Command}
use Rattle.commands.specs.declared.Command.TheVariants as commands
use Rattle.commands.specs.declared.LineFault.{LineFault}
use Rattle.commands.specs.Lines.{command_text}
use Rattle.commands.specs.Reading.{arguments, by_column, made, one, read}
use Rattle.elements.specs.declared.element.Element.{Element}
use Rattle.faults.specs.declared.JobFault.{JobFault}
use Rattle.limits.specs.declared.fault.Fault.{Fault}
use Rattle.limits.specs.Faults.{tells}
use Rattle.pictures.specs.declared.Picture.{Picture}
use Rattle.text.specs.declared.Misfit.{Misfit}
use Rattle.text.specs.Forms.{NumbersRead, scan}
use Rattle.model.specs.Calls.{Begin, SlipTold, Told}
use Rattle.model.specs.Steps.{Bench, BenchSizes, answer, bench_opened}
use Rattle.runs.specs.Theorems.{HeightsTo}
use Rattle.runs.proofs.FirstInOrder.{refusals_leave_the_bench}
use Rattle.runs.proofs.RunLaws.{begun_same}
use Rattle.jobs.specs.Answers.{answer_text}
use Rattle.in_use.specs.InUse.{open_flat}
use Rattle.jobs.specs.Commands.{LineAnswer, answer_at, answer_to, call_of, leaves_after, line_answer, lines_leave, told_on_line}
use Rattle.jobs.specs.Lines.{lines_of}
use Rattle.jobs.specs.Runs.{job_sizes, opened_bench, prepared}
use Rattle.jobs.specs.Theorems.{ForgettingJobs, OneAnswerALine, PrintsAlike, Prints, RefusedLinesChangeNothing}
use Rattle.jobs.proofs.Levels.{heights_back, levels_of, topped}
use Rattle.jobs.proofs.LineRuns.{lines_go, start}
use Rattle.jobs.proofs.Printing.{answer_after, answer_within, is_accepted, is_refused, job_accepted, one_for_each, prints_answer}

-- each line is printed as its answer
pub one_answer_a_line : OneAnswerALine
one_answer_a_line card file input element p accepted = (one_for_each card file input element p accepted, prints_answer card file input element p accepted)

-- two inputs for a card and a picture that are accepted: where the answers are the same, they are printed alike
module _ (card file one other : List ℕ) (element : Element) (p : Picture) (accepted : prepared card file ≡ Ok (element, p)) where
  alike : (i k : ℕ) → i < length (lines_of one) → k < length (lines_of other) → let b = opened_bench p.width p.height in
      answer_at element (drop p.start file) b (lines_of one) i ≡ answer_at element (drop p.start file) b (lines_of other) k → PrintsAlike card file one i other k
  alike i k here there same = (
    answer_at element (drop p.start file) (opened_bench p.width p.height) (lines_of other) k,
    subst (λ answer. Prints card file one i answer) same (prints_answer card file one element p accepted i here),
    prints_answer card file other element p accepted k there,
  )

module _ (element : Element) (picture : List ℕ) where
  -- a line that is refused leaves the bench, since its call is refused or it is no command
  call_refused : (r : Result Told Fault) (fault : JobFault) → told_on_line r ≡ Err fault → (f : Fault) × (r ≡ Err f)
  call_refused (Ok told) fault h = absurd (let z : ◌≡◌ {A = ℕ} 0 1 = cc in omega arith)
  call_refused (Err f) fault h = (f, refl)

  refused_leaves : (b : Bench) (r : Result Command LineFault) (fault : JobFault) → answer_to element picture b r ≡ Err fault → leaves_after element picture b r ≡ b
  refused_leaves b (Ok command) fault h =
      let call = call_of element picture (open_flat b) command in
      let refused = call_refused (answer b call) fault h in
      refusals_leave_the_bench b call refused.0 refused.1
  refused_leaves b (Err f) fault h = refl

  -- benches that lines leave are the same where a begin is accepted on both
  begin_same : (o : BenchSizes) (before others : List (List ℕ)) (flat : ℕ) →
      let b = lines_leave element picture (bench_opened o) before in
      let c = lines_leave element picture (bench_opened o) others in
      answer b (Begin flat) ≡ Ok (SlipTold flat) → answer c (Begin flat) ≡ Ok (SlipTold flat) → b ≡ c
  begin_same o before others flat =
      let top = (topped picture).0 in
      let levels = levels_of top picture (topped picture).1 in
      let height = λ (x : HeightsTo top). x.0 in
      let run = λ (lines : List (List ℕ)). lines_go height top (λ x. x.1) element levels o lines (bench_opened o) (λ a. bench_opened o) (start height top (λ x. x.1) element levels o) in
      subst (λ heights. let b = lines_leave element heights (bench_opened o) before in
      let c = lines_leave element heights (bench_opened o) others in
      answer b (Begin flat) ≡ Ok (SlipTold flat) → answer c (Begin flat) ≡ Ok (SlipTold flat) → b ≡ c)
      (heights_back top picture (topped picture).1)
      (λ one two. (run before).is
      ∙ begun_same height top (λ x. x.1) o o (record { rack = refl; slate = refl }) (run before).calls (run others).calls flat
      (subst (λ x. answer x (Begin flat) ≡ Ok (SlipTold flat)) (run before).is one) (subst (λ x. answer x (Begin flat) ≡ Ok (SlipTold flat)) (run others).is two)
      ∙ sym (run others).is)

  -- a `V` line that is accepted is such a begin
  slip_told : (o : Option Fault) (flat : ℕ) (ns : List ℕ) → told_on_line (tells o (SlipTold flat)) ≡ Ok ns → tells o (SlipTold flat) ≡ Ok (SlipTold flat)
  slip_told None flat ns h = refl
  slip_told (Some fault) flat ns h = absurd (let z : ◌≡◌ {A = ℕ} 0 1 = cc in omega arith)

  begun : (o : BenchSizes) (before others : List (List ℕ)) (r : Result NumbersRead Misfit) (ns ms : List ℕ) →
      let line = by_column (made (one commands.Begin) r) in
      let b = lines_leave element picture (bench_opened o) before in
      let c = lines_leave element picture (bench_opened o) others in
      answer_to element picture b line ≡ Ok ns → answer_to element picture c line ≡ Ok ms → b ≡ c
  begun o before others (Ok reading) ns ms here there =
      begin_same o before others (get_or reading.numbers 0 0) (slip_told _ _ ns here) (slip_told _ _ ms there)
  begun o before others (Err misfit) ns ms here there = absurd (let z : ◌≡◌ {A = ℕ} 0 1 = cc in omega arith)

-- a line behind some others
module _ (card file input : List ℕ) (before rest : List (List ℕ)) (line : List ℕ) (is : lines_of input ≡ before ++ (line ∷ rest)) where
  -- how many lines there are
  long : length (lines_of input) ≡ length before + suc (length rest)
  long = ap length is ∙ length-append before (line ∷ rest)

  module _ (element : Element) (p : Picture) (accepted : prepared card file ≡ Ok (element, p)) where
    -- the answers from there on are those of the bench that the lines before it leave
    behind : (k : ℕ) → answer_at element (drop p.start file) (opened_bench p.width p.height) (lines_of input) (length before + k)
        ≡ answer_at element (drop p.start file) (lines_leave element (drop p.start file) (opened_bench p.width p.height) before) (line ∷ rest) k
    behind k = ap (λ lines. answer_at element (drop p.start file) (opened_bench p.width p.height) lines (length before + k)) is
        ∙ answer_after element (drop p.start file) (opened_bench p.width p.height) before (line ∷ rest) (length before + k) k refl

    -- its text is that of the answer that it prints
    same_text : (answer : LineAnswer) → Prints card file input (length before) answer
        → answer_text (length before + 1) (line_answer element (drop p.start file) (lines_leave element (drop p.start file) (opened_bench p.width p.height) before) line) ≡ answer_text (length before + 1) answer
    same_text answer prints =
        let zero_behind : length before + 0 ≡ length before = omega arith in
        ap (answer_text (length before + 1)) (sym (behind 0) ∙ ap (answer_at element (drop p.start file) (opened_bench p.width p.height) (lines_of input)) zero_behind)
        ∙ sym (prints_answer card file input element p accepted (length before) (omega (arith, long))) ∙ prints

-- the two benches are the same behind the `V` line's place, and so all that follows is
pub forgetting_jobs : ForgettingJobs
forgetting_jobs card file one other before others last flat is_one is_other here there k within =
    let v = command_text (commands.Begin flat) in
    let accepted = job_accepted (prepared card file) file one (length before) (Ok []) here in
    let element = accepted.0.0 in
    let p = accepted.0.1 in
    let picture = drop p.start file in
    let first = is_accepted (length before + 1) _ [] (same_text card file one before last v is_one element p accepted.1 (Ok []) here) in
    let second = is_accepted (length others + 1) _ [] (same_text card file other others last v is_other element p accepted.1 (Ok []) there) in
    let same = begun element picture (job_sizes p.width p.height) before others (scan (arguments 1) v 1) first.0 second.0 first.1 second.1 in
    alike card file one other element p accepted.1 (length before + k) (length others + k)
    (omega (arith, long card file one before last v is_one)) (omega (arith, long card file other others last v is_other))
    (behind card file one before last v is_one element p accepted.1 k
    ∙ ap (λ b. answer_at element picture b (v ∷ last) k) same
    ∙ sym (behind card file other others last v is_other element p accepted.1 k))

-- the bench behind the line is that before it
pub refused_lines_change_nothing : RefusedLinesChangeNothing
refused_lines_change_nothing card file one other before rest line fault is_one is_other prints =
    let accepted = job_accepted (prepared card file) file one (length before) (Err fault) prints in
    let element = accepted.0.0 in
    let p = accepted.0.1 in
    let picture = drop p.start file in
    let opened = opened_bench p.width p.height in
    let refused = is_refused (length before + 1) _ fault (same_text card file one before rest line is_one element p accepted.1 (Err fault) prints) in
    let left = refused_leaves element picture (lines_leave element picture opened before) (read line) refused.0 refused.1 in
    let one_long = long card file one before rest line is_one in
    let other_long : length (lines_of other) ≡ length before + length rest = ap length is_other ∙ length-append before rest in (
      (λ k within. alike card file one other element p accepted.1 k k (omega (arith, one_long)) (omega (arith, other_long))
          (ap (λ lines. answer_at element picture opened lines k) is_one ∙ answer_within element picture opened before (line ∷ rest) k within
          ∙ sym (answer_within element picture opened before rest k within) ∙ sym (ap (λ lines. answer_at element picture opened lines k) is_other))),
      (λ k within. alike card file one other element p accepted.1 (length before + 1 + k) (length before + k) (omega (arith, one_long)) (omega (arith, other_long))
          (ap (λ lines. answer_at element picture opened lines (length before + 1 + k)) is_one
          ∙ answer_after element picture opened before (line ∷ rest) (length before + 1 + k) (suc k) (omega arith)
          ∙ ap (λ b. answer_at element picture b rest k) left
          ∙ sym (answer_after element picture opened before rest (length before + k) k refl) ∙ sym (ap (λ lines. answer_at element picture opened lines (length before + k)) is_other))),
    )
