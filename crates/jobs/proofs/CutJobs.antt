-- A job beside those whose picture is cut, one for each height. Assumes nothing.
use Rattle.std.proofs.Common.{◌≡◌, ℕ, ◌*◌, Bool, true, false, ◌&&◌, cond, leb, List, [], ◌++◌, drop, length, take, get_or, Ok, Err, Result, sym, refl, ap, ◌∙◌, subst, arith, MatchResult}
use Rattle.std.proofs.lemmas.List.{length-map, drop_at}
use Rattle.commands.specs.Reading.{read}
use Rattle.elements.specs.declared.cards.CardFault.{CardFault}
use Rattle.elements.specs.declared.element.Element.{Element}
use Rattle.faults.specs.declared.JobFault.{JobFault}
use Rattle.faults.specs.declared.JobFault.TheVariants as fault_of
use Rattle.laws.specs.Sums.{HeightsAtMost}
use Rattle.limits.specs.declared.fault.Fault.TheVariants.{Side}
use Rattle.morphology.specs.Cells.{cut}
use Rattle.pictures.specs.declared.Picture.{Picture}
use Rattle.pictures.specs.declared.PictureFault.{PictureFault}
use Rattle.pictures.specs.Headers.{LawfulSide, header}
use Rattle.pictures.specs.Reading as pictures
use Rattle.pictures.proofs.Laws.{reads_back_pictures}
use Rattle.runs.specs.Theorems.{HeightsTo}
use Rattle.jobs.specs.Cards.{card_element}
use Rattle.jobs.specs.Lines.{lines_of}
use Rattle.jobs.specs.Runs.{after_card, job_sizes, opened_bench, prepared, printed_for}
use Rattle.jobs.specs.Theorems.{LineAnswerSum, SumsOfCutJobs}
use Rattle.jobs.proofs.Levels.{heights_back, levels_of}
use Rattle.jobs.proofs.LineRuns.{line_sums, lines_go, start}
use Rattle.jobs.specs.Commands.{answer_at}
use Rattle.jobs.proofs.Printing.{prints_answer}

-- a job is accepted with the picture that its file reads as
picture_read : (c : Result Element CardFault) (r : Result Picture PictureFault) (element : Element) (p : Picture) → after_card c r ≡ Ok (element, p) → r ≡ Ok p
picture_read (Ok e) (Ok q) element p h = ap Ok (small (leb q.width 96 && leb q.height 96) h)
  where
    small : (fits : Bool) → cond {A = Result (Element × Picture) JobFault} fits (Ok (e, q)) (Err (fault_of.Bench Side)) ≡ Ok (element, p) → q ≡ p
    small true same = let pair : ◌≡◌ {A = Element × Picture} (e, q) (element, p) = cc (same) in ap (λ (x : Element × Picture). x.1) pair
    small false same = absurd (let z : ◌≡◌ {A = ℕ} 0 1 = cc in omega arith)
picture_read (Ok e) (Err fault) element p h = absurd (let z : ◌≡◌ {A = ℕ} 0 1 = cc in omega arith)
picture_read (Err fault) r element p h = absurd (let z : ◌≡◌ {A = ℕ} 0 1 = cc in omega arith)

-- a job beside those of its picture cut at each height
module _ (card input : List ℕ) (w h : ℕ) (cells : List ℕ) (wide : LawfulSide w) (tall : LawfulSide h) (long : length cells ≡ w * h) (low : HeightsAtMost 255 cells) where
  -- the picture file of these sides
  abbrev file : List ℕ → List ℕ
  file of = header w h ++ of

  -- a cut picture has as many cells, so that card and file are accepted alike
  cut_long : (a : ℕ) → length (cut a cells) ≡ w * h
  cut_long a = length-map cells (λ x. cond (leb a x) 1 0) ∙ long

  prepared_alike : (a : ℕ) → prepared card (file (cut a cells)) ≡ prepared card (file cells)
  prepared_alike a = ap (after_card (card_element card)) (reads_back_pictures w h (cut a cells) wide tall (cut_long a) ∙ sym (reads_back_pictures w h cells wide tall long))

  module _ (element : Element) (p : Picture) (accepted : prepared card (file cells) ≡ Ok (element, p)) (k : ℕ) where
    -- the cells follow the header
    cells_from : (of : List ℕ) → drop p.start (file of) ≡ of
    cells_from of =
        let is : ◌≡◌ {A = Result Picture PictureFault} (Ok (record { width = w; height = h; start = length (header w h) })) (Ok p)
        = sym (reads_back_pictures w h cells wide tall long) ∙ picture_read (card_element card) (pictures.read (file cells)) element p accepted in
        let same : ◌≡◌ {A = Picture} (record { width = w; height = h; start = length (header w h) }) p = cc (is) in
        drop_at (header w h) of p.start (ap (λ (q : Picture). q.start) same)

    -- the answers to line k sum up
    cells_sum : let b = opened_bench p.width p.height in let lines = lines_of input in
        LineAnswerSum 255 (answer_at element (drop p.start (file cells)) b lines k) (λ a. answer_at element (drop p.start (file (cut a cells))) b lines k)
    cells_sum =
        let b = opened_bench p.width p.height in
        let lines = lines_of input in
        let levels = levels_of 255 cells low in
        let o = job_sizes p.width p.height in
        let height = λ (x : HeightsTo 255). x.0 in
        let back = heights_back 255 cells low in
        subst (λ (x : List ℕ × (ℕ → List ℕ)). LineAnswerSum 255 (answer_at element x.0 b lines k) (λ a. answer_at element (x.1 a) b lines k))
        (λ i. ((back ∙ sym (cells_from cells)) i, λ a. (ap (cut a) back ∙ sym (cells_from (cut a cells))) i))
        (line_sums height 255 (λ x. x.1) element levels o (read (get_or lines k [])) _ _
        (lines_go height 255 (λ x. x.1) element levels o (take k lines) b (λ a. b) (start height 255 (λ x. x.1) element levels o)))

-- a fact by cases of an outcome
by_outcome : {T E : Type 0} (r : Result T E) (P : T → Type 0) (Q : E → Type 0) → ((x : T) → r ≡ Ok x → P x) → ((e : E) → r ≡ Err e → Q e) → MatchResult r P Q
by_outcome (Ok x) P Q accepted refused = accepted x refl
by_outcome (Err e) P Q accepted refused = refused e refl

-- the line of each is printed as its answer
pub sums_of_cut_jobs : SumsOfCutJobs
sums_of_cut_jobs card input w h cells wide tall long low =
    let file = λ (of : List ℕ). header w h ++ of in
    let alike = prepared_alike card input w h cells wide tall long low in
    by_outcome (prepared card (file cells)) _ _
    (λ job accepted k within.
    let answered = λ (of : List ℕ). answer_at job.0 (drop job.1.start (file of)) (opened_bench job.1.width job.1.height) (lines_of input) k in (
      answered cells,
      (λ a. answered (cut a cells)),
      prints_answer card (file cells) input job.0 job.1 accepted k within,
      (λ a _. prints_answer card (file (cut a cells)) input job.0 job.1 (alike a ∙ accepted) k within),
      cells_sum card input w h cells wide tall long low job.0 job.1 accepted k,
    ))
    (λ fault refused a _. ap (λ r. printed_for r (file (cut a cells)) input) (alike a ∙ refused) ∙ sym (ap (λ r. printed_for r (file cells) input) refused))
