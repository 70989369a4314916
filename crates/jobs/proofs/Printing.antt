-- What is printed holds one line for each line of the input, the text of its answer. Assumes nothing.
use Rattle.std.proofs.Common.{◌≡◌, ℕ, zero, suc, ◌+◌, ◌/◌, ◌%◌, ◌<◌, Bool, true, false, cond, eqb, List, [], ◌∷◌, ◌++◌, drop, length, get_or, Ok, Err, decimal, Result, refl, ap, ◌∙◌, sym, arith}
use Rattle.std.proofs.lemmas.Bool.Decides.{nat_tests}
use Rattle.std.proofs.lemmas.Bool.{cond-false}
use Rattle.std.proofs.lemmas.Fmt.{decimal_digit}
use Rattle.std.specs.Fmt.{digit_glyph, digits, digits_onto}
use Rattle.commands.specs.Lines.{spaced}
use Rattle.elements.specs.declared.element.Element.{Element}
use Rattle.faults.specs.declared.JobFault.{JobFault}
use Rattle.faults.specs.declared.JobFault.TheVariants.{Card, Picture, Bench, Line}
use Rattle.faults.specs.Faults.{fault_layer, fault_text, job_fault_number, job_fault_place}
use Rattle.model.specs.Steps as model
use Rattle.pictures.specs.declared.Picture as pictures
use Rattle.jobs.specs.Answers.{answer_text}
use Rattle.jobs.specs.Commands.{LineAnswer, answer_at, line_answer, line_leaves, lines_leave}
use Rattle.jobs.specs.Lines.{lines_of, onto_first}
use Rattle.jobs.specs.Runs.{opened_bench, prepared, printed, printed_for, printed_lines}
use Rattle.jobs.specs.Theorems.{Prints}

-- no byte of a text is a newline
abbrev Unbroken : List ℕ → Type 0
Unbroken [] = Unit {0}
Unbroken (b ∷ bs) = (eqb b 10 ≡ false) × Unbroken bs

both_unbroken : (xs ys : List ℕ) → Unbroken xs → Unbroken ys → Unbroken (xs ++ ys)
both_unbroken [] ys one other = other
both_unbroken (x ∷ xs) ys one other = (one.0, both_unbroken xs ys one.1 other)

glyph_unbroken : (n : ℕ) → eqb (digit_glyph false n) 10 ≡ false
glyph_unbroken n = grind (arith, nat_tests)

digits_unbroken : (k n : ℕ) (back : List ℕ) → Unbroken back → Unbroken (digits_onto k 10 false n back)
digits_unbroken zero n back u = u
digits_unbroken (suc k) n back u =
    let digit = digit_glyph false (n % 10) in
    at (eqb (n / 10) 0) (digit ∷ back) _ (glyph_unbroken (n % 10), u) (digits_unbroken k (n / 10) (digit ∷ back) (glyph_unbroken (n % 10), u))
  where
    at : (last : Bool) (here more : List ℕ) → Unbroken here → Unbroken more → Unbroken (cond last here more)
    at true here more one other = one
    at false here more one other = other

decimal_unbroken : (n : ℕ) → Unbroken (decimal n)
unfolding digits
decimal_unbroken n = digits_unbroken 64 n [] tt

spaced_unbroken : (ns : List ℕ) → Unbroken (spaced ns)
spaced_unbroken [] = tt
spaced_unbroken (n ∷ ns) = (refl, both_unbroken (decimal n) (spaced ns) (decimal_unbroken n) (spaced_unbroken ns))

layer_unbroken : (fault : JobFault) → Unbroken (fault_layer fault)
layer_unbroken (Card fault) = (refl, tt)
layer_unbroken (Picture fault) = (refl, tt)
layer_unbroken (Bench fault) = (refl, tt)
layer_unbroken (Line fault) = (refl, tt)

fault_unbroken : (fault : JobFault) → Unbroken (fault_text fault)
fault_unbroken fault =
    both_unbroken (fault_layer fault) _ (layer_unbroken fault)
    (refl, both_unbroken (decimal (job_fault_number fault)) _ (decimal_unbroken (job_fault_number fault)) (refl, decimal_unbroken (job_fault_place fault)))

answer_unbroken : (k : ℕ) (answer : LineAnswer) → Unbroken (answer_text k answer)
answer_unbroken k (Ok numbers) = (refl, spaced_unbroken numbers)
answer_unbroken k (Err fault) = (refl, (refl, both_unbroken (decimal k) _ (decimal_unbroken k) (refl, fault_unbroken fault)))

-- a text up to a newline is a line
line_first : (text rest : List ℕ) → Unbroken text → lines_of (text ++ (10 ∷ rest)) ≡ text ∷ lines_of rest
line_first [] rest u = refl
line_first (b ∷ text) rest u =
    cond-false (eqb b 10) ([] ∷ lines_of (text ++ (10 ∷ rest))) (onto_first b (lines_of (text ++ (10 ∷ rest)))) u.0 ∙ ap (onto_first b) (line_first text rest u.1)

module _ (element : Element) (picture : List ℕ) where
  -- the texts of the answers, from line number k on
  abbrev texts : model.Bench → ℕ → List (List ℕ) → List (List ℕ)
  texts b k [] = []
  texts b k (line ∷ lines) = answer_text k (line_answer element picture b line) ∷ texts (line_leaves element picture b line) (k + 1) lines

  lines_printed : (b : model.Bench) (k : ℕ) (lines : List (List ℕ)) → lines_of (printed_lines element picture b k lines) ≡ texts b k lines
  lines_printed b k [] = refl
  lines_printed b k (line ∷ lines) =
      let answer = line_answer element picture b line in
      let next = line_leaves element picture b line in
      line_first (answer_text k answer) (printed_lines element picture next (k + 1) lines) (answer_unbroken k answer)
      ∙ ap (λ more. answer_text k answer ∷ more) (lines_printed next (k + 1) lines)

  as_many : (b : model.Bench) (k : ℕ) (lines : List (List ℕ)) → length (texts b k lines) ≡ length lines
  as_many b k [] = refl
  as_many b k (line ∷ lines) = ap suc (as_many (line_leaves element picture b line) (k + 1) lines)

  text_at : (b : model.Bench) (k j : ℕ) (lines : List (List ℕ)) → j < length lines → get_or (texts b k lines) j [] ≡ answer_text (k + j) (answer_at element picture b lines j)
  text_at b k j [] within = absurd (omega arith)
  text_at b k zero (line ∷ lines) within = ap (λ n. answer_text n (line_answer element picture b line)) (omega arith)
  text_at b k (suc j) (line ∷ lines) within =
      let next = line_leaves element picture b line in
      text_at next (k + 1) j lines (omega arith) ∙ ap (λ n. answer_text n (answer_at element picture next lines j)) (omega arith)

  -- the lines before a line, and those after some, by themselves
  pub answer_within : (b : model.Bench) (before rest : List (List ℕ)) (k : ℕ) → k < length before → answer_at element picture b (before ++ rest) k ≡ answer_at element picture b before k
  answer_within b [] rest k within = absurd (omega arith)
  answer_within b (line ∷ before) rest zero within = refl
  answer_within b (line ∷ before) rest (suc k) within = answer_within (line_leaves element picture b line) before rest k (omega arith)

  pub answer_after : (b : model.Bench) (before rest : List (List ℕ)) (j k : ℕ) → j ≡ length before + k → answer_at element picture b (before ++ rest) j ≡ answer_at element picture (lines_leave element picture b before) rest k
  answer_after b [] rest j k is = ap (answer_at element picture b rest) (omega arith)
  answer_after b (line ∷ before) rest zero k is = absurd (omega arith)
  answer_after b (line ∷ before) rest (suc j) k is = answer_after (line_leaves element picture b line) before rest j k (omega arith)

-- what an accepted job prints
module _ (card file input : List ℕ) (element : Element) (p : pictures.Picture) (accepted : prepared card file ≡ Ok (element, p)) where
  printed_texts : lines_of (printed card file input) ≡ texts element (drop p.start file) (opened_bench p.width p.height) 1 (lines_of input)
  printed_texts = ap (λ r. lines_of (printed_for r file input)) accepted ∙ lines_printed element (drop p.start file) (opened_bench p.width p.height) 1 (lines_of input)

  pub one_for_each : length (lines_of (printed card file input)) ≡ length (lines_of input)
  one_for_each = ap length printed_texts ∙ as_many element (drop p.start file) (opened_bench p.width p.height) 1 (lines_of input)

  pub prints_answer : (k : ℕ) → k < length (lines_of input) → Prints card file input k (answer_at element (drop p.start file) (opened_bench p.width p.height) (lines_of input) k)
  prints_answer k within =
      ap (λ lines. get_or lines k []) printed_texts
      ∙ text_at element (drop p.start file) (opened_bench p.width p.height) 1 k (lines_of input) within
      ∙ ap (λ n. answer_text n (answer_at element (drop p.start file) (opened_bench p.width p.height) (lines_of input) k)) (omega arith)

-- where the text of an answer is that of numbers, or of a fault, the answer is
pub is_accepted : (k : ℕ) (answer : LineAnswer) (numbers : List ℕ) → answer_text k answer ≡ answer_text k (Ok numbers) → (ns : List ℕ) × (answer ≡ Ok ns)
is_accepted k (Ok ns) numbers same = (ns, refl)
is_accepted k (Err fault) numbers same = absurd (let z : ◌≡◌ {A = ℕ} 33 61 = ap (λ (t : List ℕ). get_or t 0 0) same in omega arith)

pub is_refused : (k : ℕ) (answer : LineAnswer) (fault : JobFault) → answer_text k answer ≡ answer_text k (Err fault) → (f : JobFault) × (answer ≡ Err f)
is_refused k (Ok ns) fault same = absurd (let z : ◌≡◌ {A = ℕ} 61 33 = ap (λ (t : List ℕ). get_or t 0 0) same in omega arith)
is_refused k (Err f) fault same = (f, refl)

-- the fault of a card, a picture or a side is no answer to a line
no_answer : (fault : JobFault) (k : ℕ) (answer : LineAnswer) → get_or (answer_text 0 (Err fault) ∷ []) k [] ≡ answer_text (k + 1) answer → ⊥
no_answer fault zero (Ok ns) same = let z : ◌≡◌ {A = ℕ} 33 61 = ap (λ (t : List ℕ). get_or t 0 0) same in omega arith
no_answer fault zero (Err f) same =
    let z : ◌≡◌ {A = ℕ} 48 49 =
    ap (λ (ds : List ℕ). get_or (ds ++ (32 ∷ fault_text fault)) 0 0) (sym (decimal_digit 0 (omega arith)))
    ∙ ap (λ (t : List ℕ). get_or t 2 0) same
    ∙ ap (λ (ds : List ℕ). get_or (ds ++ (32 ∷ fault_text f)) 0 0) (decimal_digit 1 (omega arith)) in
    omega arith
no_answer fault (suc k) (Ok ns) same = let z : ◌≡◌ {A = ℕ} 0 61 = ap (λ (t : List ℕ). get_or t 0 0) same in omega arith
no_answer fault (suc k) (Err f) same = let z : ◌≡◌ {A = ℕ} 0 33 = ap (λ (t : List ℕ). get_or t 0 0) same in omega arith

-- so a job that prints an answer to a line is accepted
pub job_accepted : (r : Result (Element × pictures.Picture) JobFault) (file input : List ℕ) (k : ℕ) (answer : LineAnswer) →
    get_or (lines_of (printed_for r file input)) k [] ≡ answer_text (k + 1) answer → (job : Element × pictures.Picture) × (r ≡ Ok job)
job_accepted (Ok job) file input k answer prints = (job, refl)
job_accepted (Err fault) file input k answer prints =
    absurd (no_answer fault k answer (ap (λ lines. get_or lines k []) (sym (line_first (answer_text 0 (Err fault)) [] (answer_unbroken 0 (Err fault)))) ∙ prints))
