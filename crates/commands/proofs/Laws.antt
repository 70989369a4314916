-- A line is read as the command whose line it is, or refused at its first misfit.
use Rattle.std.proofs.Common.{◌≡◌, ℕ, zero, suc, ◌-◌, ◌≤◌, eqb, List, [], ◌∷◌, ◌++◌, length, get_or, take, drop, Some, None, Ok, Err, decimal, Option, Result, sym, refl, ap, ◌∙◌, subst, arith, MatchResult}
use Rattle.std.proofs.lemmas.List.{append-nil, get_or-take, nil_from_length}
use Rattle.std.proofs.lemmas.Result.{MatchResult-at_ok, MatchResult-at_err}
use Rattle.std.proofs.lemmas.Bool.{cond_both, eqb-true}
use Rattle.text.specs.declared.Misfit.{Misfit}
use Rattle.text.specs.Forms.{Takes, OfForm, NumbersRead, scan, written}
use Rattle.text.specs.Misfits.{FirstMisfit}
use Rattle.text.proofs.Forms.{Clear, reads_back, reads_what_was_written, refuses_at_first_misfit}
use Rattle.text.proofs.Misfits.{misfit_at_once, misfit_after}
use Rattle.commands.specs.declared.Command.{Command}
use Rattle.commands.specs.declared.Command.TheVariants.{Begin, Load, Erode, Dilate, Open, Close, Area, Spectrum, End}
use Rattle.commands.specs.Lines.{letter, numbers, spaced, command_text, AllInRange, InRange, Lawful}
use Rattle.commands.specs.Reading.{arguments, CommandKind, one, two, three, command_kind, made, made_by, command_or_misfit, by_column, read, ReadsBackLines, ReadsOnlyLines, RefusesLinesAtMisfit}

clear : (count : ℕ) → Clear (arguments count)
clear zero = tt
clear (suc zero) = (omega arith, tt, tt)
clear (suc (suc count)) = (omega arith, refl, clear (suc count))

-- what the form of so many arguments writes, and what it takes
same_text : (ns : List ℕ) → written (arguments (length ns)) ns ≡ spaced ns
same_text [] = refl
same_text (n ∷ ns) = ap (λ (t : List ℕ). 32 ∷ (decimal n ++ t)) (same_text ns)

takes_in_range : (ns : List ℕ) → AllInRange ns → Takes (arguments (length ns)) ns []
takes_in_range [] range = (refl, refl)
takes_in_range (n ∷ ns) range = (omega arith, range.0, takes_in_range ns range.1)

-- numbers of a line
record LineOf (count : ℕ) (ns rest : List ℕ) : Type 0 where
  long : length ns ≡ count
  range : AllInRange ns
  ends : rest ≡ []

in_range_taken : (count : ℕ) (ns rest : List ℕ) → Takes (arguments count) ns rest → LineOf count ns rest
in_range_taken zero ns rest takes = record { long = ap length takes.0; range = subst AllInRange (sym takes.0) tt; ends = takes.1 }
in_range_taken (suc count) [] rest takes = absurd takes
in_range_taken (suc count) (n ∷ ns) rest takes =
    let more = in_range_taken count ns rest takes.2 in
    record { long = ap suc more.long; range = (takes.1, more.range); ends = more.ends }

-- the letter and the numbers of a kind's command are those that it was made of
record Makes (l : ℕ) (k : CommandKind) : Type 0 where
  same_letter : (ns : List ℕ) → letter (k.make ns) ≡ l
  same_numbers : (ns : List ℕ) → length ns ≡ k.count → numbers (k.make ns) ≡ ns

makes_one : (l : ℕ) (make : ℕ → Command) → ((n : ℕ) → letter (make n) ≡ l) → ((n : ℕ) → numbers (make n) ≡ n ∷ []) → Makes l (one make)
makes_one l make same_letter same_numbers = record { same_letter = λ ns. same_letter (get_or ns 0 0); same_numbers = single }
  where
    single : (ns : List ℕ) → length ns ≡ 1 → numbers (make (get_or ns 0 0)) ≡ ns
    single [] long = absurd (omega arith)
    single (n ∷ []) long = same_numbers n
    single (n ∷ m ∷ ns) long = absurd (omega arith)

makes_two : (l : ℕ) (make : ℕ → ℕ → Command) → ((m n : ℕ) → letter (make m n) ≡ l) → ((m n : ℕ) → numbers (make m n) ≡ m ∷ n ∷ []) → Makes l (two make)
makes_two l make same_letter same_numbers = record { same_letter = λ ns. same_letter (get_or ns 0 0) (get_or ns 1 0); same_numbers = pair }
  where
    pair : (ns : List ℕ) → length ns ≡ 2 → numbers (make (get_or ns 0 0) (get_or ns 1 0)) ≡ ns
    pair [] long = absurd (omega arith)
    pair (n ∷ []) long = absurd (omega arith)
    pair (m ∷ n ∷ []) long = same_numbers m n
    pair (m ∷ n ∷ k ∷ ns) long = absurd (omega arith)

makes_three : (l : ℕ) (make : ℕ → ℕ → ℕ → Command) → ((k m n : ℕ) → letter (make k m n) ≡ l) → ((k m n : ℕ) → numbers (make k m n) ≡ k ∷ m ∷ n ∷ []) → Makes l (three make)
makes_three l make same_letter same_numbers = record { same_letter = λ ns. same_letter (get_or ns 0 0) (get_or ns 1 0) (get_or ns 2 0); same_numbers = triple }
  where
    triple : (ns : List ℕ) → length ns ≡ 3 → numbers (make (get_or ns 0 0) (get_or ns 1 0) (get_or ns 2 0)) ≡ ns
    triple [] long = absurd (omega arith)
    triple (k ∷ []) long = absurd (omega arith)
    triple (k ∷ m ∷ []) long = absurd (omega arith)
    triple (k ∷ m ∷ n ∷ []) long = same_numbers k m n
    triple (k ∷ m ∷ n ∷ i ∷ ns) long = absurd (omega arith)

Known : ℕ → Option CommandKind → Type 0
Known l None = Unit {0}
Known l (Some k) = Makes l k

-- each letter of the table makes commands of that letter
known : (l : ℕ) → Known l (command_kind l)
unfolding Known
known l =
    cond_both (eqb l 86) _ _ (Known l) (λ e. makes_one l Begin (λ _. sym (eqb-true l 86 e)) (λ _. refl))
    (λ _. cond_both (eqb l 76) _ _ (Known l) (λ e. makes_one l Load (λ _. sym (eqb-true l 76 e)) (λ _. refl))
    (λ _. cond_both (eqb l 69) _ _ (Known l) (λ e. makes_two l Erode (λ _ _. sym (eqb-true l 69 e)) (λ _ _. refl))
    (λ _. cond_both (eqb l 68) _ _ (Known l) (λ e. makes_two l Dilate (λ _ _. sym (eqb-true l 68 e)) (λ _ _. refl))
    (λ _. cond_both (eqb l 79) _ _ (Known l) (λ e. makes_three l Open (λ _ _ _. sym (eqb-true l 79 e)) (λ _ _ _. refl))
    (λ _. cond_both (eqb l 67) _ _ (Known l) (λ e. makes_three l Close (λ _ _ _. sym (eqb-true l 67 e)) (λ _ _ _. refl))
    (λ _. cond_both (eqb l 65) _ _ (Known l) (λ e. makes_one l Area (λ _. sym (eqb-true l 65 e)) (λ _. refl))
    (λ _. cond_both (eqb l 80) _ _ (Known l) (λ e. makes_two l Spectrum (λ _ _. sym (eqb-true l 80 e)) (λ _ _. refl))
    (λ _. cond_both (eqb l 88) _ _ (Known l) (λ e. record { same_letter = λ _. sym (eqb-true l 88 e); same_numbers = λ ns long. sym (nil_from_length ns long) })
    (λ _. tt)))))))))

makes : (l : ℕ) (k : CommandKind) → command_kind l ≡ Some k → Makes l k
unfolding Known
makes l k is = subst (Known l) is (known l)

-- each command is of its letter's kind
record OfKind (command : Command) (k : CommandKind) : Type 0 where
  is : command_kind (letter command) ≡ Some k
  count : k.count ≡ length (numbers command)
  made_of : k.make (numbers command) ≡ command

kind_of : (command : Command) → (k : CommandKind) × OfKind command k
kind_of (Begin flat) = (one Begin, record { is = refl; count = refl; made_of = refl })
kind_of (Load place) = (one Load, record { is = refl; count = refl; made_of = refl })
kind_of (Erode from to) = (two Erode, record { is = refl; count = refl; made_of = refl })
kind_of (Dilate from to) = (two Dilate, record { is = refl; count = refl; made_of = refl })
kind_of (Open size from to) = (three Open, record { is = refl; count = refl; made_of = refl })
kind_of (Close size from to) = (three Close, record { is = refl; count = refl; made_of = refl })
kind_of (Area place) = (one Area, record { is = refl; count = refl; made_of = refl })
kind_of (Spectrum depth place) = (two Spectrum, record { is = refl; count = refl; made_of = refl })
kind_of End = (record { count = 0; make = λ _. End }, record { is = refl; count = refl; made_of = refl })

-- the form of a kind's arguments, after its letter, is that of its commands' lines
of_numbers : (count : ℕ) (ns : List ℕ) → count ≡ length ns → written (arguments count) ns ++ [] ≡ spaced ns
of_numbers count ns long = append-nil _ ∙ (ap (λ (k : ℕ). written (arguments k) ns) long ∙ same_text ns)

line_of_arguments : (l : ℕ) (k : CommandKind) → Makes l k → (text : List ℕ) (o : OfForm (arguments k.count) text)
    → (l ∷ text ≡ command_text (k.make o.numbers)) × InRange (k.make o.numbers)
line_of_arguments l k m text o =
    let line = in_range_taken k.count o.numbers o.rest o.takes in
    let same : numbers (k.make o.numbers) ≡ o.numbers = m.same_numbers o.numbers line.long in
    let spelled : text ≡ spaced o.numbers =
    o.same ∙ (ap (λ (t : List ℕ). written (arguments k.count) o.numbers ++ t) line.ends ∙ of_numbers k.count o.numbers (sym line.long)) in (
      ap (λ (t : List ℕ). l ∷ t) (spelled ∙ ap spaced (sym same)) ∙ ap (λ (b : ℕ). b ∷ spaced (numbers (k.make o.numbers))) (sym (m.same_letter o.numbers)),
      subst AllInRange (sym same) line.range,
    )

arguments_of_line : (l : ℕ) (k : CommandKind) → command_kind l ≡ Some k → (text : List ℕ) → Lawful (l ∷ text) → OfForm (arguments k.count) text
arguments_of_line l k is text (command, range, same) =
    let of = (kind_of command).1 in
    let same_l : l ≡ letter command = cc in
    let count : k.count ≡ length (numbers command) =
    let one_kind : Some k ≡ Some (kind_of command).0 = sym is ∙ (ap command_kind same_l ∙ of.is) in
    let same_k : k ≡ (kind_of command).0 = cc in
    ap (λ (j : CommandKind). j.count) same_k ∙ of.count in
    let spelled : text ≡ spaced (numbers command) = cc in
    record {
      numbers = numbers command;
      rest = [];
      takes = subst (λ (n : ℕ). Takes (arguments n) (numbers command) []) (sym count) (takes_in_range (numbers command) range);
      same = spelled ∙ sym (of_numbers k.count (numbers command) count);
    }

-- what holds of a command that was read, and of a place that was refused
abbrev Read : List ℕ → Command → Type 0
Read line command = (line ≡ command_text command) × InRange command

abbrev Misfits : List ℕ → Misfit → Type 0
Misfits line misfit = FirstMisfit Lawful line misfit.place

no_kind : (line : List ℕ) → command_kind (get_or line 0 0) ≡ None → FirstMisfit Lawful line 0
no_kind line none = misfit_at_once Lawful (command_text End) (End, tt, refl) line apart
  where
    apart : (other : List ℕ) → Lawful other → take 1 other ≡ take 1 line → ⊥
    apart other (command, range, same) start =
        let of = (kind_of command).1 in
        let first : get_or line 0 0 ≡ letter command =
        sym (get_or-take 1 line 0 0 (omega arith)) ∙ (ap (λ (t : List ℕ). get_or t 0 0) (sym start) ∙ (get_or-take 1 other 0 0 (omega arith) ∙ ap (λ (t : List ℕ). get_or t 0 0) same)) in
        let never : ◌≡◌ {A = Option CommandKind} None (Some (kind_of command).0) = sym none ∙ (ap command_kind first ∙ of.is) in
        let z : ◌≡◌ {A = ℕ} 0 1 = cc in omega arith

some_kind : (l : ℕ) (text : List ℕ) (k : CommandKind) → command_kind l ≡ Some k → (r : Result NumbersRead Misfit)
    → scan (arguments k.count) (l ∷ text) 1 ≡ r → MatchResult (made k r) (Read (l ∷ text)) (Misfits (l ∷ text))
some_kind l text k is (Ok reading) answer =
    let was = reads_what_was_written (arguments k.count) (l ∷ text) 1 reading (clear k.count) (omega arith) answer in
    line_of_arguments l k (makes l k is) text
    (record { numbers = reading.numbers; rest = drop reading.end (l ∷ text); takes = was.takes; same = was.writes })
some_kind l text k is (Err misfit) answer =
    let refused = refuses_at_first_misfit (arguments k.count) (l ∷ text) 1 misfit (clear k.count) (omega arith) answer in
    subst (FirstMisfit Lawful (l ∷ text)) (omega (arith, refused.from))
    (misfit_after (OfForm (arguments k.count)) Lawful (l ∷ []) text (misfit.place - 1)
    (λ t o. let line = line_of_arguments l k (makes l k is) t o in (k.make o.numbers, line.1, line.0))
    (λ t _ lawful. arguments_of_line l k is t lawful) refused.first)

by_kind : (line : List ℕ) (o : Option CommandKind) → command_kind (get_or line 0 0) ≡ o → MatchResult (made_by o line) (Read line) (Misfits line)
by_kind line None is = no_kind line is
by_kind [] (Some k) is = let z : ◌≡◌ {A = ℕ} 0 1 = cc in absurd (omega arith)
by_kind (l ∷ text) (Some k) is = some_kind l text k is (scan (arguments k.count) (l ∷ text) 1) refl

from_one : (line : List ℕ) (r : Result Command Misfit) → MatchResult r (Read line) (Misfits line)
    → MatchResult (by_column r) (Read line) (λ fault. (1 ≤ fault.column) × FirstMisfit Lawful line (fault.column - 1))
from_one line (Ok command) holds = holds
from_one line (Err misfit) holds = (omega arith, subst (FirstMisfit Lawful line) (omega arith) holds)

-- what a line reads as is its command, or its first misfit
read_or_first_misfit : (line : List ℕ)
    → MatchResult (read line) (Read line) (λ fault. (1 ≤ fault.column) × FirstMisfit Lawful line (fault.column - 1))
read_or_first_misfit line = from_one line (command_or_misfit line) (by_kind line (command_kind (get_or line 0 0)) refl)

pub reads_only_lines : ReadsOnlyLines
reads_only_lines line command answer = MatchResult-at_ok (Read line) _ command answer (read_or_first_misfit line)

pub refuses_lines_at_misfit : RefusesLinesAtMisfit
refuses_lines_at_misfit line fault answer =
    MatchResult-at_err (Read line) (λ f. (1 ≤ f.column) × FirstMisfit Lawful line (f.column - 1)) fault answer (read_or_first_misfit line)

pub reads_back_lines : ReadsBackLines
reads_back_lines command range =
    let k = (kind_of command).0 in
    let of = (kind_of command).1 in
    let ns : List ℕ = numbers command in
    let takes : Takes (arguments k.count) ns [] = subst (λ (n : ℕ). Takes (arguments n) ns []) (sym of.count) (takes_in_range ns range) in
    let scanned = reads_back (arguments k.count) ns [] (command_text command) 1 (clear k.count) takes (omega arith) (sym (of_numbers k.count ns of.count)) in
    ap (λ (o : Option CommandKind). by_column (made_by o (command_text command))) of.is
    ∙ (ap (λ (r : Result NumbersRead Misfit). by_column (made k r)) scanned ∙ ap Ok of.made_of)
