-- A line tells of its call what the model's call tells. Assumes nothing.
use Rattle.std.proofs.Common.{inl, inr, ◌≡◌, ℕ, ◌+◌, ◌*◌, ◌<◌, ◌≤◌, min, List, [], ◌∷◌, ◌++◌, take, length, get_or, decimal, append_assoc, Bool, true, false, not, leb, eqb, Ok, Err, Result, refl, sym, ap, ◌∙◌, arith}
use Rattle.std.proofs.lemmas.Bool.{and_parts, leb-true}
use Rattle.std.proofs.lemmas.List.{append-nil, take_more}
use Rattle.commands.specs.Lines.{spaced}
use Rattle.std.specs.Borrow.{MutBor}
use Rattle.std.specs.Result.{result_map_both}
use Rattle.bench.specs.Calls.{depth_refusal, sheet_refusal}
use Rattle.bench.specs.Model.{Outline, is_place, sheet_of}
use Rattle.closings.specs.ByElement.{spectrum_by}
use Rattle.elements.specs.declared.element.Element.{Element}
use Rattle.faults.specs.declared.JobFault.TheVariants as fault_of
use Rattle.in_use.specs.Calls.{Left, numbers_left, told_of}
use Rattle.in_use.specs.declared.call.Told.{Told}
use Rattle.in_use.specs.declared.call.Told.TheVariants.{Area}
use Rattle.levels.specs.declared.gray.Gray.{Gray}
use Rattle.levels.specs.Gray.{gray_height}
use Rattle.limits.specs.declared.fault.Fault.{Fault}
use Rattle.limits.specs.declared.fault.Fault.TheVariants.{ListLength, SheetPlace, SizeOrDepth}
use Rattle.limits.specs.Faults.{first, tells}
use Rattle.limits.specs.Sizes.{lawful_size}
use Rattle.model.specs.Calls as model
use Rattle.model.specs.Steps.{Bench, answer, telling}
use Rattle.jobs.specs.Commands.{numbers_told, told_on_line}
use Rattle.jobs.specs.Tellings.{numbers_in}

-- the numbers of what a call tells
numbers_as : {E R : Type 0} (left : Left Gray E R) (told : Told Gray) → numbers_told (told_of gray_height left told) ≡ numbers_in (numbers_left left) told
numbers_as left (Area area) = refl
numbers_as left told = refl

-- so the answer to a line is that of its call
pub line_told : {E R : Type 0} (left : Left Gray E R) (answered : Result (Told Gray) Fault) (answer : Result model.Told Fault) → telling (told_of gray_height left) answered ≡ answer
    → result_map_both (numbers_in (numbers_left left)) fault_of.Bench answered ≡ told_on_line answer
line_told left (Ok told) answer is = ap Ok (sym (numbers_as left told)) ∙ ap told_on_line is
line_told left (Err fault) answer is = ap told_on_line is

-- a call to a depth that is not lawful is refused before the length of its list is looked at
lengths_alike : (o : Outline) (depth place wanted len other : ℕ) → (depth ≤ 64 → len ≡ other) → depth_refusal o depth place len wanted ≡ depth_refusal o depth place other wanted
lengths_alike o depth place wanted len other same = at (is_place o.places place) (lawful_size depth) refl
  where
    at : (there lawful : Bool) → lawful_size depth ≡ lawful
        → first (not there) SheetPlace (first (not lawful) SizeOrDepth (first (not (eqb len wanted)) ListLength (sheet_refusal o place)))
        ≡ first (not there) SheetPlace (first (not lawful) SizeOrDepth (first (not (eqb other wanted)) ListLength (sheet_refusal o place)))
    at false lawful is = refl
    at true false is = refl
    at true true is = ap (λ n. first (not (eqb n wanted)) ListLength (sheet_refusal o place)) (same (leb-true depth 64 (and_parts (leb 1 depth) (leb depth 64) is).1))

-- so a list of no more than 129 numbers serves any depth
pub short_list : (b : Bench) (e : Element) (depth place : ℕ) → answer b (model.Spectrum e depth place (min (2 * depth + 1) 129)) ≡ answer b (model.Spectrum e depth place (2 * depth + 1))
short_list b e depth place =
    ap (λ refusal. telling model.SpectrumTold (tells refusal (spectrum_by e depth b.rack.outline.w b.rack.outline.h (sheet_of b.rack place))))
    (lengths_alike b.rack.outline depth place (2 * depth + 1) (min (2 * depth + 1) 129) (2 * depth + 1) (λ few. omega arith))

-- as where its numbers are those of a command
pub spectrum_as : (b : Bench) (e : Element) (depth place deep there len : ℕ) → deep ≡ depth → there ≡ place → len ≡ min (2 * deep + 1) 129
    → answer b (model.Spectrum e deep there len) ≡ answer b (model.Spectrum e depth place (2 * depth + 1))
spectrum_as b e depth place deep there len same_depth same_place long =
    ap (λ n. answer b (model.Spectrum e deep there n)) long ∙ short_list b e deep there
    ∙ (λ i. answer b (model.Spectrum e (same_depth i) (same_place i) (2 * same_depth i + 1)))

-- numbers after blanks, and one more
spaced_onto : (xs : List ℕ) (x : ℕ) → spaced (xs ++ (x ∷ [])) ≡ spaced xs ++ (32 ∷ decimal x)
spaced_onto [] x = ap (λ (digits : List ℕ). 32 ∷ digits) (append-nil (decimal x))
spaced_onto (y ∷ xs) x = ap (λ (rest : List ℕ). 32 ∷ (decimal y ++ rest)) (spaced_onto xs x) ∙ ap (λ (rest : List ℕ). 32 ∷ rest) (sym (append_assoc (decimal y) (spaced xs) (32 ∷ decimal x)))

pub spaced_more : (xs : List ℕ) (k : ℕ) → k < length xs → spaced (take (k + 1) xs) ≡ spaced (take k xs) ++ (32 ∷ decimal (get_or xs k 0))
spaced_more xs k within = ap spaced (take_more xs k 0 within) ∙ spaced_onto (take k xs) (get_or xs k 0)

-- what a spectrum to a list of that length tells is what the line's call tells
pub spectrum_told : (b : Bench) (e : Element) (depth place deep there len : ℕ) (told : Result model.Told Fault) → told ≡ answer b (model.Spectrum e deep there len)
    → deep ≡ depth → there ≡ place → len ≡ min (2 * deep + 1) 129 → told ≡ answer b (model.Spectrum e depth place (2 * depth + 1))
spectrum_told b e depth place deep there len told is same_depth same_place long = is ∙ spectrum_as b e depth place deep there len same_depth same_place long

-- a line tells the fault of its call, or the entries that it left in the list
pub refused_line : (numbers : ℕ → List ℕ) (answered : Result ℕ Fault) (fault : Fault) (answer : Result model.Told Fault) → answered ≡ Err fault → Err fault ≡ answer
    → result_map_both numbers fault_of.Bench answered ≡ told_on_line answer
refused_line numbers answered fault answer is told = ap (result_map_both numbers fault_of.Bench) is ∙ ap told_on_line told

-- what such a call leaves behind its list
abbrev pub entries_left : MutBor (List ℕ) → Left Gray (Unit {0}) (Unit {0})
entries_left list = inr (inr (inl (tt, (0, (0, (list, tt))))))

pub listed_line : (list : MutBor (List ℕ)) (told : Told Gray) (answer : Result model.Told Fault) (found front : List ℕ) → Ok (told_of gray_height (entries_left list) told) ≡ answer
    → found ≡ numbers_in front told → front ≡ list.now → Ok found ≡ told_on_line answer
listed_line list told answer found front is numbers same =
    ap Ok (numbers ∙ ap (λ xs. numbers_in xs told) same) ∙ line_told (entries_left list) (Ok told) answer is

-- they are the front of the list
front_of : (xs rest : List ℕ) → take (length xs) (xs ++ rest) ≡ xs
front_of [] rest = refl
front_of (x ∷ xs) rest = ap (λ (front : List ℕ). x ∷ front) (front_of xs rest)

pub front_so_long : (xs ys rest : List ℕ) (n : ℕ) → length xs ≡ n → ys ≡ xs → take n (ys ++ rest) ≡ xs
front_so_long xs ys rest n long same = ap (λ (list : List ℕ). take n (list ++ rest)) same ∙ ap (λ k. take k (xs ++ rest)) (sym long) ∙ front_of xs rest
