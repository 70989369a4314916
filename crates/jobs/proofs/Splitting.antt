-- The first line of an input, and the lines after it. Assumes nothing.
use Rattle.std.proofs.Common.{◌≡◌, ℕ, suc, ◌-◌, ◌<◌, ◌≤◌, Bool, true, false, cond, List, [], ◌∷◌, length, take, drop, min, not, sym, refl, ap, ◌∙◌, arith, ◌==◌, position}
use Rattle.std.proofs.lemmas.Bool.Decides.{nat_tests}
use Rattle.std.proofs.lemmas.List.{drop_all, take_rest}
use Rattle.std.proofs.lemmas.List.Sums.{prefix_len-le-length}
use Rattle.std.specs.List.{position_or_len}
use Rattle.std.specs.Option.{unwrap_or}
use Rattle.jobs.specs.Lines.{lines_of, onto_first}

-- a byte more of a line, and the lines after it
longer_line : (b : ℕ) (bs : List ℕ) (m n : ℕ) → n ≡ suc m → (b ∷ take m bs) ∷ lines_of (drop 1 (drop m bs)) ≡ take n (b ∷ bs) ∷ lines_of (drop 1 (drop n (b ∷ bs)))
longer_line b bs m n is = rw is refl

-- the first line by whether its first byte ends it
first_line_by : (b : ℕ) (bs : List ℕ) (ends : Bool) → (b == 10) ≡ ends → let n = position_or_len (λ x. x == 10) (b ∷ bs) in lines_of (b ∷ bs) ≡ take n (b ∷ bs) ∷ lines_of (drop 1 (drop n (b ∷ bs)))
first_line_by b bs true is = rw is refl
first_line_by b [] false is = rw is refl
first_line_by b (c ∷ bs) false is = rw is (ap (onto_first b) (first_line_by c bs (c == 10) refl) ∙ longer_line b (c ∷ bs) _ _ (omega arith))

-- a line ends at its newline or at the end
line_end : (xs : List ℕ) → unwrap_or (position (λ x. x == 10) xs) (length xs) ≡ position_or_len (λ x. x == 10) xs
line_end xs = grind (arith, nat_tests, prefix_len-le-length (λ x. not (x == 10)) xs)

-- a line up to its newline or to the end, and the lines after it
first_line : (input : List ℕ) (n : ℕ) → 0 < length input → n ≡ unwrap_or (position (λ x. x == 10) input) (length input) → lines_of input ≡ take n input ∷ lines_of (drop 1 (drop n input))
first_line [] n some is = absurd (omega arith)
first_line (b ∷ bs) n some is = rw (is ∙ line_end (b ∷ bs)) (first_line_by b bs (b == 10) refl)

-- what follows a line, without its newline if there is one
behind_newline : (rest : List ℕ) (k : ℕ) → k ≡ min (length rest) 1 → drop 1 rest ≡ drop k rest
behind_newline [] k is = sym (drop_all k [] (omega arith))
behind_newline (b ∷ bs) k is = let one : k ≡ 1 = omega arith in rw one refl

-- the line that a cut at n gives, and the lines after it
pub next_line : (input line rest : List ℕ) (n k : ℕ) → 0 < length input → n ≡ unwrap_or (position (λ x. x == 10) input) (length input) → line ≡ take n input → rest ≡ drop n input → k ≡ min (length rest) 1 →
    lines_of input ≡ line ∷ lines_of (take (length rest - k) (drop k rest))
next_line input line rest n k some ends front back one =
    let after : drop 1 (drop n input) ≡ take (length rest - k) (drop k rest) = ap (drop 1) (sym back) ∙ behind_newline rest k one ∙ sym (take_rest rest k) in
    first_line input n some ends ∙ (λ i. sym front i ∷ lines_of (after i))

-- a byte more makes one line more at most
lines_within_by : (b : ℕ) (lines : List (List ℕ)) (n : ℕ) (ends : Bool) → length lines ≤ n → length (cond ends ([] ∷ lines) (onto_first b lines)) ≤ suc n
lines_within_by b lines n true h = omega arith
lines_within_by b [] n false h = omega arith
lines_within_by b (line ∷ lines) n false h = omega arith

-- there are no more lines than bytes
pub lines_within : (input : List ℕ) → length (lines_of input) ≤ length input
lines_within [] = omega arith
lines_within (b ∷ bs) = lines_within_by b (lines_of bs) (length bs) (b == 10) (lines_within bs)
