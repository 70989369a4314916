-- The number is that of the digits counted, or is refused where it would begin.
use Rattle.std.proofs.Common.{◌≡◌, ℕ, ◌+◌, ◌<◌, ◌≤◌, ◌⊎◌, List, take, drop, Ok, Result, sym, subst, arith}
use Rattle.std.proofs.lemmas.Bool.Decides.{nat_tests}
use Rattle.std.specs.Str.Parse.{digits_value}
use Rattle.text.specs.declared.Misfit.{Misfit}
use Rattle.text.specs.Pieces.{Numeral, number_at, digit_count, front_value, refused_at, TellsNumber}
use Rattle.text.proofs.Numbers.{tells_number}
use Rattle.text.proofs.Scanner.number.Goals as goal

-- the answer of `number_at` tells which number stands there, or that none does
answer_tells_number : (least : ℕ) (bytes : List ℕ) (at : ℕ) (r : Result Numeral Misfit) → r ≡ number_at least bytes at → TellsNumber least bytes at r
answer_tells_number least bytes at r answer = subst (TellsNumber least bytes at) (sym answer) (tells_number least bytes at)

-- no digit, or a number below the least, is refused
none_or_low_is_refused : (least : ℕ) (bytes : List ℕ) (at count value : ℕ) → count ≡ digit_count (drop at bytes) → value ≡ digits_value 10 (take count (drop at bytes))
    → (count ≡ 0) ⊎ ((count ≡ 0 → ⊥) × (value < least)) → refused_at at ≡ number_at least bytes at
unfolding number_at
none_or_low_is_refused least bytes at count value digits number why = let front : value ≡ front_value (drop at bytes) = cc in grind (arith, nat_tests)

-- any other number is read, with the place after its digits
enough_is_read : (least : ℕ) (bytes : List ℕ) (at count value : ℕ) → count ≡ digit_count (drop at bytes) → value ≡ digits_value 10 (take count (drop at bytes))
    → (count ≡ 0 → ⊥) → least ≤ value → ◌≡◌ {A = Result Numeral Misfit} (Ok (record { value = value; end = at + count })) (number_at least bytes at)
unfolding number_at
enough_is_read least bytes at count value digits number some enough = let front : value ≡ front_value (drop at bytes) = cc in grind (arith, nat_tests)

pub returns-then-count-eq0-clause-answers : goal.returns-then-count-eq0-clause-answers
returns-then-count-eq0-clause-answers c =
    none_or_low_is_refused c.args.least c.args.self.now.bytes.now c.args.self.now.at _ _
    (rw (← c.rest-text.ensures) c.count_digits-count.ensures.value) (rw (← c.rest-text.ensures) c.read_digits-value.ensures) c.then-count-eq0.either

pub returns-then-count-eq0-clause-tells : goal.returns-then-count-eq0-clause-tells
returns-then-count-eq0-clause-tells c = answer_tells_number c.args.least _ _ _ (returns-then-count-eq0-clause-answers c)

pub returns-clause-answers : goal.returns-clause-answers
returns-clause-answers c =
    enough_is_read c.args.least c.args.self.now.bytes.now c.args.self.now.at _ _
    (rw (← c.rest-text.ensures) c.count_digits-count.ensures.value) (rw (← c.rest-text.ensures) c.read_digits-value.ensures)
    c.if-count-eq0.false c.if-value-least.false

pub returns-clause-tells : goal.returns-clause-tells
returns-clause-tells c = answer_tells_number c.args.least _ _ _ (returns-clause-answers c)
