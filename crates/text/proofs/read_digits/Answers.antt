-- One more digit is ten times the number and the digit.
use Rattle.std.proofs.Common.{◌≡◌, ℕ, ◌+◌, ◌*◌, ◌^◌, List, get_or, ap, ◌∙◌, pow-suc, add-one, arith}
use Rattle.std.proofs.lemmas.Int.Digits.{digits_value_more}
use Rattle.std.proofs.lemmas.List.{take_all}
use Rattle.std.proofs.lemmas.Str.{digit_value_digit}
use Rattle.std.proofs.lemmas.Str.Parse.{digit_at}
use Rattle.std.specs.Str.Parse.{digits_value}
use Rattle.std.specs.Int.{IsInRange}
use Rattle.text.proofs.read_digits.Goals as goal

pub overflow_sub-digit : goal.overflow_sub-digit
overflow_sub-digit c = (digit_at c.args.digits.now c.loop-digit.digit-index c.requires.1 c.loop-digit-test.true).0

pub loop-digit-preserved : goal.loop-digit-preserved
loop-digit-preserved c =
    let i : ℕ = c.loop-digit.digit-index in
    let digits : List ℕ = c.args.digits.now in
    let digit : IsInRange 48 57 (get_or digits i 0) = digit_at digits i c.requires.1 c.loop-digit-test.true in
    let more = digits_value_more 10 digits i c.loop-digit-test.true in
    let power : 10 ^ (i + 1) ≡ 10 ^ i * 10 = rw add-one (pow-suc 10 i) in
    let digit_is = digit_value_digit (get_or digits i 0) digit in
    (omega arith, omega (arith, c.loop-digit.invariant.1))

pub returns : goal.returns
returns c = c.loop-digit.invariant.0 ∙ ap (digits_value 10) (take_all c.loop-digit.digit-index c.args.digits.now c.loop-digit-test.false)
