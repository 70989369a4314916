-- Each number is read after its blank, and the line ends after the last.
use Rattle.std.proofs.Common.{◌≡◌, [], ◌∷◌, Ok, Err, refl, arith, rules}
use Rattle.std.proofs.lemmas.Result.{err_from_is_err_and}
use Rattle.text.specs.Pieces.{fixed_at, number_at}
use Rattle.commands.proofs.Arguments.{none_read, refused_at_blank, refused_at_number, one_more_read, refused_after_last, all_read}
use Rattle.commands.proofs.numbers.Goals as goal

pub loop-number-init : goal.loop-number-init
loop-number-init g c = (refl, c.requires, none_read g.row.N c.args.line.now)

pub returns-in_err-fixed-clause-answers : goal.returns-in_err-fixed-clause-answers
returns-in_err-fixed-clause-answers g c =
    let p = err_from_is_err_and c.from_residual.result c.from_residual.ensures.1 in
    let blank : Err c.in_err-fixed.field-0.0 ≡ fixed_at (32 ∷ []) c.args.line.now c.loop-number.scanner.at = cc c.in_err-fixed.ensures.answers in
    rw (p.1, p.2) (refused_at_blank c.loop-number.invariant.2 _ c.loop-number-test.true blank)

pub returns-in_err-number-clause-answers : goal.returns-in_err-number-clause-answers
returns-in_err-number-clause-answers g c =
    let p = err_from_is_err_and c.from_residual-in_err-number.result c.from_residual-in_err-number.ensures.1 in
    let blank : Ok c.fixed.new.self.at ≡ fixed_at (32 ∷ []) c.args.line.now c.loop-number.scanner.at = cc c.in_ok-fixed.ensures.answers in
    let number : Err c.in_err-number.field-0.0 ≡ number_at 0 c.args.line.now c.fixed.new.self.at = cc (c.in_err-number.ensures.answers, c.in_ok-fixed.ensures.same_text) in
    rw (p.1, p.2) (refused_at_number c.loop-number.invariant.2 _ _ c.loop-number-test.true blank number)

pub loop-number-preserved : goal.loop-number-preserved
loop-number-preserved g c =
    let blank : Ok c.fixed.new.self.at ≡ fixed_at (32 ∷ []) c.args.line.now c.loop-number.scanner.at = cc c.in_ok-fixed.ensures.answers in
    let number : Ok (record { value = c.in_ok-number.field-0; end = c.number.new.self.at }) ≡ number_at 0 c.args.line.now c.fixed.new.self.at =
    cc (c.in_ok-number.ensures.answers, c.in_ok-fixed.ensures.same_text) in (
      cc (c.in_ok-number.ensures.same_text, c.in_ok-fixed.ensures.same_text),
      search rules,
      one_more_read c.loop-number.invariant.2 _ _ _ c.loop-number-test.true blank number,
    )

pub returns-then-scanner-line-clause-answers : goal.returns-then-scanner-line-clause-answers
returns-then-scanner-line-clause-answers g c = refused_after_last c.loop-number.invariant.2 c.loop-number-test.false c.if-scanner-line.true

pub returns-clause-answers : goal.returns-clause-answers
returns-clause-answers g c =
    all_read c.loop-number.invariant.2 c.loop-number-test.false
    (omega (arith, c.loop-number.invariant.1))
