-- Each need is a step of the reading, or how it comes out.
use Rattle.std.proofs.Common.{◌≡◌, ◌+◌, ◌*◌, Err, sym, ap, ◌∙◌, arith}
use Rattle.std.proofs.lemmas.Result.{MatchResult-weaker, err_from_is_err_and}
use Rattle.elements.specs.Cards.{end_fault, next_of, record_byte}
use Rattle.elements.proofs.CardReadings.{reading_goes_on}
use Rattle.elements.proofs.Outcomes.{accepted_flags, end_refused_flags, record_refused_flags}
use Rattle.elements.proofs.ChainOrRefusal.{tells_the_chain}
use Rattle.elements.proofs.cards.read_card.Goals as goal

pub returns-in_err-next : goal.returns-in_err-next
returns-in_err-next c =
    let card = c.args.card.now in
    let fault = c.in_err-next.field-0.0 in
    let p = err_from_is_err_and c.from_residual.result c.from_residual.ensures.1 in
    let refused =
    record_refused_flags card c.loop-next.number c.loop-next.flags c.loop-next.invariant fault c.in_err-next.ensures in
    rw (p.1, p.2) record { flags = refused; chain = tells_the_chain card (Err fault) refused }

pub returns-then-next-eq0 : goal.returns-then-next-eq0
returns-then-next-eq0 c =
    let card = c.args.card.now in
    let n = c.loop-next.number in
    let met = c.loop-next.flags in
    let flags = c.visit.new.flags in
    let reading = c.loop-next.invariant in
    let visited = c.in_ok-next.ensures in
    let ends : next_of card n ≡ 0 = sym visited.1 ∙ c.if-next-eq0.true in
    let last : 3 * n ≡ record_byte n + 2 = omega arith in
    let answer = MatchResult-weaker c.finish.result c.finish.ensures
    (λ element p. accepted_flags card n met reading visited.0 ends (3 * n) element.flags last (p.0 ∙ visited.2) (ap (end_fault (3 * n)) p.0 ∙ p.1))
    (λ fault p. end_refused_flags card n met reading visited.0 ends (3 * n) flags last visited.2 fault p) in
    record { flags = answer; chain = tells_the_chain card c.finish.result answer }

pub loop-next-preserved : goal.loop-next-preserved
loop-next-preserved c =
    let visited = c.in_ok-next.ensures in
    rw (visited.1, visited.2)
    (reading_goes_on c.args.card.now c.loop-next.number c.loop-next.flags c.loop-next.invariant visited.0
    (omega (arith, visited.1, c.if-next-eq0.false)))
