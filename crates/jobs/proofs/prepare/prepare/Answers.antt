use Rattle.jobs.proofs.CardElements.{prepared_as}
use Rattle.jobs.proofs.prepare.prepare.Goals as goal

pub returns-clause-answers : goal.returns-clause-answers
returns-clause-answers c =
    prepared_as c.args.card.now c.args.file.now c.in_ok-element.element c.in_ok-picture.picture _ _
    c.in_ok-element.ensures.flags c.in_ok-picture.ensures.answers c.in_ok-sides.ensures.0 c.in_ok-sides.ensures.1 c.if-sides-gt96.false c.if-sides-gt96-2.false
