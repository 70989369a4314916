-- The laws of an element's operators.
use Rattle.laws.proofs.ElementLaws.{erosion_and_dilation_are_pair, dilation_and_erosion_inside_close}
use Rattle.laws.proofs.theorems.element_laws.Goals as goal

pub returns-clause-pair : goal.returns-clause-pair
returns-clause-pair c = erosion_and_dilation_are_pair c.args.element.now

pub returns-clause-closing : goal.returns-clause-closing
returns-clause-closing c = dilation_and_erosion_inside_close c.args.element.now
