use Rattle.laws.proofs.ElementLaws.{erosion_and_dilation_are_pair}
use Rattle.transforms.proofs.swelling.Swelling+ByElement.by_element.Goals as goal

pub invariant_of-result : goal.invariant_of-result
invariant_of-result c = record { swells = λ w h f long. (erosion_and_dilation_are_pair c.args.element.now w h).above f long }
