use Rattle.std.proofs.Common.{◌≡◌, ℕ, ap, ◌∙◌}
use Rattle.elements.specs.declared.element.Element.{Element}
use Rattle.elements.specs.Elements.{offsets}
use Rattle.laws.proofs.ElementLaws.{erosion_and_dilation_are_pair}
use Rattle.morphology.specs.declared.operation.Operation.{Operation}
use Rattle.morphology.specs.declared.operation.Operation.TheVariants.{Dilation}
use Rattle.morphology.specs.Erosion.{dilated, operated}
use Rattle.operators.specs.Restoring.{answer_list, work_list}
use Rattle.restoring.specs.Numbers.{heights_of}
use Rattle.restoring.proofs.on_lists.restore.Goals as goal

pub restore_by-requires : goal.restore_by-requires
restore_by-requires c =
    rw (c.by_element-by.ensures.operation, c.by_element-by.ensures.element)
    record { keeps = λ f long. (erosion_and_dilation_are_pair c.args.element.now c.args.w c.args.h).swells.sheet f long }

-- what is a dilation by an element
dilates : (op : Operation) (e f : Element) (w h : ℕ) → op ≡ Dilation → e ≡ f → operated op w h (offsets e) ≡ dilated w h (offsets f)
dilates op e f w h is same = λ i. operated (is i) w h (offsets (same i))

pub returns-clause-answer : goal.returns-clause-answer
returns-clause-answer c =
    let swells = dilates _ _ _ c.args.w c.args.h c.by_element-by.ensures.operation c.by_element-by.ensures.element in
    c.restore_by.ensures.answer
    ∙ ap (λ m. answer_list m c.args.w c.args.h c.args.depth c.args.size c.args.pieces.now (heights_of c.args.answer.now) (heights_of c.args.work.now)) swells

pub returns-clause-work : goal.returns-clause-work
returns-clause-work c =
    let swells = dilates _ _ _ c.args.w c.args.h c.by_element-by.ensures.operation c.by_element-by.ensures.element in
    c.restore_by.ensures.work
    ∙ ap (λ m. work_list m c.args.w c.args.h c.args.depth c.args.size c.args.pieces.now (heights_of c.args.answer.now) (heights_of c.args.work.now)) swells
