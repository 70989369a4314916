-- The element has an offset for each flag that is set.
use Rattle.std.proofs.Common.{sym, ◌∙◌}
use Rattle.elements.proofs.Flags.{length-flagged}
use Rattle.elements.proofs.element.Element.size.Goals as goal

pub returns : goal.returns
returns c = c.count_set.ensures ∙ sym (length-flagged 0 c.args.self.now.flags)
