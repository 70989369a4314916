use Rattle.std.proofs.Common.{length, ap, ◌∙◌, rules}
use Rattle.restoring.specs.Numbers.{heights_of}
use Rattle.restoring.proofs.Adding.{heights_of_none}
use Rattle.restoring.proofs.rebuilding.clear.Goals as goal

pub returns : goal.returns
returns c = ap heights_of (c.fill.ensures.after (λ y same. search rules)) ∙ heights_of_none (length c.args.list.now) c.lowest.result c.lowest.ensures
