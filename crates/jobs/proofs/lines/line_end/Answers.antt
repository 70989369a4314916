use Rattle.std.proofs.Common.{length, ap, ◌∙◌, tests, rules, ◌==◌}
use Rattle.std.specs.Option.{unwrap_or}
use Rattle.std.proofs.lemmas.Iterator.{YieldsList-from_slice}
use Rattle.std.proofs.lemmas.Iterator.Search.{position_from_yields_List}
use Rattle.jobs.proofs.lines.line_end.Goals as goal

pub returns-clause-first : goal.returns-clause-first
returns-clause-first c =
    c.unwrap_or.ensures
    ∙ ap (λ o. unwrap_or o (length c.args.input.now)) (position_from_yields_List (λ b. b == 10) _ _ _ c.position.ensures.ran (YieldsList-from_slice c.args.input.now cc) (λ x b q k. search (rules, tests)))
