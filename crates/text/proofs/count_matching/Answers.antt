-- The pairs of bytes that agree, from the front on.
use Rattle.std.proofs.Common.{ℕ, Bool, rules, tests, eqb, ◌∙◌}
use Rattle.std.proofs.lemmas.Iterator.{YieldsList-from_slice, YieldsList-from_zip}
use Rattle.std.proofs.lemmas.Iterator.Consumers.{count_from_yields_List}
use Rattle.std.proofs.lemmas.Iterator.Search.{YieldsList-from_take_while}
use Rattle.std.proofs.lemmas.List.Folds.{length-prefix_len}
use Rattle.std.specs.List.{zip}
use Rattle.text.proofs.Pieces.{prefix_len-zip}
use Rattle.text.proofs.count_matching.Goals as goal

pub returns-clause-value : goal.returns-clause-value
returns-clause-value c =
    let agree : ℕ × ℕ → Bool = λ p. eqb p.0 p.1 in
    count_from_yields_List c.take_while.result _ c.count.ensures.ran
    (YieldsList-from_take_while _ agree (YieldsList-from_zip (YieldsList-from_slice c.args.wanted.now cc) (YieldsList-from_slice c.args.text.now cc))
    c.take_while.ensures.closure c.take_while.ensures.done (λ x b q k. search (rules, tests)))
    ∙ (length-prefix_len agree (zip c.args.wanted.now c.args.text.now) ∙ prefix_len-zip eqb c.args.wanted.now c.args.text.now)
