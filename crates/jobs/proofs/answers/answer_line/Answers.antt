use Rattle.std.proofs.Common.{◌≡◌, ◌++◌, List, ℕ, codes, decimal, string_bytes, sym, ap, ◌∙◌, append_assoc}
use Rattle.std.proofs.lemmas.Result.{IfOk-weaker}
use Rattle.faults.specs.Faults.{fault_text}
use Rattle.jobs.specs.Answers.{answer_text, counted}
use Rattle.jobs.proofs.answers.answer_line.Goals as goal

pub returns-in-Err : goal.returns-in-Err
returns-in-Err c =
    IfOk-weaker c.format.result _ (λ s. string_bytes s ≡ answer_text c.args.line (counted c.args.answer c.args.list.now) ++ codes "\n")
    (λ s is. is
    ∙ ap (λ (text : List ℕ). codes "! " ++ text) (sym (append_assoc (decimal c.args.line) (codes " " ++ fault_text c.in-Err.fault) (codes "\n")))
    ∙ ap (λ answer. answer_text c.args.line (counted answer c.args.list.now) ++ codes "\n") (sym c.in-Err.is))
    c.format.ensures.ok
