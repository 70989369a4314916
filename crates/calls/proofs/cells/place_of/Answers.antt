use Rattle.std.proofs.Common.{eqb, length, sym, ap, ◌∙◌, rules}
use Rattle.std.specs.Option.{unwrap_or}
use Rattle.std.proofs.lemmas.Iterator.{YieldsList-from_slice}
use Rattle.std.proofs.lemmas.Iterator.Search.{position_from_yields_List}
use Rattle.std.proofs.lemmas.List.Sums.{prefix_len-le-length}
use borrow.Author.Tests.{tests}
use Rattle.calls.proofs.Folds.{first_place-position, told_or_end}
use Rattle.calls.proofs.cells.place_of.Goals as goal

pub returns : goal.returns
returns g c =
    let height = g.L.Level.height in
    let sheet = c.args.sheet.now in
    c.unwrap_or.ensures
    ∙ ap (λ found. unwrap_or found (length sheet)) (position_from_yields_List (λ x. eqb (height x) (height c.args.level)) _ _ c.position.result c.position.ensures.ran (YieldsList-from_slice sheet cc) (λ x b q k. search (rules, tests)))
    ∙ told_or_end _ _ (prefix_len-le-length _ sheet)
    ∙ sym (first_place-position height (height c.args.level) sheet)
