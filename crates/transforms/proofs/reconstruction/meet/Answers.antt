use Rattle.std.proofs.Common.{◌≡◌, map, subst, sym, refl, ◌∙◌, rules}
use Rattle.std.proofs.lemmas.List.{length-map}
use Rattle.laws.specs.Maps.{Below}
use Rattle.laws.proofs.Reconstruction.{met_under}
use Rattle.morphology.specs.Cells.{met}
use Rattle.transforms.proofs.reconstruction.meet.Goals as goal

pub returns-clause-under : goal.returns-clause-under
returns-clause-under g c =
    let height = g.L.Level.height in
    let cells = map height c.args.cells.now in
    let upper = map height c.args.upper.now in
    let meets : map height c.keep_extremes.new.cells ≡ met cells upper = search rules in
    subst (λ f. Below f upper) (sym meets) (met_under _ cells upper (length-map _ _ ∙ sym c.requires ∙ sym (length-map _ _)) refl).below
