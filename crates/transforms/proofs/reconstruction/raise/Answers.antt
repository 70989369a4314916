use Rattle.std.proofs.Common.{map, sym, subst, ap, ◌∙◌, arith}
use Rattle.std.proofs.lemmas.Bool.{false≢true}
use Rattle.std.proofs.lemmas.List.{length-map}
use Rattle.laws.specs.Maps.{Below}
use Rattle.morphology.specs.Cells.{met}
use Rattle.transforms.proofs.Raising.{next_more, next_same}
use Rattle.transforms.proofs.reconstruction.raise.Goals as goal

pub returns-then-nowhere_above-clause-round : goal.returns-then-nowhere_above-clause-round
returns-then-nowhere_above-clause-round g c =
    let height = g.L.Level.height in
    let now = map height c.args.sheet.now in
    let upper = map height c.args.upper.now in
    let above = c.args.by.now.swells c.args.sides.w c.args.sides.h now (simp length-map c.requires.sheet) in
    next_same now (map height c.apply.new.to) upper (map height c.meet.new.cells) (simp length-map (omega arith)) (simp length-map (omega arith))
    (subst (Below now) (sym c.apply.ensures) above) c.requires.under c.meet.ensures.meets (c.nowhere_above.ensures.0 c.if-nowhere_above.true)
    ∙ c.meet.ensures.meets
    ∙ ap (λ f. met f upper) c.apply.ensures

pub returns-clause-changes : goal.returns-clause-changes
returns-clause-changes g c =
    let height = g.L.Level.height in
    let now = map height c.args.sheet.now in
    let above = c.args.by.now.swells c.args.sides.w c.args.sides.h now (simp length-map c.requires.sheet) in
    let copied = ap (map height) c.copy_from_slice.ensures.after in
    next_more now (map height c.apply.new.to) (map height c.args.upper.now) (map height c.copy_from_slice.new.self) (simp length-map (omega arith)) (simp length-map (omega arith))
    (subst (Below now) (sym c.apply.ensures) above) c.requires.under (copied ∙ c.meet.ensures.meets)
    (λ back. false≢true (sym c.if-nowhere_above.false ∙ c.nowhere_above.ensures.1 (subst (λ f. Below f now) copied back)))
