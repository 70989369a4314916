use Rattle.std.proofs.Common.{◌≡◌, false, eqb, replicate, sym, ap, ◌∙◌, rules}
use Rattle.std.proofs.lemmas.List.{length-map}
use Rattle.std.proofs.lemmas.Bool.{cond-false}
use Rattle.bench.proofs.Memory.{heights_of_filled}
use Rattle.bench.proofs.clearing.wipe_levels.Goals as goal

pub returns : goal.returns
returns g c =
    let height = g.L.Level.height in
    let some : eqb c.args.places 0 ≡ false = search rules in
    heights_of_filled _ height 0 _ (λ x q step. search rules) _ _ c.fill_with.ensures.ran.1
    ∙ ap (λ n. replicate n 0) (c.fill_with.ensures.len ∙ sym (length-map c.args.memory.now height))
    ∙ sym (cond-false _ _ _ some)
