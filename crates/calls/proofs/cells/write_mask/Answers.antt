use Rattle.std.proofs.Common.{◌≡◌, ◌<◌, ◌≤◌, cond, leb, [], ◌∷◌, ◌++◌, map, length, get_or, take, sym, ap, ◌∙◌, arith}
use Rattle.std.proofs.lemmas.List.{length-map, map-append, take_all, take_more, take_more_set}
use Rattle.levels.specs.Mask.{mask_height}
use Rattle.morphology.specs.Cells.{cut}
use Rattle.morphology.proofs.Passing.{height_read}
use Rattle.calls.proofs.cells.write_mask.Goals as goal

pub loop-place-preserved : goal.loop-place-preserved
loop-place-preserved g c =
    let height = g.L.Level.height in
    let heights = map height c.args.sheet.now in
    let k = c.loop-place.place in
    let a = c.args.height in
    let within : k < length heights = rw length-map (omega arith) in
    let level = c.index-sheet-place.result in
    let cell : mask_height c.mask_of.result ≡ cond (leb a (get_or heights k 0)) 1 0 =
    c.mask_of.ensures ∙ ap (λ x. cond (leb a x) 1 0) (sym (height_read height c.args.sheet.now k level (omega arith) c.index-sheet-place.is)) in
    ap (map mask_height) (take_more_set c.loop-place.mask k c.mask_of.result (omega arith))
    ∙ map-append mask_height (take k c.loop-place.mask) (c.mask_of.result ∷ [])
    ∙ (λ i. c.loop-place.invariant i ++ cell i ∷ [])
    ∙ sym (ap (cut a) (take_more heights k 0 within) ∙ map-append (λ x. cond (leb a x) 1 0) (take k heights) (get_or heights k 0 ∷ []))

pub returns : goal.returns
returns g c =
    let heights = map g.L.Level.height c.args.sheet.now in
    let whole : length c.loop-place.mask ≤ c.loop-place.place = omega arith in
    let all : length heights ≤ c.loop-place.place = rw length-map (omega arith) in
    sym (ap (map mask_height) (take_all _ c.loop-place.mask whole)) ∙ c.loop-place.invariant ∙ ap (cut c.args.height) (take_all _ heights all)
