use Rattle.std.proofs.Common.{◌≡◌, ◌+◌, ◌*◌, ◌-◌, ◌≤◌, replicate, ap, ◌∙◌, arith, rules}
use Rattle.std.proofs.lemmas.Result.{err_from_is_err_and}
use Rattle.operators.specs.Restoring.{piece_of}
use Rattle.restoring.specs.Numbers.{heights_of}
use Rattle.restoring.proofs.Adding.{first_rebuilt, next_rebuilt, stays_high}
use Rattle.restoring.proofs.rebuilding.rebuild.Goals as goal

pub returns-in_err-add_piece : goal.returns-in_err-add_piece
returns-in_err-add_piece g c =
    let sides = c.args.sides in
    let swell = g.M.SheetMap.maps c.args.by.now.map sides.w sides.h in
    let cells = sides.w * sides.h in
    let above = c.args.by.now.swells sides.w sides.h in
    let back = err_from_is_err_and c.from_residual.result c.from_residual.ensures.1 in
    let none : heights_of c.clear.new.list ≡ replicate cells 0 = search rules in
    let last = c.piece.ensures ∙ ap (λ n. piece_of n c.args.pieces.now c.args.depth) c.cells-cells.ensures in
    let sum = first_rebuilt cells swell c.requires.keeps above c.args.depth c.args.pieces.now c.requires.pieces (heights_of c.clear.new.list) c.piece.result.now none last in
    let steps : c.args.depth - c.args.size ≤ c.args.depth = omega arith in
    rw (back.1, back.2) (
      c.in_err-add_piece.ensures.0,
      stays_high cells swell c.requires.keeps above c.args.depth c.args.pieces.now c.requires.pieces 0 (c.args.depth - c.args.size) _ sum (omega arith) steps c.in_err-add_piece.ensures.1,
    )

pub loop-n-init : goal.loop-n-init
loop-n-init g c =
    let sides = c.args.sides in
    let swell = g.M.SheetMap.maps c.args.by.now.map sides.w sides.h in
    let none : heights_of c.clear.new.list ≡ replicate (sides.w * sides.h) 0 = search rules in
    let last = c.piece.ensures ∙ ap (λ n. piece_of n c.args.pieces.now c.args.depth) c.cells-cells.ensures in
    c.in_ok-add_piece.ensures
    ∙ first_rebuilt (sides.w * sides.h) swell c.requires.keeps (c.args.by.now.swells sides.w sides.h) c.args.depth c.args.pieces.now c.requires.pieces
    (heights_of c.clear.new.list) c.piece.result.now none last

pub returns-in_err-add_piece-2 : goal.returns-in_err-add_piece-2
returns-in_err-add_piece-2 g c =
    let sides = c.args.sides in
    let swell = g.M.SheetMap.maps c.args.by.now.map sides.w sides.h in
    let cells = sides.w * sides.h in
    let n = c.loop-n.n in
    let above = c.args.by.now.swells sides.w sides.h in
    let back = err_from_is_err_and c.from_residual-in_err-add_piece-2.result c.from_residual-in_err-add_piece-2.ensures.1 in
    let swollen : heights_of c.apply.new.to ≡ swell (heights_of c.loop-n.sheet) = search rules in
    let next = c.piece-in-loop-n.ensures ∙ ap (λ k. piece_of k c.args.pieces.now (c.args.depth - n - 1)) c.cells-cells.ensures in
    let sum = next_rebuilt cells swell c.requires.keeps above c.args.depth c.args.pieces.now c.requires.pieces n (heights_of c.loop-n.sheet) (heights_of c.apply.new.to) c.piece-in-loop-n.result.now
    c.loop-n.invariant swollen next in
    let earlier : n + 1 ≤ c.args.depth - c.args.size = omega arith in
    let steps : c.args.depth - c.args.size ≤ c.args.depth = omega arith in
    rw (back.1, back.2) (
      c.in_err-add_piece-2.ensures.0,
      stays_high cells swell c.requires.keeps above c.args.depth c.args.pieces.now c.requires.pieces (n + 1) (c.args.depth - c.args.size) _ sum earlier steps c.in_err-add_piece-2.ensures.1,
    )
