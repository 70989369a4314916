use Rattle.std.proofs.Common.{◌+◌, refl, sym, ◌∙◌, arith}
use Rattle.std.proofs.lemmas.List.{length-map}
use Rattle.levels.specs.declared.number.Number.{Number}
use Rattle.morphology.proofs.Passing.{height_read}
use Rattle.morphology.proofs.TakenTogether.{from_cells}
use Rattle.restoring.specs.Numbers.{heights_of}
use Rattle.restoring.proofs.Adding.{sum_too_high, sums_more}
use Rattle.restoring.proofs.rebuilding.add_piece.Goals as goal

pub returns-in_default : goal.returns-in_default
returns-in_default c =
    let read = height_read (λ (n : Number). n.value) c.args.sheet.now c.loop-k.k c.index-sheet-k.result (omega arith) c.index-sheet-k.is in (
      refl,
      sum_too_high (heights_of c.args.sheet.now) c.args.piece.now c.loop-k.k (length-map _ _ ∙ omega arith) (rw length-map (omega arith))
          (omega (arith, read, c.height.ensures, c.saturating_add.ensures, c.in_default.ensures)),
    )

pub loop-k-preserved : goal.loop-k-preserved
loop-k-preserved c =
    let read = height_read (λ (n : Number). n.value) c.args.sheet.now c.loop-k.k c.index-sheet-k.result (omega arith) c.index-sheet-k.is in
    sums_more (λ (n : Number). n.value) c.loop-k.sums (heights_of c.args.sheet.now) c.args.piece.now c.loop-k.k c.in-Some.number (omega arith)
    (omega (arith, read, c.height.ensures, c.saturating_add.ensures, c.in-Some.ensures, c.in-Some.number.fits)) c.loop-k.invariant

pub returns : goal.returns
returns c =
    from_cells ◌+◌ (heights_of c.args.sheet.now) c.args.piece.now 0 0 (heights_of c.loop-k.sums) (length-map _ _ ∙ omega arith ∙ sym (length-map _ _)) (omega arith ∙ sym (length-map _ _))
    (λ k within. c.loop-k.invariant k (omega (arith, length-map c.loop-k.sums (λ (n : Number). n.value))))
