use Rattle.std.proofs.Common.{◌≤◌, map, sym, ap, ◌∙◌, arith}
use Rattle.std.proofs.lemmas.List.{length-map}
use Rattle.std.proofs.lemmas.Nat.{mul-le}
use Rattle.laws.proofs.Cells.{area_order}
use Rattle.morphology.specs.Sheets.{area}
use Rattle.transforms.proofs.Counting.{area_at_most, counted_all, counted_more, counted_none}
use Rattle.transforms.proofs.reconstruction.settle.Goals as goal

pub loop-sides-init : goal.loop-sides-init
loop-sides-init g c = record { under = c.requires.under; counted = counted_none _ _ _ }

-- the raised sheet is under the upper one
raised_within : (g : _) (c : goal.Else-not-raise g) → area (map g.L.Level.height c.raise.new.sheet) ≤ area (map g.L.Level.height c.args.upper.now)
raised_within g c =
    let height = g.L.Level.height in
    area_order (map height c.raise.new.sheet) (map height c.args.upper.now)
    (length-map c.raise.new.sheet height ∙ c.raise.auto.sheet ∙ c.loop-sides.auto.sheet ∙ c.requires.sheet ∙ sym c.requires.upper ∙ sym (length-map c.args.upper.now height)) c.raise.ensures.under

pub overflow_add-count : goal.overflow_add-count
overflow_add-count g c =
    let sides = c.args.sides in
    let most = area_at_most g.L.Level.height 65536 (λ x. omega (arith, g.met.L.Level.within x, g.met.L.Level.bounded)) c.loop-sides.sheet in
    omega (arith, most, c.loop-sides.invariant.counted.area_more, mul-le sides.w sides.h 1024 1024 sides.wide sides.high)

pub loop-sides-smaller : goal.loop-sides-smaller
loop-sides-smaller g c = omega (arith, c.if-not-raise.ensures.changes, raised_within g c)

pub loop-sides-preserved : goal.loop-sides-preserved
loop-sides-preserved g c =
    let height = g.L.Level.height in
    record {
      under = c.raise.ensures.under;
      counted = counted_more _ _ _ _ _ c.loop-sides.invariant.counted (map height c.raise.new.sheet) c.raise.ensures.round c.if-not-raise.ensures.changes (raised_within g c);
    }

pub returns-clause-rounds : goal.returns-clause-rounds
returns-clause-rounds g c =
    let height = g.L.Level.height in
    counted_all _ _ _ _ _ c.loop-sides.invariant.counted (sym c.raise.ensures.round ∙ ap (map height) c.if-not-raise.ensures.changes)
