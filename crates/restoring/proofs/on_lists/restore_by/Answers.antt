use Rattle.std.proofs.Common.{◌≡◌, ℕ, ◌*◌, ◌-◌, nat_lt, false, List, length, None, sym, ap, ◌∙◌, rules}
use Rattle.std.proofs.lemmas.List.{length-map}
use Rattle.std.specs.List.{list_any}
use Rattle.levels.specs.declared.number.Number.{Number}
use Rattle.operators.specs.Maps.{times}
use Rattle.operators.specs.Restoring.{left_in_list, rebuilt, restored, restore_refusal}
use Rattle.restoring.specs.Numbers.{heights_of}
use Rattle.restoring.proofs.Adding.{none_too_high}
use Rattle.restoring.proofs.on_lists.restore_by.Goals as goal

-- a sheet of numbers that was rebuilt by some sides was so by the same sides, and is nowhere too high
record Rebuilt (swell : List ℕ → List ℕ) (cells depth n : ℕ) (pieces sheet : List ℕ) : Type 0 where
  pub same : sheet ≡ rebuilt swell cells depth pieces n
  pub low : list_any (nat_lt 65536) (rebuilt swell cells depth pieces n) ≡ false

rebuilt_low : (maps : ℕ → ℕ → List ℕ → List ℕ) (one other w h depth n : ℕ) (pieces : List ℕ) (numbers : List Number) → one ≡ w → other ≡ h
    → heights_of numbers ≡ rebuilt (maps one other) (one * other) depth pieces n → Rebuilt (maps w h) (w * h) depth n pieces (heights_of numbers)
rebuilt_low maps one other w h depth n pieces numbers wide high is =
    let same = is ∙ (λ i. rebuilt (maps (wide i) (high i)) (wide i * high i) depth pieces n) in
    record { same = same; low = ap (list_any (nat_lt 65536)) (sym same) ∙ none_too_high numbers }

pub returns-clause-answers : goal.returns-clause-answers
returns-clause-answers g c =
    let sides = c.in_ok-sides.sides in
    let steps = c.args.depth - c.args.size in
    let maps = g.M.SheetMap.maps c.args.by.now.map in
    let sheet : heights_of c.rebuild.new.sheet ≡ rebuilt (maps sides.w sides.h) (sides.w * sides.h) c.args.depth c.args.pieces.now steps = search rules in
    let low = rebuilt_low maps sides.w sides.h c.args.w c.args.h c.args.depth steps c.args.pieces.now c.rebuild.new.sheet c.in_ok-sides.ensures.0 c.in_ok-sides.ensures.1 sheet in
    search rules

pub returns-clause-answer : goal.returns-clause-answer
returns-clause-answer g c =
    let sides = c.in_ok-sides.sides in
    let steps = c.args.depth - c.args.size in
    let maps = g.M.SheetMap.maps c.args.by.now.map in
    let swell = maps c.args.w c.args.h in
    let sheet : heights_of c.rebuild.new.sheet ≡ rebuilt (maps sides.w sides.h) (sides.w * sides.h) c.args.depth c.args.pieces.now steps = search rules in
    let low = rebuilt_low maps sides.w sides.h c.args.w c.args.h c.args.depth steps c.args.pieces.now c.rebuild.new.sheet c.in_ok-sides.ensures.0 c.in_ok-sides.ensures.1 sheet in
    let none : restore_refusal swell c.args.w c.args.h c.args.depth c.args.size c.args.pieces.now (length c.args.answer.now) (length c.args.work.now) ≡ None = search rules in
    let accepted = (λ i. restore_refusal swell c.args.w c.args.h c.args.depth c.args.size c.args.pieces.now
    (length-map c.args.answer.now (λ (n : Number). n.value) i) (length-map c.args.work.now (λ (n : Number). n.value) i)) ∙ none in
    c.in_ok-apply_times.ensures.memory
    ∙ ap (times c.args.size swell) low.same
    ∙ sym (ap (λ r. left_in_list r (restored swell (c.args.w * c.args.h) c.args.depth c.args.size c.args.pieces.now) (heights_of c.args.answer.now)) accepted)
