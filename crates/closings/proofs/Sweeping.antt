-- A sweep that skips what falls outside, one offset more at a time. Assumes nothing.
use Rattle.std.proofs.Common.{◌≡◌, ℕ, ◌+◌, ◌/◌, ◌%◌, ◌<◌, Bool, true, false, ◌&&◌, cond, List, [], ◌∷◌, ◌++◌, get_or, take, ℤ, pos, ◌+ℤ◌, ◌-ℤ◌, filter, ap, ◌∙◌, inl, inr, arith}
use Rattle.std.proofs.lemmas.Bool.{cases_lt}
use Rattle.std.proofs.lemmas.Bool.Decides.{nat_tests}
use Rattle.std.proofs.lemmas.List.{append-nil}
use Rattle.std.proofs.lemmas.List.Elements.{filter-append}
use Rattle.elements.specs.Offsets.{flagged, offset_at}
use Rattle.morphology.specs.declared.operation.Operation.TheVariants.{Erosion}
use Rattle.morphology.specs.Sheets.{at_place}
use Rattle.morphology.specs.Passes.{neighbour, on_side, read_at, swept}
use Rattle.morphology.proofs.ReadAt.{back_from, neighbour-read_at, on_from}
use Rattle.morphology.proofs.Sweeping.{flagged_set, swept-push}
use Rattle.operators.specs.Closings.{on_sheet}
use Rattle.closings.specs.Passes.{lowered, neighbour_inside, swept_inside}

-- a neighbour lies on both sides where its offset stays on the sheet
sides-on_sheet : (w h c r m n : ℕ) → (on_side h n r && on_side w m c) ≡ on_sheet w h (pos m +ℤ (pos c -ℤ pos 3)) (pos n +ℤ (pos r -ℤ pos 3))
sides-on_sheet w h c r m n = elim (cases_lt (m + c) 3) [
  | inl near ↦ rw (back_from m c near) (grind (arith, nat_tests))
  | inr far ↦ elim (cases_lt (n + r) 3) [
    | inl above ↦ rw (on_from m c far, back_from n r above) (grind (arith, nat_tests))
    | inr below ↦ rw (on_from m c far, on_from n r below) (grind (arith, nat_tests))
  ]
]

module _ (w h : ℕ) (f : List ℕ) (p : ℕ) where
  abbrev stays : ℤ × ℤ → Bool
  stays o = on_sheet w h (pos (p % w) +ℤ o.0) (pos (p / w) +ℤ o.1)

  swept_inside-push : (offsets : List (ℤ × ℤ)) (o : ℤ × ℤ) → swept_inside w h f (offsets ++ o ∷ []) p ≡ lowered (stays o) (swept_inside w h f offsets p) (read_at Erosion w h f (p % w) (p / w) o)
  swept_inside-push offsets o =
      ap (λ os. swept Erosion w h f os p) (filter-append stays offsets (o ∷ [])) ∙ last (filter stays offsets) (stays o)
    where
      last : (os : List (ℤ × ℤ)) (b : Bool) → swept Erosion w h f (os ++ cond b (o ∷ []) []) p ≡ lowered b (swept Erosion w h f os p) (read_at Erosion w h f (p % w) (p / w) o)
      last os true = swept-push Erosion w h f p os o
      last os false = ap (λ xs. swept Erosion w h f xs p) (append-nil os) ∙ omega arith

  -- one turn of the sweep at a flag that is set: x is the cell before it, and y after
  pub sweep_set : (flags : List Bool) (i x y : ℕ) → i < 49 → get_or flags i false ≡ true → x ≡ swept_inside w h f (flagged 0 (take i flags)) p → y ≡ lowered (neighbour_inside w h (i % 7) (i / 7) p) x (at_place w (neighbour w h f (i % 7) (i / 7)) p) → y ≡ swept_inside w h f (flagged 0 (take (i + 1) flags)) p
  sweep_set flags i x y on held was is =
      let sides = sides-on_sheet w h (i % 7) (i / 7) (p % w) (p / w) in
      let reads = neighbour-read_at Erosion w h f i (p % w) (p / w) on in
      let more = flagged_set flags i held in
      let push = swept_inside-push (flagged 0 (take i flags)) (offset_at i) in
      cc
