-- Sheets cell by cell: the cut of what two make together; the order of sheets; and the area. Assumes nothing.
use Rattle.std.proofs.Common.{◌≡◌, ℕ, zero, suc, ◌+◌, ◌≤◌, max, min, List, [], ◌∷◌, length, get_or, sym, refl, arith}
use Rattle.std.proofs.lemmas.Bool.Decides.{nat_tests}
use Rattle.std.proofs.lemmas.Grind.{same_number_lists}
use Rattle.std.proofs.lemmas.List.Sums.{sum_by-cons}
use Rattle.morphology.specs.Cells.{cell_by_cell, cut, joined, met}
use Rattle.morphology.specs.Sheets.{area}
use Rattle.laws.specs.Maps.{Below}
use Rattle.laws.specs.Sums.{HeightsAtMost}
use Rattle.laws.proofs.Cuts.{cut_height, get_or-cut}

-- the cut of two sheets taken together is their cuts taken together, where that holds of two heights
pub cut-cell_by_cell : (op : ℕ → ℕ → ℕ) (a : ℕ) → ((x y : ℕ) → cut_height a (op x y) ≡ op (cut_height a x) (cut_height a y)) → (f g : List ℕ) → cut a (cell_by_cell op f g) ≡ cell_by_cell op (cut a f) (cut a g)
cut-cell_by_cell op a each [] g = refl
cut-cell_by_cell op a each (x ∷ f) [] = refl
cut-cell_by_cell op a each (x ∷ f) (y ∷ g) = λ i. each x y i ∷ cut-cell_by_cell op a each f g i

pub cut-met : (a : ℕ) (f g : List ℕ) → cut a (met f g) ≡ met (cut a f) (cut a g)
cut-met a = cut-cell_by_cell min a (λ x y. grind (arith, nat_tests))

pub cut-joined : (a : ℕ) (f g : List ℕ) → cut a (joined f g) ≡ joined (cut a f) (cut a g)
cut-joined a = cut-cell_by_cell max a (λ x y. grind (arith, nat_tests))

-- two sheets of one length, each nowhere above the other, are equal
pub same_from_below : (f g : List ℕ) → length f ≡ length g → Below f g → Below g f → f ≡ g
same_from_below f g same up down = same_number_lists f g same (λ p h. omega (arith, up p, down p))

-- a sheet with no height above the top is nowhere above another if none of its cuts is above the other's
pub below_from_cuts : (top : ℕ) (f g : List ℕ) → HeightsAtMost top f → ((a : ℕ) → 1 ≤ a → a ≤ top → Below (cut a f) (cut a g)) → Below f g
below_from_cuts top f g topped cuts p = at_height (get_or f p 0) (get_or g p 0) (topped p) (λ a above within. rw (sym (get_or-cut a f p above), sym (get_or-cut a g p above)) (cuts a above within p))
  where
    at_height : (x y : ℕ) → x ≤ top → ((a : ℕ) → 1 ≤ a → a ≤ top → cut_height a x ≤ cut_height a y) → x ≤ y
    at_height zero y within some = omega arith
    at_height (suc x) y within some = let here = some (suc x) (omega arith) within in grind (arith, nat_tests)

-- the area of a sheet with one cell more in front
pub area-cons : (x : ℕ) (f : List ℕ) → area (x ∷ f) ≡ x + area f
area-cons = sum_by-cons (λ x. x)

-- the area respects the order of sheets, and of two sheets of one area neither is below the other
pub area_order : (f g : List ℕ) → length f ≡ length g → Below f g → area f ≤ area g
area_order [] g same below = omega arith
area_order (x ∷ f) [] same below = absurd (omega arith)
area_order (x ∷ f) (y ∷ g) same below = omega (arith, area-cons x f, area-cons y g, below 0, area_order f g (omega arith) (λ p. below (suc p)))

pub same_from_area : (f g : List ℕ) → length f ≡ length g → Below f g → area g ≤ area f → f ≡ g
same_from_area [] [] same below areas = refl
same_from_area [] (y ∷ g) same below areas = absurd (omega arith)
same_from_area (x ∷ f) [] same below areas = absurd (omega arith)
same_from_area (x ∷ f) (y ∷ g) same below areas =
    let rest = λ (p : ℕ). below (suc p) in
    let more : area f ≤ area g = area_order f g (omega arith) rest in
    let head : x ≡ y = omega (arith, area-cons x f, area-cons y g, below 0) in
    λ i. head i ∷ same_from_area f g (omega arith) rest (omega (arith, area-cons x f, area-cons y g)) i
