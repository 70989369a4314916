-- Heights, sheets, areas and differences as sums over the cuts. Assumes nothing.
use Rattle.std.proofs.Common.{◌≡◌, ℕ, zero, suc, ◌+◌, ◌-◌, ◌≤◌, min, List, [], ◌∷◌, ℤ, pos, ◌+ℤ◌, ◌-ℤ◌, sym, refl, ap, ◌∙◌, arith}
use Rattle.std.proofs.lemmas.Bool.Decides.{nat_tests}
use Rattle.std.proofs.lemmas.Int.{ints}
use Rattle.std.proofs.lemmas.List.{map-id}
use Rattle.morphology.specs.declared.extremum.Extremum.{Extremum}
use Rattle.laws.proofs.Extremes.{extreme_cut}
use Rattle.morphology.specs.Cells.{extreme_of, cut}
use Rattle.morphology.specs.Sheets.{area}
use Rattle.operators.specs.Skeletons.{minus}
use Rattle.laws.specs.Sums.{IntListSum, ListSum, SheetsAreSumsOfCuts, HeightsAtMost, int_sum_to, fold_heights, sum_to}
use Rattle.operators.specs.Tallies.{differed}
use Rattle.laws.proofs.Cells.{area-cons}
use Rattle.laws.proofs.Cuts.{cuts_alike, height_topped, cut_height, topped_rest}
use Rattle.laws.proofs.Sums.{cells_over_cuts, list_fold_append, list_fold_none, list_fold_one, over_both, over_same}

pub swap_sums : (w x y z : ℕ) → (w + x) + (y + z) ≡ (w + y) + (x + z)
swap_sums w x y z = omega arith

pub swap_int_sums : (w x y z : ℤ) → (w +ℤ x) +ℤ (y +ℤ z) ≡ (w +ℤ y) +ℤ (x +ℤ z)
swap_int_sums w x y z = omega (arith, ints)

-- two heights, and the sums of what their cuts differ by
sum_of_minus : (top x y : ℕ) → sum_to top (λ a. cut_height a x - cut_height a y) ≡ min x top - min y top
sum_of_minus zero x y = omega arith
sum_of_minus (suc a) x y = let h = sum_of_minus a x y in grind (arith, nat_tests)

sum_of_differences : (top x y : ℕ) → int_sum_to top (λ a. pos (cut_height a x) -ℤ pos (cut_height a y)) ≡ pos (min x top) -ℤ pos (min y top)
sum_of_differences zero x y = omega (arith, ints)
sum_of_differences (suc a) x y = ap (λ z. z +ℤ (pos (cut_height (suc a) x) -ℤ pos (cut_height (suc a) y))) (sum_of_differences a x y) ∙ step a x y
  where
    below : (a x : ℕ) → min x a + cut_height (suc a) x ≡ min x (suc a)
    below a x = grind (arith, nat_tests)

    step : (a x y : ℕ) → (pos (min x a) -ℤ pos (min y a)) +ℤ (pos (cut_height (suc a) x) -ℤ pos (cut_height (suc a) y)) ≡ pos (min x (suc a)) -ℤ pos (min y (suc a))
    step a x y = let one = below a x in let two = below a y in omega (arith, ints)

-- a height is the sum of its cuts
pub height_over_cuts : (top x : ℕ) → x ≤ top → x ≡ sum_to top (λ a. cut_height a x)
height_over_cuts top x below = let same : min x top ≡ x = omega arith in sym same ∙ all top x
  where
    all : (top x : ℕ) → min x top ≡ sum_to top (λ a. cut_height a x)
    all zero x = omega arith
    all (suc a) x = let h = all a x in grind (arith, nat_tests)

pub sheets_are_sums_of_cuts : SheetsAreSumsOfCuts
sheets_are_sums_of_cuts top [] t = list_fold_none ◌+◌ 0 refl top
sheets_are_sums_of_cuts top (x ∷ f) t =
    list_fold_append ◌+◌ 0 top (x ∷ []) f (λ a. cut_height a x ∷ []) (λ a. cut a f)
    (list_fold_one ◌+◌ 0 refl top x (λ a. cut_height a x) (height_over_cuts top x (t 0))) (sheets_are_sums_of_cuts top f (topped_rest top x f t))

pub minus_over_cuts : (top : ℕ) (f g : List ℕ) → HeightsAtMost top f → HeightsAtMost top g → ListSum top (minus f g) (λ a. minus (cut a f) (cut a g))
minus_over_cuts top = cells_over_cuts ◌+◌ 0 refl top ◌-◌ (λ x y one two. let s = sum_of_minus top x y in omega arith)

pub differed_over_cuts : (top : ℕ) (f g : List ℕ) → HeightsAtMost top f → HeightsAtMost top g → IntListSum top (differed f g) (λ a. differed (cut a f) (cut a g))
differed_over_cuts top = cells_over_cuts ◌+ℤ◌ (pos 0) refl top (λ x y. pos x -ℤ pos y) (λ x y one two.
    let left : min x top ≡ x = omega arith in
    let right : min y top ≡ y = omega arith in
    (λ i. pos (sym left i) -ℤ pos (sym right i)) ∙ sym (sum_of_differences top x y))

-- the area of a sheet is the sum of the areas of its cuts
pub area_over_cuts : (top : ℕ) (f : List ℕ) → HeightsAtMost top f → area f ≡ sum_to top (λ a. area (cut a f))
area_over_cuts top [] t = none top
  where
    none : (top : ℕ) → 0 ≡ sum_to top (λ a. 0)
    none zero = refl
    none (suc a) = let h = none a in omega arith
area_over_cuts top (x ∷ f) t =
    area-cons x f
    ∙ (λ i. height_over_cuts top x (t 0) i + area_over_cuts top f (topped_rest top x f t) i)
    ∙ sym (over_both ◌+◌ 0 refl swap_sums top (λ a. cut_height a x) (λ a. area (cut a f)))
    ∙ ap (fold_heights ◌+◌ 0 top) (λ i a. sym (area-cons (cut_height a x) (cut a f)) i)

-- and its least and greatest height are the sums of those of its cuts
pub extreme_over_cuts : (which : Extremum) (top : ℕ) (f : List ℕ) → HeightsAtMost top f → extreme_of which f ≡ sum_to top (λ a. extreme_of which (cut a f))
extreme_over_cuts which top f t =
    height_over_cuts top (extreme_of which f) (height_topped top (extreme_of which f) (λ j.
    sym (extreme_of_cut (suc top) (omega arith)) ∙ ap (extreme_of which) (cuts_alike top f t j) ∙ extreme_of_cut (suc top + j) (omega arith)))
    ∙ over_same ◌+◌ 0 top _ _ (λ a low. sym (extreme_of_cut a low))
  where
    extreme_of_cut : (a : ℕ) → 1 ≤ a → extreme_of which (cut a f) ≡ cut_height a (extreme_of which f)
    extreme_of_cut a low = extreme_cut a low (λ x. x) which f ∙ ap (λ g. cut_height a (extreme_of which g)) (map-id f)
