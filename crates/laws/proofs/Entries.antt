-- The area of what a flat operator makes, and the difference of two such areas, as sums over the cuts. Assumes nothing.
use Rattle.std.proofs.Common.{◌≡◌, ℕ, zero, suc, ◌+◌, ◌-◌, ◌≤◌, List, length, sym, refl, ap, ◌∙◌, arith}
use Rattle.std.proofs.lemmas.List.{length-map}
use Rattle.morphology.specs.Cells.{cut}
use Rattle.morphology.specs.Sheets.{area}
use Rattle.laws.specs.Maps.{Below, FlatOperator}
use Rattle.laws.specs.Sums.{HeightsAtMost, sum_to}
use Rattle.laws.proofs.Cells.{area_order}
use Rattle.laws.proofs.Maps.{flat_topped}
use Rattle.laws.proofs.Sums.{over_same}
use Rattle.laws.proofs.SumsOfCuts.{area_over_cuts}

-- sums of differences
sum_to_minus : (top : ℕ) (f g : ℕ → ℕ) → ((a : ℕ) → 1 ≤ a → g a ≤ f a) → sum_to top (λ a. f a - g a) + sum_to top g ≡ sum_to top f
sum_to_minus zero f g below = refl
sum_to_minus (suc a) f g below = let h = sum_to_minus a f g below in let one = below (suc a) (omega arith) in omega arith

module _ (cells : ℕ) where
  -- the area of what a flat operator makes
  pub made_area_over_cuts : (made : List ℕ → List ℕ) → FlatOperator cells made → (top : ℕ) (f : List ℕ) → length f ≡ cells → HeightsAtMost top f
      → area (made f) ≡ sum_to top (λ a. area (made (cut a f)))
  made_area_over_cuts made flat top f long t =
      area_over_cuts top (made f) (flat_topped cells made flat top f long t)
      ∙ over_same ◌+◌ 0 top (λ a. area (cut a (made f))) (λ a. area (made (cut a f))) (λ a low. ap area (sym (flat.cuts a f low long)))

  -- the difference of the areas of what two of them make, where the second makes no more
  pub entry_over_cuts : (more less : List ℕ → List ℕ) → FlatOperator cells more → FlatOperator cells less
      → ((f : List ℕ) → length f ≡ cells → area (less f) ≤ area (more f)) → (top : ℕ) (f : List ℕ) → length f ≡ cells → HeightsAtMost top f
      → area (more f) - area (less f) ≡ sum_to top (λ a. area (more (cut a f)) - area (less (cut a f)))
  entry_over_cuts more less flat_more flat_less order top f long t =
      let one = made_area_over_cuts more flat_more top f long t in
      let two = made_area_over_cuts less flat_less top f long t in
      let both = sum_to_minus top (λ a. area (more (cut a f))) (λ a. area (less (cut a f))) (λ a low. order (cut a f) (length-map f _ ∙ long)) in
      omega arith

  -- and that is no more where the sheet that it makes is nowhere above
  pub less_area : (more less : List ℕ → List ℕ) → FlatOperator cells more → FlatOperator cells less
      → ((f : List ℕ) → length f ≡ cells → Below (less f) (more f)) → (f : List ℕ) → length f ≡ cells → area (less f) ≤ area (more f)
  less_area more less flat_more flat_less below f long =
      area_order (less f) (more f) (flat_less.sheet f long ∙ sym (flat_more.sheet f long)) (below f long)
