-- The least and the greatest of a list's heights: what bounds them, their order, and their cuts. Assumes nothing.
use Rattle.std.proofs.Common.{◌≡◌, ℕ, ◌≤◌, min, max, Bool, true, false, cond, filter, List, [], ◌∷◌, map, fold, sym, refl, subst, inl, inr, arith}
use Rattle.std.proofs.lemmas.Bool.{cases_Bool}
use Rattle.std.proofs.lemmas.Bool.Decides.{nat_tests}
use Rattle.elements.specs.Offsets.{◌∈◌}
use Rattle.morphology.specs.Cells.{extreme_of}
use Rattle.morphology.specs.Erosion.{least, greatest}
use Rattle.morphology.specs.Passes.{extreme}
use Rattle.morphology.specs.declared.extremum.Extremum.{Extremum}
use Rattle.morphology.specs.declared.extremum.Extremum.TheVariants.{Minimum, Maximum}
use Rattle.laws.proofs.Cuts.{cut_height, cut_lowest}

-- what a filter keeps is what passes
module _ {X : Type 0} (test : X → Bool) where
  pub filter_member : (xs : List X) (x : X) → x ∈ filter test xs → (x ∈ xs) × (test x ≡ true)
  filter_member [] x m = absurd m
  filter_member (y ∷ ys) x m = elim (cases_Bool (test y)) [
    | inl on ↦ elim (rw on at m) [ inl e ↦ (inl e, rw e on) | inr k ↦ let rest = filter_member ys x k in (inr rest.0, rest.1) ]
    | inr off ↦ let rest = filter_member ys x (rw off at m) in (inr rest.0, rest.1)
  ]

  pub member_filter : (xs : List X) (x : X) → x ∈ xs → test x ≡ true → x ∈ filter test xs
  member_filter [] x m passes = absurd m
  member_filter (y ∷ ys) x (inl e) passes = rw (← e, passes) (inl refl)
  member_filter (y ∷ ys) x (inr m) passes = elim (test y) as (λ b. x ∈ cond b (y ∷ filter test ys) (filter test ys)) [
    | true ↦ inr (member_filter ys x m passes)
    | false ↦ member_filter ys x m passes
  ]

module _ {X : Type 0} (op : ℕ → ℕ → ℕ) (P : ℕ → Type 0) (u : X → ℕ) where
  -- what a fold has, its start and the heights have, if the operation hands it on to both sides
  fold_tells : ((x y : ℕ) → P (op x y) → P x × P y) → (z : ℕ) (xs : List X) → P (fold op z (map u xs)) → P z × ((x : X) → x ∈ xs → P (u x))
  fold_tells both z [] p = (p, λ x m. absurd m)
  fold_tells both z (y ∷ ys) p =
      let rest = fold_tells both (op z (u y)) ys p in
      let first = both z (u y) rest.0 in
      (first.0, λ x m. elim m [ inl e ↦ subst (λ t. P (u t)) (sym e) first.1 | inr k ↦ rest.1 x k ])

  -- and the other way round
  fold_takes : ((x y : ℕ) → P x → P y → P (op x y)) → (z : ℕ) (xs : List X) → P z → ((x : X) → x ∈ xs → P (u x)) → P (fold op z (map u xs))
  fold_takes from z [] p each = p
  fold_takes from z (y ∷ ys) p each = fold_takes from (op z (u y)) ys (from z (u y) p (each y (inl refl))) (λ x m. each x (inr m))

-- the least of a list's heights is at most each, and the greatest at least; what bounds each bounds the extreme
module _ {X : Type 0} (u : X → ℕ) where
  pub least_at_most : (xs : List X) (x : X) → x ∈ xs → least (map u xs) ≤ u x
  least_at_most [] x m = absurd m
  least_at_most (y ∷ ys) x m =
      let tells = fold_tells min (λ t. least (map u (y ∷ ys)) ≤ t) u (λ s t p. (omega arith, omega arith)) (u y) ys (omega arith) in
      elim m [ inl e ↦ rw e tells.0 | inr k ↦ tells.1 x k ]

  pub at_most_least : (t : ℕ) (xs : List X) (x : X) → x ∈ xs → ((y : X) → y ∈ xs → t ≤ u y) → t ≤ least (map u xs)
  at_most_least t [] x m each = absurd m
  at_most_least t (y ∷ ys) x m each = fold_takes min (λ s. t ≤ s) u (λ r s p q. omega arith) (u y) ys (each y (inl refl)) (λ z k. each z (inr k))

  pub greatest_at_least : (xs : List X) (x : X) → x ∈ xs → u x ≤ greatest (map u xs)
  greatest_at_least xs = (fold_tells max (λ t. t ≤ greatest (map u xs)) u (λ s t p. (omega arith, omega arith)) 0 xs (omega arith)).1

  pub greatest_at_most : (t : ℕ) (xs : List X) → ((x : X) → x ∈ xs → u x ≤ t) → greatest (map u xs) ≤ t
  greatest_at_most t xs = fold_takes max (λ s. s ≤ t) u (λ r s p q. omega arith) 0 xs (omega arith)

-- the extremes of heights that are nowhere above others
pub extreme_order : {X : Type 0} (which : Extremum) (u v : X → ℕ) → ((x : X) → u x ≤ v x) → (xs : List X) → extreme_of which (map u xs) ≤ extreme_of which (map v xs)
extreme_order Minimum u v below [] = omega arith
extreme_order Minimum u v below (y ∷ ys) =
    at_most_least v _ (y ∷ ys) y (inl refl) (λ x m. omega (arith, least_at_most u (y ∷ ys) x m, below x))
extreme_order Maximum u v below xs = greatest_at_most u _ xs (λ x m. omega (arith, greatest_at_least v xs x m, below x))

-- the extreme of heights that are cut is that of the heights, cut
module _ {X : Type 0} (a : ℕ) (positive : 1 ≤ a) (u : X → ℕ) where
  both_cut : (which : Extremum) (s t : ℕ) → extreme which (cut_height a s) (cut_height a t) ≡ cut_height a (extreme which s t)
  both_cut Minimum s t = grind (arith, nat_tests)
  both_cut Maximum s t = grind (arith, nat_tests)

  fold_cut : (which : Extremum) (z s : ℕ) (xs : List X) → s ≡ cut_height a z → fold (extreme which) s (map (λ x. cut_height a (u x)) xs) ≡ cut_height a (fold (extreme which) z (map u xs))
  fold_cut which z s [] e = e
  fold_cut which z s (y ∷ ys) e = fold_cut which (extreme which z (u y)) (extreme which s (cut_height a (u y))) ys (rw e (both_cut which z (u y)))

  pub extreme_cut : (which : Extremum) (xs : List X) → extreme_of which (map (λ x. cut_height a (u x)) xs) ≡ cut_height a (extreme_of which (map u xs))
  extreme_cut Minimum [] = sym (cut_lowest a positive)
  extreme_cut Minimum (y ∷ ys) = fold_cut Minimum (u y) (cut_height a (u y)) ys refl
  extreme_cut Maximum xs = fold_cut Maximum 0 0 xs (sym (cut_lowest a positive))
