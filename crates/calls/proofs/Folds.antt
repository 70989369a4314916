-- What loops over the heights of a sheet come to. Assumes nothing.
use Rattle.std.proofs.Common.{◌≡◌, ℕ, suc, ◌+◌, ◌≤◌, min, max, cond, eqb, ltb, List, [], ◌∷◌, map, length, get_or, fold, Some, None, refl, ap, inl, inr, arith}
use Rattle.std.specs.List.{position_or_len}
use Rattle.std.specs.Option.{unwrap_or}
use Rattle.std.proofs.lemmas.List.Recursion.{is_position_or_len}
use Rattle.std.proofs.lemmas.Bool.{cases_lt, lt-ltb, le-ltb}
use Rattle.morphology.specs.declared.extremum.Extremum.{Extremum}
use Rattle.morphology.specs.declared.extremum.Extremum.TheVariants.{Minimum, Maximum}
use Rattle.morphology.specs.Cells.{extreme_of, first_place}
use Rattle.morphology.specs.Passes.{extreme}

-- a fold of a sheet from its own first height is its least or its greatest height
pub fold_is_extreme : (which : Extremum) (f : List ℕ) → 1 ≤ length f → fold (extreme which) (get_or f 0 0) f ≡ extreme_of which f
fold_is_extreme which [] some = absurd (omega arith)
fold_is_extreme Minimum (x ∷ f) some = let same : min x x ≡ x = omega arith in ap (λ y. fold min y f) same
fold_is_extreme Maximum (x ∷ f) some = let same : max x x ≡ max 0 x = omega arith in ap (λ y. fold max y f) same

-- the first place of a height is where the first level of that height stands, or behind the last level
pub first_place-position : {X : Type 0} (height : X → ℕ) (h : ℕ) (xs : List X) → first_place h (map height xs) ≡ position_or_len (λ x. eqb (height x) h) xs
first_place-position height h = is_position_or_len (λ xs. first_place h (map height xs)) (λ x. eqb (height x) h) refl (λ x xs. let next : suc (first_place h (map height xs)) ≡ 1 + first_place h (map height xs) = omega arith in ap (cond (eqb (height x) h) 0) next)

-- a place that is told only where it is before the end, and else the end
pub told_or_end : (place end : ℕ) → place ≤ end → unwrap_or (cond (ltb place end) (Some place) None) end ≡ place
told_or_end place end within = elim (cases_lt place end) [
  | inl before ↦ rw (lt-ltb place end before) refl
  | inr behind ↦ rw (le-ltb place end behind) (omega arith)
]
