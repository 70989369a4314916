-- The least and the greatest height of a sheet are heights of it, and their spots are their first places. Assumes nothing.
use Rattle.std.proofs.Common.{◌≡◌, ℕ, zero, suc, ◌+◌, ◌*◌, ◌/◌, ◌%◌, ◌<◌, ◌≤◌, ◌≢◌, ◌⊎◌, List, [], ◌∷◌, length, get_or, fold, sym, refl, ◌∙◌, subst, inl, inr, arith}
use Rattle.std.proofs.lemmas.Nat.{div-add-mod', mod_below}
use Rattle.std.proofs.lemmas.Bool.{cases_eq, cases_lt, cond-true, cond-false, eq-eqb, ne_eqb}
use Rattle.morphology.specs.declared.extremum.Extremum.{Extremum}
use Rattle.morphology.specs.declared.extremum.Extremum.TheVariants.{Minimum, Maximum}
use Rattle.morphology.specs.Cells.{extreme_of, first_place}
use Rattle.morphology.specs.Passes.{extreme}
use Rattle.morphology.proofs.Extremes.{absorbs_right, absorbs_start}
use Rattle.calls.specs.Queries.{SpotsAreFirstExtremes}
use Rattle.calls.proofs.Folds.{fold_is_extreme}

-- the extreme of two heights is one of them
one_of_two : (which : Extremum) (x y : ℕ) → (extreme which x y ≡ x) ⊎ (extreme which x y ≡ y)
one_of_two Minimum x y = elim (cases_lt x y) [ inl l ↦ inl (omega arith) | inr g ↦ inr (omega arith) ]
one_of_two Maximum x y = elim (cases_lt x y) [ inl l ↦ inr (omega arith) | inr g ↦ inl (omega arith) ]

-- a height stands somewhere on a sheet
abbrev On : List ℕ → ℕ → Type 0
On f x = (k : ℕ) × (k < length f) × (get_or f k 0 ≡ x)

-- a fold of extremes is what it started from or a height of the sheet
fold_attained : (which : Extremum) (a : ℕ) (f : List ℕ) → (fold (extreme which) a f ≡ a) ⊎ On f (fold (extreme which) a f)
fold_attained which a [] = inl refl
fold_attained which a (x ∷ f) = elim (fold_attained which (extreme which a x) f) [
  | inl same ↦ elim (one_of_two which a x) [
    | inl start ↦ inl (same ∙ start)
    | inr head ↦ inr (0, omega arith, sym (same ∙ head))
  ]
  | inr on ↦ inr (suc on.0, omega (arith, on.1), on.2)
]

-- and absorbs each height of the sheet
fold_absorbs : (which : Extremum) (a : ℕ) (f : List ℕ) (k : ℕ) → k < length f → extreme which (fold (extreme which) a f) (get_or f k 0) ≡ fold (extreme which) a f
fold_absorbs which a [] k within = absurd (omega arith)
fold_absorbs which a (x ∷ f) zero within = absorbs_right which (fold (extreme which) (extreme which a x) f) a x (absorbs_start which (extreme which a x) f)
fold_absorbs which a (x ∷ f) (suc k) within = fold_absorbs which (extreme which a x) f k (omega arith)

module _ (which : Extremum) (f : List ℕ) (some : 1 ≤ length f) where
  whole : fold (extreme which) (get_or f 0 0) f ≡ extreme_of which f
  whole = fold_is_extreme which f some

  extreme_on : On f (extreme_of which f)
  extreme_on = elim (fold_attained which (get_or f 0 0) f) [
    | inl same ↦ (0, some, sym same ∙ whole)
    | inr on ↦ (on.0, on.1, on.2 ∙ whole)
  ]

  extreme_absorbs : (k : ℕ) → k < length f → extreme which (extreme_of which f) (get_or f k 0) ≡ extreme_of which f
  extreme_absorbs k within = subst (λ x. extreme which x (get_or f k 0) ≡ x) whole (fold_absorbs which (get_or f 0 0) f k within)

-- the first place of a height that stands on the sheet
module _ (x : ℕ) where
  first_on : (f : List ℕ) → On f x → (first_place x f < length f) × (get_or f (first_place x f) 0 ≡ x)
  first_on [] (k, within, here) = absurd (omega arith)
  first_on (y ∷ f) (zero, within, here) = rw (eq-eqb y x here) (omega arith, here)
  first_on (y ∷ f) (suc k, within, here) = elim (cases_eq y x) [
    | inl same ↦ rw (eq-eqb y x same) (omega arith, same)
    | inr other ↦ let rest = first_on f (k, omega arith, here) in rw (ne_eqb y x other) (omega (arith, rest.0), rest.1)
  ]

  none_before : (f : List ℕ) (k : ℕ) → k < first_place x f → get_or f k 0 ≢ x
  none_before [] k before here = omega arith
  none_before (y ∷ f) zero before here = omega (arith, cond-true _ 0 (suc (first_place x f)) (eq-eqb y x here))
  none_before (y ∷ f) (suc k) before here = elim (cases_eq y x) [
    | inl same ↦ omega (arith, cond-true _ 0 (suc (first_place x f)) (eq-eqb y x same))
    | inr other ↦ none_before f k (omega (arith, cond-false _ 0 (suc (first_place x f)) (ne_eqb y x other))) here
  ]

pub spots_are_first_extremes : SpotsAreFirstExtremes
spots_are_first_extremes which w f wide some =
    let x = extreme_of which f in
    let p = first_place x f in
    let on = first_on x f (extreme_on which f some) in
    let place : p / w * w + p % w ≡ p = div-add-mod' p w in
    record {
      column = mod_below p w wide;
      on_sheet = rw place on.0;
      there = rw place on.1;
      extreme = extreme_absorbs which f some;
      first = rw place (none_before x f);
    }
