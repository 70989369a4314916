-- The least and the greatest of some heights, as folds from a height that is among them. Assumes nothing.
use Rattle.std.proofs.Common.{◌≡◌, ℕ, suc, ◌≤◌, max, List, [], ◌∷◌, fold, sym, refl, ap, ◌∙◌, arith}
use Rattle.morphology.specs.declared.extremum.Extremum.{Extremum}
use Rattle.morphology.specs.declared.extremum.Extremum.TheVariants.{Minimum, Maximum}
use Rattle.morphology.specs.Erosion.{least, greatest}
use Rattle.morphology.specs.Passes.{extreme}

-- what absorbs the extreme of two heights absorbs both
pub absorbs_left : (which : Extremum) (z a x : ℕ) → extreme which z (extreme which a x) ≡ z → extreme which z a ≡ z
absorbs_left Minimum z a x e = omega arith
absorbs_left Maximum z a x e = omega arith

pub absorbs_right : (which : Extremum) (z a x : ℕ) → extreme which z (extreme which a x) ≡ z → extreme which z x ≡ z
absorbs_right Minimum z a x e = omega arith
absorbs_right Maximum z a x e = omega arith

extreme_same : (which : Extremum) (a : ℕ) → extreme which a a ≡ a
extreme_same Minimum a = omega arith
extreme_same Maximum a = omega arith

-- a fold absorbs what it starts from
pub absorbs_start : (which : Extremum) (a : ℕ) (xs : List ℕ) → extreme which (fold (extreme which) a xs) a ≡ fold (extreme which) a xs
absorbs_start which a [] = extreme_same which a
absorbs_start which a (x ∷ xs) = absorbs_left which (fold (extreme which) (extreme which a x) xs) a x (absorbs_start which (extreme which a x) xs)

-- a fold from the extreme of two heights
pub fold_from_both : (which : Extremum) (a x : ℕ) (xs : List ℕ) → fold (extreme which) (extreme which a x) xs ≡ extreme which a (fold (extreme which) x xs)
fold_from_both which a x [] = refl
fold_from_both which a x (y ∷ ys) = ap (λ z. fold (extreme which) z ys) (regroup which a x y) ∙ fold_from_both which a (extreme which x y) ys
  where
    regroup : (which : Extremum) (a x y : ℕ) → extreme which (extreme which a x) y ≡ extreme which a (extreme which x y)
    regroup Minimum a x y = omega arith
    regroup Maximum a x y = omega arith

-- the fold from a is the least where a is no less than some height of the list: then the fold from above a is at most a
pub fold_is_least : (a : ℕ) (xs : List ℕ) → fold (extreme Minimum) (suc a) xs ≤ a → fold (extreme Minimum) a xs ≡ least xs
fold_is_least a [] low = absurd (omega arith)
fold_is_least a (x ∷ xs) low =
    let above = fold_from_both Minimum (suc a) x xs in
    fold_from_both Minimum a x xs ∙ omega arith

-- the fold from a is the greatest where a is no more than that
pub fold_is_greatest : (a : ℕ) (xs : List ℕ) → a ≤ greatest xs → fold (extreme Maximum) a xs ≡ greatest xs
fold_is_greatest a xs high =
    let onto : max a 0 ≡ a = omega arith in
    ap (λ z. fold (extreme Maximum) z xs) (sym onto) ∙ fold_from_both Maximum a 0 xs ∙ omega arith
