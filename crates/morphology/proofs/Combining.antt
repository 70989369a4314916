-- Meet and join of two lists of heights, one height more at a time and at each place. Assumes nothing.
use Rattle.std.proofs.Common.{◌≡◌, ℕ, zero, suc, ◌<◌, List, [], ◌∷◌, ◌++◌, ◌+◌, length, map, get_or, set, take, drop, sym, refl, ap, ◌∙◌, add-one, arith}
use Rattle.std.proofs.lemmas.List.{get_or-map, map-set}
use Rattle.morphology.specs.declared.extremum.Extremum.{Extremum}
use Rattle.morphology.specs.declared.extremum.Extremum.TheVariants.{Minimum, Maximum}
use Rattle.morphology.specs.Cells.{cell_by_cell, combined}
use Rattle.morphology.specs.Passes.{extreme}
use Rattle.morphology.proofs.TakenTogether.{get_or-shorter}

-- the first list, its first k heights combined with those of the second
abbrev pub combined_below : (ℕ → ℕ → ℕ) → ℕ → List ℕ → List ℕ → List ℕ
combined_below op k f g = cell_by_cell op (take k f) (take k g) ++ drop k f

-- the height at k is still the first list's
get_or-combined_below : (op : ℕ → ℕ → ℕ) (k : ℕ) (f g : List ℕ) → length g ≡ length f → get_or (combined_below op k f g) k 0 ≡ get_or f k 0
get_or-combined_below op zero f g same = refl
get_or-combined_below op (suc k) [] g same = refl
get_or-combined_below op (suc k) (x ∷ f) [] same = absurd (omega arith)
get_or-combined_below op (suc k) (x ∷ f) (y ∷ g) same = get_or-combined_below op k f g (omega arith)

combined_below_suc : (op : ℕ → ℕ → ℕ) (k : ℕ) (f g : List ℕ) → length g ≡ length f → k < length f → set (combined_below op k f g) k (op (get_or f k 0) (get_or g k 0)) ≡ combined_below op (suc k) f g
combined_below_suc op k [] g same within = absurd (omega arith)
combined_below_suc op k (x ∷ f) [] same within = absurd (omega arith)
combined_below_suc op zero (x ∷ f) (y ∷ g) same within = refl
combined_below_suc op (suc k) (x ∷ f) (y ∷ g) same within = ap (λ rest. op x y ∷ rest) (combined_below_suc op k f g (omega arith) (omega arith))

-- one cell more of a list xs whose first k cells are combined: y is written at k, and o is the height of the other
pub combined_more : {X : Type 0} (height : X → ℕ) (which : Extremum) (f g : List ℕ) (xs : List X) (k : ℕ) (d y : X) (o : ℕ) → length g ≡ length f → length xs ≡ length f → k < length f → o ≡ get_or g k 0 → height y ≡ extreme which (height (get_or xs k d)) o → map height xs ≡ combined_below (extreme which) k f g → map height (set xs k y) ≡ combined_below (extreme which) (k + 1) f g
combined_more height which f g xs k d y o same long within other kept below =
    let first : height (get_or xs k d) ≡ get_or f k 0 =
    sym (get_or-map height xs k d 0 (omega arith)) ∙ ap (λ zs. get_or zs k 0) below ∙ get_or-combined_below (extreme which) k f g same in
    map-set height xs k y
    ∙ ap (λ zs. set zs k (height y)) below
    ∙ ap (set (combined_below (extreme which) k f g) k) (kept ∙ ap (λ z. extreme which z o) first ∙ ap (extreme which (get_or f k 0)) other)
    ∙ combined_below_suc (extreme which) k f g same within
    ∙ ap (λ n. combined_below (extreme which) n f g) (sym (add-one k))

combined_by_extreme : (which : Extremum) (f g : List ℕ) → cell_by_cell (extreme which) f g ≡ combined which f g
combined_by_extreme Minimum f g = refl
combined_by_extreme Maximum f g = refl

pub get_or-combined : (which : Extremum) (f g : List ℕ) (k : ℕ) → k < length f → k < length g → get_or (combined which f g) k 0 ≡ extreme which (get_or f k 0) (get_or g k 0)
get_or-combined which f g k a b = ap (λ xs. get_or xs k 0) (sym (combined_by_extreme which f g)) ∙ get_or-shorter (extreme which) f g k 0 0 (omega arith)
