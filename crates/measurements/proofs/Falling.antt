-- A list that has at each place how far another falls from there to the next place. Assumes nothing.
use Rattle.std.proofs.Common.{◌≡◌, ℕ, suc, ◌-◌, ◌<◌, List, [], ◌∷◌, length, get_or, refl, arith}
use Rattle.measurements.specs.Areas.{minus_next}

pub from_falls : (xs made : List ℕ) → length made ≡ length xs
    → ((j : ℕ) → suc j < length xs → get_or made j 0 ≡ get_or xs j 0 - get_or xs (suc j) 0)
    → ((j : ℕ) → length xs ≡ suc j → get_or made j 0 ≡ get_or xs j 0) → made ≡ minus_next xs
from_falls [] [] same falls last = refl
from_falls [] (z ∷ made) same falls last = absurd (omega arith)
from_falls (x ∷ xs) [] same falls last = absurd (omega arith)
from_falls (x ∷ []) (z ∷ []) same falls last = λ i. last 0 refl i ∷ []
from_falls (x ∷ []) (z ∷ u ∷ made) same falls last = absurd (omega arith)
from_falls (x ∷ y ∷ xs) (z ∷ made) same falls last =
    λ i. falls 0 (omega arith) i ∷ from_falls (y ∷ xs) made (omega arith) (λ j within. falls (suc j) (omega arith)) (λ j end. last (suc j) (omega arith)) i
