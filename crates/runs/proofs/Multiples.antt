-- A multiple of a sum of signed numbers. Assumes nothing.
use Rattle.std.proofs.Common.{◌≡◌, zero, suc, ℤ, pos, negsuc, ◌+ℤ◌, ◌-ℤ◌, ◌*ℤ◌, sym, ap, ◌∙◌, arith}
use Rattle.std.proofs.lemmas.Int.{ints}
use Rattle.std.proofs.Math.IntN.{pred_ℤ, pred_ℤ-*ℤ, suc_ℤ, suc_ℤ-*ℤ, zero-*ℤ}
use Rattle.laws.proofs.SumsOfCuts.{swap_int_sums}

swap_differences : (u v x y : ℤ) → (u +ℤ v) -ℤ (x +ℤ y) ≡ (u -ℤ x) +ℤ (v -ℤ y)
swap_differences u v x y = omega (arith, ints)

none_of_sum : (x y : ℤ) → pos zero *ℤ (x +ℤ y) ≡ (pos zero *ℤ x) +ℤ (pos zero *ℤ y)
none_of_sum x y = zero-*ℤ (x +ℤ y) ∙ sym (λ i. zero-*ℤ x i +ℤ zero-*ℤ y i)

-- one more and one fewer of a sum than of its parts
one_more : (m x y : ℤ) → m *ℤ (x +ℤ y) ≡ (m *ℤ x) +ℤ (m *ℤ y) → suc_ℤ m *ℤ (x +ℤ y) ≡ (suc_ℤ m *ℤ x) +ℤ (suc_ℤ m *ℤ y)
one_more m x y h =
    suc_ℤ-*ℤ m (x +ℤ y) ∙ ap (λ z. z +ℤ (x +ℤ y)) h ∙ swap_int_sums (m *ℤ x) (m *ℤ y) x y ∙ sym (λ i. suc_ℤ-*ℤ m x i +ℤ suc_ℤ-*ℤ m y i)

one_fewer : (m x y : ℤ) → m *ℤ (x +ℤ y) ≡ (m *ℤ x) +ℤ (m *ℤ y) → pred_ℤ m *ℤ (x +ℤ y) ≡ (pred_ℤ m *ℤ x) +ℤ (pred_ℤ m *ℤ y)
one_fewer m x y h =
    pred_ℤ-*ℤ m (x +ℤ y) ∙ ap (λ z. z -ℤ (x +ℤ y)) h ∙ swap_differences (m *ℤ x) (m *ℤ y) x y ∙ sym (λ i. pred_ℤ-*ℤ m x i +ℤ pred_ℤ-*ℤ m y i)

pub multiple_of_sum : (factor x y : ℤ) → factor *ℤ (x +ℤ y) ≡ (factor *ℤ x) +ℤ (factor *ℤ y)
multiple_of_sum (pos zero) x y = none_of_sum x y
multiple_of_sum (pos (suc n)) x y = one_more (pos n) x y (multiple_of_sum (pos n) x y)
multiple_of_sum (negsuc zero) x y = one_fewer (pos zero) x y (none_of_sum x y)
multiple_of_sum (negsuc (suc n)) x y = one_fewer (negsuc n) x y (multiple_of_sum (negsuc n) x y)
