-- Integers as a sign and a size, and their multiples.
use Rattle.std.proofs.Common.{◌≡◌, ℕ, zero, suc, ◌*◌, ◌<◌, Bool, true, false, ℤ, pos, negsuc, ◌*ℤ◌, neg_ℤ, nat_abs, sym, refl, ap, ◌∙◌, zero-lt-suc, mul-pos, zero-mul, arith}
use native.Mathlib.Nat.{eq_of_mul-eq-mul_right}
use Rattle.std.proofs.lemmas.Int.{ints}
use Rattle.readings.specs.Readings.{signed}

-- Whether an integer is below zero.
abbrev pub negative : ℤ → Bool
negative (pos n) = false
negative (negsuc n) = true

-- A number with a sign has that number for its size.
pub nat_abs-signed : (s : Bool) (n : ℕ) → nat_abs (signed s n) ≡ n
nat_abs-signed false n = refl
nat_abs-signed true zero = refl
nat_abs-signed true (suc n) = refl

-- The sign of a product with a natural number is that of the first factor.
pub signed_mul : (s : Bool) (a n : ℕ) → signed s (a * n) ≡ signed s a *ℤ pos n
signed_mul false a n = refl
signed_mul true zero n = ap (λ k. neg_ℤ (pos k)) (zero-mul n) ∙ sym (ap pos (zero-mul n))
signed_mul true (suc a) n = refl

-- A multiple of an integer, by its sign and its size.
pub signed_multiple : (c : ℤ) (n : ℕ) → signed (negative c) (nat_abs c * n) ≡ c *ℤ pos n
signed_multiple (pos a) n = refl
signed_multiple (negsuc a) n = refl

-- A factor above zero can be cancelled.
pub mul_cancel : (c d : ℤ) (n : ℕ) → 0 < n → c *ℤ pos n ≡ d *ℤ pos n → c ≡ d
mul_cancel (pos a) (pos b) n p e = ap pos (eq_of_mul-eq-mul_right n p a b (omega (arith, ints)))
mul_cancel (pos a) (negsuc b) n p e = let q : 0 < suc b * n = mul-pos (zero-lt-suc b) p in absurd (omega (arith, ints))
mul_cancel (negsuc a) (pos b) n p e = let q : 0 < suc a * n = mul-pos (zero-lt-suc a) p in absurd (omega (arith, ints))
mul_cancel (negsuc a) (negsuc b) n p e = ap (λ k. neg_ℤ (pos k)) (eq_of_mul-eq-mul_right n p (suc a) (suc b) (omega (arith, ints)))
