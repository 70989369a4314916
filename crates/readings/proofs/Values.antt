-- Floats and the fractions that they equal: what `==` tells of them, and their products.
use Rattle.std.proofs.Common.{◌≡◌, ℕ, suc, ◌*◌, ◌^◌, ◌<◌, ◌≤◌, Bool, true, false, T, ℤ, pos, negsuc, ◌*ℤ◌, nat_abs, sym, refl, ap, ◌∙◌, mul_assoc, mul_comm, mul-pos, mul_left_comm, arith}
use lib.Ieee.{Float, nan, inf, fin, Format, prec, unlike, up, down, level, eq, mul, of_int, round}
use lib.Ieee.Back.{round_whole}
use lib.Ieee.Exact.{HasValue}
use lib.Ieee.Fits.{down_pos}
use lib.Ieee.Scale.{finite, round_same}
use native.Mathlib.Nat.{mul-mul-mul_comm}
use Rattle.std.proofs.lemmas.Bool.{and_from, eq-eqb, false≢true}
use Rattle.std.proofs.lemmas.Bool.Decides.{nat_tests}
use Rattle.readings.specs.Readings.{signed}
use Rattle.readings.proofs.Integers.{negative, signed_mul, mul_cancel}

-- The float of an integer of few digits has the integer's value.
pub of_int_value : (f : Format) (c : ℤ) → nat_abs c ≤ 2 ^ prec f → HasValue (of_int f c) (negative c) (nat_abs c) 1
unfolding of_int
of_int_value f (pos n) h = round_whole f false n h
of_int_value f (negsuc n) h = round_whole f true (suc n) h

-- Two sizes with signs that `==` takes for equal are one integer.
level_signed : (s : Bool) (a : ℕ) (t : Bool) (b : ℕ) → level s a t b ≡ true → signed s a ≡ signed t b
level_signed false a false b e = grind (arith, nat_tests)
level_signed false a true b e = grind (arith, nat_tests)
level_signed true a false b e = grind (arith, nat_tests)
level_signed true a true b e = grind (arith, nat_tests)

-- What equals a finite number is finite.
pub equal_finite : (x y : Float) (s : Bool) (a p : ℕ) → HasValue x s a p → eq x y ≡ true → T (finite y)
unfolding eq
equal_finite nan y s a p v e = absurd v
equal_finite (inf t) y s a p v e = absurd v
equal_finite (fin t m d) nan s a p v e = absurd (false≢true e)
equal_finite (fin t m d) (inf u) s a p v e = absurd (false≢true e)
equal_finite (fin t m d) (fin u n f) s a p v e = tt

-- A finite number equals itself.
pub equal_itself : (x : Float) (s : Bool) (a p : ℕ) → HasValue x s a p → eq x x ≡ true
unfolding eq
equal_itself nan s a p v = absurd v
equal_itself (inf t) s a p v = absurd v
equal_itself (fin true m e) s a p v = and_from _ _ (eq-eqb (m * up e * down e) (m * up e * down e) refl) refl
equal_itself (fin false m e) s a p v = and_from _ _ (eq-eqb (m * up e * down e) (m * up e * down e) refl) refl

-- x / d is a / p, with q and e multiplied in.
multiplied_in : (x d a p q e : ℕ) → x * p ≡ a * d → a * q * (d * e) ≡ x * e * (p * q)
multiplied_in x d a p q e h = mul-mul-mul_comm a q d e ∙ ap (λ z. z * (q * e)) (sym h) ∙ simp (mul_assoc, mul_comm, mul_left_comm)

-- Numbers that are equal are equal fractions.
pub equal_values : (x y : Float) (s t : Bool) (a p b q : ℕ) → HasValue x s a p → HasValue y t b q → eq x y ≡ true → signed s (a * q) ≡ signed t (b * p)
unfolding eq
equal_values nan y s t a p b q v w h = absurd v
equal_values (inf u) y s t a p b q v w h = absurd v
equal_values (fin u m d) nan s t a p b q v w h = absurd w
equal_values (fin u m d) (inf r) s t a p b q v w h = absurd w
equal_values (fin u m d) (fin r n e) s t a p b q v w h =
    let x = m * up d in
    let y = n * up e in
    let left : a * q * (down d * down e) ≡ x * down e * (p * q) = multiplied_in x (down d) a p q (down e) v.1 in
    let right : b * p * (down d * down e) ≡ y * down d * (p * q) =
    ap (λ z. b * p * z) (mul_comm (down d) (down e)) ∙ multiplied_in y (down e) b q p (down d) w.1 ∙ ap (λ z. y * down d * z) (mul_comm q p) in
    let same : signed s (x * down e) ≡ signed t (y * down d) =
    ap (λ z. signed z (x * down e)) (sym v.0) ∙ level_signed u (x * down e) r (y * down d) h ∙ ap (λ z. signed z (y * down d)) w.0 in
    mul_cancel (signed s (a * q)) (signed t (b * p)) (down d * down e) (mul-pos (down_pos d) (down_pos e))
    (sym (signed_mul s (a * q) (down d * down e)) ∙ ap (signed s) left ∙ signed_mul s (x * down e) (p * q)
    ∙ ap (λ z. z *ℤ pos (p * q)) same
    ∙ sym (signed_mul t (y * down d) (p * q)) ∙ ap (signed t) (sym right) ∙ signed_mul t (b * p) (down d * down e))

-- A factor above zero leaves the sign.
unlike_false : (s : Bool) → unlike s false ≡ s
unlike_false true = refl
unlike_false false = refl

-- A product by a number above zero is the product of the fractions, rounded.
pub mul_value : (f : Format) (x : Float) (s : Bool) (a p n : ℕ) (d : ℤ) → 0 < p → HasValue x s a p
    → mul f x (fin false n d) ≡ round f s (a * (n * up d)) (p * down d)
unfolding mul
mul_value f nan s a p n d above v = absurd v
mul_value f (inf t) s a p n d above v = absurd v
mul_value f (fin t m e) s a p n d above v =
    ap (λ u. round f u (m * up e * (n * up d)) (down e * down d)) (unlike_false t ∙ v.0)
    ∙ round_same f s (m * up e * (n * up d)) (down e * down d) (a * (n * up d)) (p * down d)
    (mul-pos (down_pos e) (down_pos d)) (mul-pos above (down_pos d))
    (mul-mul-mul_comm (m * up e) (n * up d) p (down d) ∙ ap (λ z. z * (n * up d * down d)) v.1 ∙ mul-mul-mul_comm a (down e) (n * up d) (down d))
