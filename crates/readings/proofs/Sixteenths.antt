-- Degrees that are a count of sixteenths: the test by which they are found, and the way back.
use Rattle.std.proofs.Common.{◌≡◌, ℕ, zero, suc, ◌*◌, ◌^◌, ◌<◌, ◌≤◌, Bool, true, false, T, ℤ, pos, negsuc, nat_abs, sym, refl, ap, ◌∙◌, subst, le_trans, lt_of_lt_of_le, zero-lt-suc, mul_assoc, mul-one, arith, lit≤, le→leb, lt→ltb, leb→le, shl_lt}
use lib.Ieee.{Float, nan, inf, fin, binary32, up, down, eq, mul, of_int, to_signed, round, fits, in_float}
use lib.Ieee.Back.{round_whole, positive_back, negative_back}
use lib.Ieee.Exact.{HasValue, round_exact}
use lib.Ieee.Fits.{down_pos}
use lib.Ieee.Scale.{round_same}
use lib.Signed.{le_z_yes, mag, nat_abs-le}
use Rattle.readings.specs.Readings.{signed, IsCount, IsCountOf, IsSixteenths, SixteenthsAreExact, sixteenth}
use Rattle.readings.proofs.Integers.{negative, nat_abs-signed, signed_mul, signed_multiple, mul_cancel}
use Rattle.readings.proofs.Rounding.{power_exact}
use Rattle.readings.proofs.Values.{of_int_value, equal_finite, equal_itself, equal_values, mul_value}

-- ---- counts

-- A count is a number that sixteen bits hold.
pub count_small : (c : ℤ) → IsCount c → mag c < 2 ^ 15
count_small (pos n) h = let k = leb→le n 32767 h.1.le in omega arith
count_small (negsuc n) h = let k = leb→le n 32767 h.0.le in omega arith

-- What sixteen bits hold is a count.
pub small_count : (c : ℤ) → mag c < 2 ^ 15 → IsCount c
small_count (pos n) h = (le_z_yes tt, le_z_yes (le→leb n 32767 (omega arith)))
small_count (negsuc n) h = (le_z_yes (le→leb n 32767 (omega arith)), le_z_yes tt)

-- The float of a count has the count's value.
count_value : (c : ℤ) → mag c < 2 ^ 15 → HasValue (of_int binary32 c) (negative c) (nat_abs c) 1
count_value c h = of_int_value binary32 c (le_trans (nat_abs-le c h) (lit≤ tt))

-- ---- sixteenths

-- A number is c ÷ 16 for at most one c.
pub sixteenths_once : (x : Float) (c d : ℤ) → IsSixteenths x c → IsSixteenths x d → c ≡ d
sixteenths_once nan c d p q = absurd p
sixteenths_once (inf s) c d p q = absurd p
sixteenths_once (fin s m e) c d p q = mul_cancel c d (down e) (down_pos e) (sym p ∙ q)

-- A number of the value n ÷ 16, with a sign, is that many sixteenths.
value_sixteenths : (x : Float) (s : Bool) (n : ℕ) → HasValue x s n 16 → IsSixteenths x (signed s n)
value_sixteenths nan s n v = v
value_sixteenths (inf t) s n v = v
value_sixteenths (fin t m e) s n v = ap (λ u. signed u (m * up e * 16)) v.0 ∙ ap (signed s) v.1 ∙ signed_mul s n (down e)

-- What is c ÷ 16 has that value, with c's sign unless c is 0.
sixteenths_value : (x : Float) (c : ℤ) → IsSixteenths x c → (s : Bool) × HasValue x s (nat_abs c) 16 × (signed s (nat_abs c) ≡ c)
sixteenths_value nan c v = absurd v
sixteenths_value (inf t) c v = absurd v
sixteenths_value (fin s m e) c v =
    let size : m * up e * 16 ≡ nat_abs c * down e =
    sym (nat_abs-signed s (m * up e * 16)) ∙ ap nat_abs (v ∙ sym (signed_multiple c (down e))) ∙ nat_abs-signed (negative c) (nat_abs c * down e) in (
      s,
      (refl, size),
      mul_cancel (signed s (nat_abs c)) c (down e) (down_pos e) (sym (signed_mul s (nat_abs c) (down e)) ∙ ap (signed s) (sym size) ∙ v),
    )

-- ---- the test

-- 16, as a float.
abbrev pub sixteen : Float
sixteen = fin false 1 (pos 4)

-- Degrees that pass the test are that count of sixteenths.
pub passed_counts : (x : Float) (c : ℤ) → T (fits binary32 x) → mag c < 2 ^ 15 → eq (of_int binary32 c) (mul binary32 x sixteen) ≡ true
    → IsSixteenths x c
unfolding mul
passed_counts nan c t h same = equal_finite (of_int binary32 c) nan (negative c) (nat_abs c) 1 (count_value c h) same
passed_counts (inf s) c t h same = equal_finite (of_int binary32 c) (inf _) (negative c) (nat_abs c) 1 (count_value c h) same
passed_counts (fin s m e) c t h same =
    let num = m * up e * 16 in
    let y = round binary32 s num (down e) in
    let v = count_value c h in
    let scaled : mul binary32 (fin s m e) sixteen ≡ y =
    mul_value binary32 (fin s m e) s (m * up e) (down e) 1 (pos 4) (down_pos e) (refl, refl) ∙ ap (round binary32 s num) (mul-one (down e)) in
    let equal : eq (of_int binary32 c) y ≡ true = subst (λ z. eq (of_int binary32 c) z ≡ true) scaled same in
    let w = power_exact binary32 s m e 4 t (equal_finite (of_int binary32 c) y (negative c) (nat_abs c) 1 v equal) in
    ap (signed s) (sym (mul-one num))
    ∙ sym (equal_values (of_int binary32 c) y (negative c) s (nat_abs c) 1 num (down e) v w equal)
    ∙ signed_multiple c (down e)

-- A whole number in range is found, and passes the test; minus zero is found as 0.
whole_passes : (s : Bool) (n : ℕ) → mag (signed s n) < 2 ^ 15
    → (to_signed 15 (round binary32 s n 1) ≡ signed s n) × (eq (of_int binary32 (signed s n)) (round binary32 s n 1) ≡ true)
unfolding of_int in_float to_signed eq
whole_passes false n h =
    let few : n ≤ 2 ^ 24 = omega arith in
    ((positive_back binary32 15 n (le→leb n (2 ^ 24) few) h).1, equal_itself (round binary32 false n 1) false n 1 (round_whole binary32 false n few))
whole_passes true zero h = (refl, refl)
whole_passes true (suc n) h =
    let few : suc n ≤ 2 ^ 24 = omega arith in
    ((negative_back binary32 15 n (lt→ltb n (2 ^ 24) few) h).1, equal_itself (round binary32 true (suc n) 1) true (suc n) 1 (round_whole binary32 true (suc n) few))

-- Degrees that are a count of sixteenths are found, and pass the test.
pub count_passes : (x : Float) (c : ℤ) → IsCountOf x c
    → (to_signed 15 (mul binary32 x sixteen) ≡ c) × (eq (of_int binary32 c) (mul binary32 x sixteen) ≡ true)
count_passes x c h =
    let p = sixteenths_value x c h.1 in
    let s = p.0 in
    let n = nat_abs c in
    let scaled : mul binary32 x sixteen ≡ round binary32 s n 1 =
    mul_value binary32 x s n 16 1 (pos 4) (zero-lt-suc 15) p.1
    ∙ round_same binary32 s (n * 16) 16 n 1 (zero-lt-suc 15) (zero-lt-suc 0) (mul-one (n * 16)) in
    let w = whole_passes s n (subst (λ z. mag z < 2 ^ 15) (sym p.2) (count_small c h.0)) in
    (ap (to_signed 15) scaled ∙ w.0 ∙ p.2, ap (eq (of_int binary32 c)) scaled ∙ ap (λ z. eq (of_int binary32 z) (round binary32 s n 1)) (sym p.2) ∙ w.1)

-- ---- the way back

-- n ÷ 16, for an n of few digits, is rounded to itself.
round_sixteenth : (s : Bool) (n : ℕ) → n < 2 ^ 24 → HasValue (round binary32 s n 16) s n 16
round_sixteenth s n h =
    round_exact binary32 s n 16 n 145 (zero-lt-suc 15) h (lt_of_lt_of_le (shl_lt 24 145 h) (lit≤ tt)) (sym (mul_assoc n (2 ^ 145) 16))

-- The degrees told are exact.
pub told_exactly : SixteenthsAreExact
told_exactly (pos n) h = let small = count_small (pos n) h in value_sixteenths (sixteenth (pos n)) false n (round_sixteenth false n (omega arith))
told_exactly (negsuc n) h = let small = count_small (negsuc n) h in value_sixteenths (sixteenth (negsuc n)) true (suc n) (round_sixteenth true (suc n) (omega arith))

-- 1 ÷ 16, as a float.
abbrev pub one_sixteenth : Float
one_sixteenth = fin false 1 (negsuc 3)

-- A sixteenth of a count's float is the float of the count's sixteenth.
pub scaled_down : (c : ℤ) → mag c < 2 ^ 15 → mul binary32 (of_int binary32 c) one_sixteenth ≡ sixteenth c
scaled_down (pos n) h =
    mul_value binary32 (of_int binary32 (pos n)) false n 1 1 (negsuc 3) (zero-lt-suc 0) (count_value (pos n) h)
    ∙ ap (λ z. round binary32 false z 16) (mul-one n)
scaled_down (negsuc n) h =
    mul_value binary32 (of_int binary32 (negsuc n)) true (suc n) 1 1 (negsuc 3) (zero-lt-suc 0) (count_value (negsuc n) h)
    ∙ ap (λ z. round binary32 true z 16) (mul-one (suc n))
