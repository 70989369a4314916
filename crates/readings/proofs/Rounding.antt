-- A float times a power of two is rounded to itself, unless it overflows.
use Rattle.std.proofs.Common.{◌≡◌, ℕ, zero, suc, ◌+◌, ◌-◌, ◌*◌, ◌/◌, ◌%◌, ◌^◌, ◌<◌, ◌≤◌, Bool, true, false, cond, ◌&&◌, T, eqb, ltb, leb, ℤ, pos, negsuc, sym, ap, ◌∙◌, subst, suc-le-suc, zero-lt-suc, mul_assoc, mul_comm, mul-pos, lt_of_not-le, zero-mul, mul-one, mul_right_comm, not-le_of_lt, div-one, mul-div_cancel, mul_left_comm, arith, ltb→lt, leb→le, pow_pos, pow-add, shl_lt}
use Prim.Native.Nat.{compare}
use lib.Ieee.{fin, inf, Format, prec, emax, low, up, down, nearest, odd, units, round, size, fits}
use lib.Ieee.Digits.{size-le, back}
use lib.Ieee.Exact.{HasValue, round_exact}
use lib.Ieee.Fits.{and_l, and_r, down_pos, round_is}
use lib.Ieee.Nearest.{closest, closest_same}
use lib.Ieee.Order.{drop, kept}
use lib.Ieee.Scale.{finite, grid, overflow}
use lib.Pow.{pow-lt}
use native.Mathlib.Nat.{mod-one}

-- A finite result is below the least number that overflows.
units_under : (f : Format) (s : Bool) (q k : ℕ) → T (finite (units f s q k)) → q * 2 ^ k < overflow f
unfolding units
units_under f s q k = under (ltb (q * 2 ^ k) (overflow f)) (ltb→lt (q * 2 ^ k) (overflow f))
  where
    under : (b : Bool) → (T b → q * 2 ^ k < overflow f) → T (finite (cond b (odd (suc (prec f)) s q k (low f)) (inf s))) → q * 2 ^ k < overflow f
    under true h t = h tt
    under false h t = absurd t

-- A whole number is the nearest one to itself.
closest_whole : (n : ℕ) → closest n 1 ≡ n
closest_whole n = ap (λ r. nearest (n / 1) (compare (r * 2) 1)) (mod-one n) ∙ div-one n

-- A number of few digits times a power of two, in units of the format's smallest value, is rounded to itself.
grid_exact : (f : Format) (num den q j : ℕ) → 0 < den → q < 2 ^ prec f → num * 2 ^ low f ≡ q * 2 ^ j * den → grid f num den ≡ q * 2 ^ j
grid_exact f num den q j above few e =
    let n = num * 2 ^ low f in
    let k = drop (prec f) n den in
    let whole : n / den ≡ q * 2 ^ j = ap (λ x. x / den) e ∙ mul-div_cancel (q * 2 ^ j) above in
    let digits : size (n / den) ≤ prec f + j = size-le (n / den) (prec f + j) (subst (λ x. x < 2 ^ (prec f + j)) (sym whole) (shl_lt (prec f) j few)) in
    let dropped : k ≤ j = omega arith in
    let r = q * 2 ^ (j - k) in
    let again : r * 2 ^ k ≡ q * 2 ^ j = mul_assoc q (2 ^ (j - k)) (2 ^ k) ∙ ap (λ x. q * x) (sym (pow-add 2 (j - k) k) ∙ ap (λ x. 2 ^ x) (back j k dropped)) in
    let same : closest n (den * 2 ^ k) ≡ closest r 1 =
    closest_same n (den * 2 ^ k) r 1 (mul-pos above (pow_pos k)) (zero-lt-suc 0)
    (mul-one n ∙ e ∙ ap (λ x. x * den) (sym again) ∙ simp (mul_assoc, mul_comm, mul_left_comm)) in
    ap (λ x. x * 2 ^ k) (same ∙ closest_whole r) ∙ again

-- So a finite result is the fraction itself.
round_finite : (f : Format) (s : Bool) (num den q j : ℕ) → 0 < den → q < 2 ^ prec f → num * 2 ^ low f ≡ q * 2 ^ j * den
    → T (finite (round f s num den)) → HasValue (round f s num den) s num den
round_finite f s num den q j above few e t =
    round_exact f s num den q j above few
    (subst (λ x. x < overflow f) (grid_exact f num den q j above few e)
    (units_under f s (kept (prec f) (num * 2 ^ low f) den) (drop (prec f) (num * 2 ^ low f) den) (subst (λ x. T (finite x)) (round_is f s num den) t)))
    e

-- A float that fits has few digits, and no more than the format's places after the point.
fits_parts : (f : Format) (s : Bool) (m : ℕ) (e : ℤ) → T (fits f (fin s (suc m) e)) → (suc m < 2 ^ prec f) × (down e ≤ 2 ^ low f)
unfolding fits
fits_parts f s m e t =
    let uneven : Bool = eqb (suc m % 2) 1 in
    let short : Bool = ltb (suc m) (2 ^ prec f) in
    let fine : Bool = leb (down e) (2 ^ low f) in
    let parts = and_l (uneven && short && fine) (ltb (suc m * up e) (2 ^ suc (emax f) * down e)) t in
    (ltb→lt (suc m) (2 ^ prec f) (and_r uneven short (and_l (uneven && short) fine parts)), leb→le (down e) (2 ^ low f) (and_r (uneven && short) fine parts))

-- It is a number of few digits times a power of two, in units of the format's smallest value.
few_digits : (f : Format) (s : Bool) (m : ℕ) (e : ℤ) → T (fits f (fin s m e))
    → (q : ℕ) × (j : ℕ) × (q < 2 ^ prec f) × (m * up e * 2 ^ low f ≡ q * 2 ^ j * down e)
few_digits f s zero e t = (0, 0, pow_pos (prec f), simp zero-mul)
few_digits f s (suc m) (pos k) t = (
  suc m,
  k + low f,
  (fits_parts f s m (pos k) t).0,
  mul_assoc (suc m) (2 ^ k) (2 ^ low f) ∙ ap (λ x. suc m * x) (sym (pow-add 2 k (low f))) ∙ sym (mul-one (suc m * 2 ^ (k + low f))),
)
few_digits f s (suc m) (negsuc k) t =
    let parts = fits_parts f s m (negsuc k) t in
    let fine : suc k ≤ low f = lt_of_not-le (λ g. not-le_of_lt (pow-lt {i = low f} {j = suc k} (suc-le-suc g)) parts.1) in (
      suc m,
      low f - suc k,
      parts.0,
      ap (λ x. x * 2 ^ low f) (mul-one (suc m))
          ∙ ap (λ x. suc m * x) (ap (λ x. 2 ^ x) (sym (back (low f) (suc k) fine)) ∙ pow-add 2 (low f - suc k) (suc k))
          ∙ sym (mul_assoc (suc m) (2 ^ (low f - suc k)) (2 ^ suc k)),
    )

-- A float times 2 ^ t is rounded to itself, unless it overflows.
pub power_exact : (f : Format) (s : Bool) (m : ℕ) (e : ℤ) (t : ℕ) → T (fits f (fin s m e))
    → T (finite (round f s (m * up e * 2 ^ t) (down e))) → HasValue (round f s (m * up e * 2 ^ t) (down e)) s (m * up e * 2 ^ t) (down e)
power_exact f s m e t fit =
    let digits = few_digits f s m e fit in
    let q = digits.0 in
    let j = digits.1 in
    round_finite f s (m * up e * 2 ^ t) (down e) q (j + t) (down_pos e) digits.2
    (mul_right_comm (m * up e) (2 ^ t) (2 ^ low f) ∙ ap (λ x. x * 2 ^ t) digits.3 ∙ mul_right_comm (q * 2 ^ j) (down e) (2 ^ t)
    ∙ ap (λ x. x * down e) (mul_assoc q (2 ^ j) (2 ^ t) ∙ ap (λ x. q * x) (sym (pow-add 2 j t))))
