-- Places of the square, and the offsets that stand there.
use Rattle.std.proofs.Common.{◌≡◌, ℕ, ◌/◌, ◌%◌, ◌<◌, ◌≤◌, false, ℤ, pos, negsuc, ◌+ℤ◌, ◌-ℤ◌, nat_abs, ap, ◌∙◌, arith}
use Rattle.std.proofs.lemmas.Int.{ints}
use Rattle.std.proofs.lemmas.Bool.Decides.{nat_tests}
use Rattle.elements.specs.Offsets.{Near, offset_at, place_of}
use Rattle.elements.specs.Cards.{far}

-- The test for −3 to 3 tells it.
pub near_if_not_far : (z : ℤ) → far z ≡ false → Near z
near_if_not_far (pos n) e = (grind (arith, nat_tests, ints), grind (arith, nat_tests, ints))
near_if_not_far (negsuc n) e = (grind (arith, nat_tests, ints), grind (arith, nat_tests, ints))

pub not_far_if_near : (z : ℤ) → Near z → far z ≡ false
not_far_if_near (pos n) (l, r) = grind (arith, nat_tests, ints)
not_far_if_near (negsuc n) (l, r) = grind (arith, nat_tests, ints)

-- A column or a row of the square, counted from 0, is 0 to 6.
side_within : (z : ℤ) → far z ≡ false → nat_abs (z +ℤ pos 3) ≤ 6
side_within (pos n) e = grind (arith, nat_tests, ints)
side_within (negsuc n) e = grind (arith, nat_tests, ints)

side_back : (z : ℤ) → far z ≡ false → pos (nat_abs (z +ℤ pos 3)) -ℤ pos 3 ≡ z
side_back (pos n) e = omega (arith, ints)
side_back (negsuc n) e = grind (arith, nat_tests, ints)

module _ (column row : ℤ) (near_column : far column ≡ false) (near_row : far row ≡ false) where
  pub place_within : place_of column row < 49
  place_within = omega (arith, side_within column near_column, side_within row near_row)

  pub offset_at_place : offset_at (place_of column row) ≡ (column, row)
  offset_at_place =
      let i : place_of column row % 7 ≡ nat_abs (column +ℤ pos 3) = omega (arith, side_within column near_column) in
      let j : place_of column row / 7 ≡ nat_abs (row +ℤ pos 3) = omega (arith, side_within column near_column) in
      ap (λ k. (pos k -ℤ pos 3, pos (place_of column row / 7) -ℤ pos 3)) i
      ∙ ap (λ k. (pos (nat_abs (column +ℤ pos 3)) -ℤ pos 3, pos k -ℤ pos 3)) j
      ∙ ap (λ z. (z, pos (nat_abs (row +ℤ pos 3)) -ℤ pos 3)) (side_back column near_column)
      ∙ ap (λ z. (column, z)) (side_back row near_row)

-- No two places have the same offset.
pub offset_at_injective : (j k : ℕ) → offset_at j ≡ offset_at k → j ≡ k
offset_at_injective j k e =
    let c : pos (j % 7) -ℤ pos 3 ≡ pos (k % 7) -ℤ pos 3 = ap (λ o. o.0) e in
    let r : pos (j / 7) -ℤ pos 3 ≡ pos (k / 7) -ℤ pos 3 = ap (λ o. o.1) e in
    let p : j % 7 ≡ k % 7 = omega (arith, ints) in
    let q : j / 7 ≡ k / 7 = omega (arith, ints) in
    omega arith

-- The offset at a place of the square is −3 to 3 both ways.
pub near_offset_at : (k : ℕ) → k < 49 → Near (offset_at k).0 × Near (offset_at k).1
near_offset_at k h =
    let column : k % 7 ≤ 6 = omega arith in
    let row : k / 7 ≤ 6 = omega arith in
    ((omega (arith, ints), omega (arith, ints)), (omega (arith, ints), omega (arith, ints)))
