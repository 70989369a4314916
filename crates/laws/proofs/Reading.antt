-- The height at a column and a row, on a sheet and off it, and the places of a sheet made cell by cell. Assumes nothing.
use Rattle.std.proofs.Common.{◌≡◌, ℕ, zero, suc, ◌+◌, ◌*◌, ◌/◌, ◌%◌, ◌<◌, ◌≤◌, true, false, ltb, List, length, get_or, ℤ, pos, negsuc, ◌⊎◌, ◌&&◌, sym, refl, ap, inl, inr, arith, mul_comm}
use Rattle.std.proofs.lemmas.List.{get_or_past}
use Rattle.std.proofs.lemmas.List.FromFn.{get_or-map-range_with_len}
use Rattle.std.proofs.lemmas.Nat.{div-add-mod', div-mul-add, mod-mul-add, mul-add-lt, div_below, mod_below}
use Rattle.std.proofs.lemmas.Bool.{cases_Bool, cases_lt, and_parts, ltb-true, lt-ltb}
use Rattle.morphology.specs.Cells.{cut}
use Rattle.morphology.specs.Sheets.{height_at, at_place, by_cells}
use Rattle.operators.specs.Closings.{on_sheet}
use Rattle.laws.specs.Maps.{Below}
use Rattle.laws.proofs.Cuts.{cut_height, cut_lowest, get_or-cut}

-- column x and row y are those of place p of a sheet of w × h heights
pub record Stands (w h p : ℕ) (x y : ℤ) : Type 0 where
  pub within : p < w * h
  pub column : x ≡ pos (p % w)
  pub row : y ≡ pos (p / w)

wide : (w h p : ℕ) → p < w * h → 0 < w
wide zero h p within = absurd (omega arith)
wide (suc w) h p within = omega arith

module _ (w h : ℕ) where
  stands_on : (p : ℕ) → p < w * h → on_sheet w h (pos (p % w)) (pos (p / w)) ≡ true
  stands_on p within = rw (lt-ltb _ _ (mod_below p w (wide w h p within)), lt-ltb _ _ (div_below p w h (wide w h p within) (rw mul_comm within))) refl

  -- there it is on the sheet, and the height is the one at that place
  pub on_at : (p : ℕ) (x y : ℤ) → Stands w h p x y → on_sheet w h x y ≡ true
  on_at p x y s = rw (s.column, s.row) (stands_on p s.within)

  pub height_on : (p : ℕ) (x y : ℤ) → Stands w h p x y → (f : List ℕ) → height_at w h f x y ≡ get_or f p 0
  height_on p x y s f = rw (s.column, s.row, stands_on p s.within, div-add-mod') refl

  -- off the sheet every height is the lowest
  pub height_off : (x y : ℤ) → on_sheet w h x y ≡ false → (f : List ℕ) → height_at w h f x y ≡ 0
  height_off (pos m) (pos n) off f = rw off refl
  height_off (pos m) (negsuc n) off f = refl
  height_off (negsuc m) y off f = refl

  -- a column and a row are those of a place, or off the sheet
  pub place_cases : (x y : ℤ) → ((p : ℕ) × Stands w h p x y) ⊎ (on_sheet w h x y ≡ false)
  place_cases (pos m) (pos n) = elim (cases_Bool (ltb m w && ltb n h)) [
    | inl on ↦
        let parts = and_parts _ _ on in
        let narrow = ltb-true m w parts.0 in
        inl (
          n * w + m,
          record {
            within = mul-add-lt n w m h (ltb-true n h parts.1) narrow;
            column = ap pos (sym (mod-mul-add n w m narrow));
            row = ap pos (sym (div-mul-add n w m narrow));
          },
        )
    | inr off ↦ inr off
  ]
  place_cases (pos m) (negsuc n) = inr refl
  place_cases (negsuc m) y = inr refl

  -- heights keep the order of their sheets, and are cut with them
  pub height_order : (f g : List ℕ) → Below f g → (x y : ℤ) → height_at w h f x y ≤ height_at w h g x y
  height_order f g below x y = elim (place_cases x y) [
    | inl on ↦ rw (height_on on.0 x y on.1 f, height_on on.0 x y on.1 g) (below on.0)
    | inr off ↦ omega (arith, height_off x y off f)
  ]

  pub height_cut : (a : ℕ) (f : List ℕ) → 1 ≤ a → (x y : ℤ) → height_at w h (cut a f) x y ≡ cut_height a (height_at w h f x y)
  height_cut a f positive x y = elim (place_cases x y) [
    | inl on ↦ rw (height_on on.0 x y on.1 (cut a f), height_on on.0 x y on.1 f) (get_or-cut a f on.0 positive)
    | inr off ↦ rw (height_off x y off (cut a f), height_off x y off f) (sym (cut_lowest a positive))
  ]

-- the height at a place of a sheet that is made cell by cell
pub cell_at : (w h : ℕ) (cell : ℕ → ℕ → ℕ) (p : ℕ) → p < w * h → get_or (by_cells w h cell) p 0 ≡ cell (p % w) (p / w)
cell_at w h cell p within = get_or-map-range_with_len (at_place w cell) 0 (w * h) p p 0 within (omega arith)

-- a sheet is nowhere above another if it is not so at its own places
pub below_on_sheet : (cells : ℕ) (f g : List ℕ) → length f ≡ cells → ((p : ℕ) → p < cells → get_or f p 0 ≤ get_or g p 0) → Below f g
below_on_sheet cells f g long at p = elim (cases_lt p cells) [ inl on ↦ at p on | inr past ↦ rw (get_or_past f p 0 (omega arith)) (omega arith) ]
