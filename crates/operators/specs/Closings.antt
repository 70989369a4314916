-- Closings. Assumes nothing.
use Rattle.std.specs.Prelude.{ℕ, ◌-◌, Bool, false, ◌&&◌, List, map, ℤ, pos, negsuc, ◌+ℤ◌, filter, nat_lt}
use Rattle.std.specs.List.{range_with_len}
use Rattle.morphology.specs.Erosion.{dilated, least}
use Rattle.morphology.specs.Sheets.{area, by_cells, height_at}
use Rattle.operators.specs.Maps.{times}

-- whether column m and row n lie on a sheet of w × h heights
abbrev pub on_sheet : ℕ → ℕ → ℤ → ℤ → Bool
on_sheet w h (pos m) (pos n) = nat_lt m w && nat_lt n h
on_sheet w h (pos m) (negsuc n) = false
on_sheet w h (negsuc m) n = false

-- the erosion that skips offsets falling outside, at column m and row n: the least of f(m + i, n + j) over the offsets (i, j) that
-- stay on the sheet
abbrev pub erosion_inside_at : ℕ → ℕ → List (ℤ × ℤ) → List ℕ → ℕ → ℕ → ℕ
erosion_inside_at w h offsets f m n =
    least (map (λ o. height_at w h f (pos m +ℤ o.0) (pos n +ℤ o.1))
    (filter (λ o. on_sheet w h (pos m +ℤ o.0) (pos n +ℤ o.1)) offsets))

abbrev pub eroded_inside : ℕ → ℕ → List (ℤ × ℤ) → List ℕ → List ℕ
eroded_inside w h offsets f = by_cells w h (erosion_inside_at w h offsets f)

-- closing of size k: k dilations, then k erosions that skip offsets falling outside; size 0 is the sheet itself
abbrev pub closing : (List ℕ → List ℕ) → (List ℕ → List ℕ) → ℕ → List ℕ → List ℕ
closing swell shrink_inside k f = times k shrink_inside (times k swell f)

-- closing of size k by an element of these offsets
abbrev pub closed_by : ℕ → ℕ → List (ℤ × ℤ) → ℕ → List ℕ → List ℕ
closed_by w h offsets = closing (dilated w h offsets) (eroded_inside w h offsets)

-- The entry of size −n of a pattern spectrum, where `close k` is the closing of size k: the area of the closing of size n minus that of
-- the size before. And the entries of the sizes from −depth to −1.
abbrev pub closing_entry : (ℕ → List ℕ → List ℕ) → List ℕ → ℕ → ℕ
closing_entry close f n = area (close n f) - area (close (n - 1) f)

abbrev pub closing_entries : (ℕ → List ℕ → List ℕ) → ℕ → List ℕ → List ℕ
closing_entries close depth f = map (λ n. closing_entry close f (depth - n)) (range_with_len 0 depth)
