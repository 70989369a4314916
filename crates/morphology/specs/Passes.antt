-- Which of two heights is kept, and what one pass of an offset over a sheet does. Assumes nothing.
use Rattle.std.specs.Prelude.{ℕ, ◌+◌, ◌-◌, ◌*◌, ◌/◌, ◌%◌, min, max, Bool, cond, ◌&&◌, List, map, ℤ, pos, ◌+ℤ◌, ◌-ℤ◌, fold, nat_le, nat_lt, slice_index}
use Rattle.morphology.specs.Sheets.{height_at}
use Rattle.morphology.specs.declared.extremum.Extremum.{Extremum}
use Rattle.morphology.specs.declared.extremum.Extremum.TheVariants.{Minimum, Maximum}
use Rattle.morphology.specs.declared.operation.Operation.{Operation}
use Rattle.morphology.specs.declared.operation.Operation.TheVariants.{Erosion, Dilation}

-- the lesser or the greater of two heights
abbrev pub extreme : Extremum → ℕ → ℕ → ℕ
extreme Minimum x y = min x y
extreme Maximum x y = max x y

-- erosion keeps the lesser of two heights, dilation the greater
abbrev pub kept_by : Operation → Extremum
kept_by Erosion = Minimum
kept_by Dilation = Maximum

-- An offset's side from −3 to 3 is told as a number from 0 to 6, three more than it.
-- Dilation reads at the opposite offset.
abbrev pub turned : Operation → ℕ → ℕ
turned Erosion c = c
turned Dilation c = 6 - c

-- whether the neighbour c − 3 cells on lies on a side of that length
abbrev pub on_side : ℕ → ℕ → ℕ → Bool
on_side side x c = nat_le 3 (x + c) && nat_lt (x + c) (side + 3)

-- the height at the neighbour of column m and row n that lies c − 3 columns and r − 3 rows on; outside counts as lowest
abbrev pub neighbour : ℕ → ℕ → List ℕ → ℕ → ℕ → ℕ → ℕ → ℕ
neighbour w h f c r m n = cond (on_side h n r && on_side w m c) (slice_index f ((n + r - 3) * w + (m + c - 3))) 0

-- the height that an operation reads from column m and row n at the offset o
abbrev pub read_at : Operation → ℕ → ℕ → List ℕ → ℕ → ℕ → ℤ × ℤ → ℕ
read_at Erosion w h f m n o = height_at w h f (pos m +ℤ o.0) (pos n +ℤ o.1)
read_at Dilation w h f m n o = height_at w h f (pos m -ℤ o.0) (pos n -ℤ o.1)

-- the extreme of a cell's own height and of all that the operation reads from it
abbrev pub swept : Operation → ℕ → ℕ → List ℕ → List (ℤ × ℤ) → ℕ → ℕ
swept op w h f offsets p = fold (extreme (kept_by op)) (slice_index f p) (map (read_at op w h f (p % w) (p / w)) offsets)

-- the height that column m of a row of w cells reads in the row f, c − 3 columns on; outside counts as lowest
abbrev pub in_row : ℕ → List ℕ → ℕ → ℕ → ℕ
in_row w f c m = cond (on_side w m c) (slice_index f (m + c - 3)) 0
