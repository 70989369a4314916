-- The calls that tell of a sheet on a bench or copy it out: what each refuses, in order, and what it tells. Assumes nothing.
use Rattle.std.specs.Prelude.{◌≡◌, ℕ, ◌+◌, ◌*◌, ◌/◌, ◌%◌, ◌<◌, ◌≤◌, not, ◌&&◌, ◌≢◌, List, length, Ok, Err, Option, Result, ◌==◌, nat_le, slice_index}
use Rattle.limits.specs.declared.fault.Fault.{Fault}
use Rattle.limits.specs.declared.fault.Fault.TheVariants.{Length, SheetPlace, FactorOrHeight}
use Rattle.limits.specs.Faults.{first, tells}
use Rattle.morphology.specs.Cells.{extreme_of, first_place}
use Rattle.morphology.specs.Passes.{extreme}
use Rattle.morphology.specs.Sheets.{area}
use Rattle.morphology.specs.declared.extremum.Extremum.{Extremum}
use Rattle.morphology.specs.declared.extremum.Extremum.TheVariants.{Minimum, Maximum}
use Rattle.bench.specs.Model.{Outline, State, is_place, sheet_of}
use Rattle.bench.specs.Calls.{sheet_refusal}
use Rattle.calls.specs.declared.spot.Spot.{Spot}

-- area: the sum of the heights
abbrev pub area_answer : State (List ℕ) → ℕ → Result ℕ Fault
area_answer s k = tells (sheet_refusal s.outline k) (area (sheet_of s k))

-- show: the list's length, then what any call refuses that reads the sheet
abbrev pub show_sheet_refusal : Outline → ℕ → ℕ → Option Fault
show_sheet_refusal o k len = first (not (len == o.w * o.h)) Length (sheet_refusal o k)

-- cut: the list's length, then the place, then the height, 1 to the kind's top, then the visit and the sheet
abbrev pub cut_refusal : ℕ → Outline → ℕ → ℕ → ℕ → Option Fault
cut_refusal top o k a len =
    first (not (len == o.w * o.h)) Length
    (first (not (is_place o.places k)) SheetPlace
    (first (not (nat_le 1 a && nat_le a top)) FactorOrHeight
    (sheet_refusal o k)))

-- the column, the row and the height of a spot
abbrev pub spot_numbers : {L : Type 0} → (L → ℕ) → Spot L → ℕ × ℕ × ℕ
spot_numbers height spot = (spot.column, spot.row, height spot.level)

-- of a sheet with rows of w cells, the first cell in reading order that has the least or the greatest height, and that height
abbrev pub extreme_spot : Extremum → ℕ → List ℕ → ℕ × ℕ × ℕ
extreme_spot which w f = let p = first_place (extreme_of which f) f in (p % w, p / w, extreme_of which f)

-- It is what its words say: a cell of the sheet with that height; no cell of the sheet is lower (higher); none before it in
-- reading order is as low (as high).
pub record FirstExtreme (which : Extremum) (w : ℕ) (f : List ℕ) (spot : ℕ × ℕ × ℕ) : Type 0 where
  pub column : spot.0 < w
  pub on_sheet : spot.1 * w + spot.0 < length f
  pub there : slice_index f (spot.1 * w + spot.0) ≡ spot.2
  pub extreme : (k : ℕ) → k < length f → extreme which spot.2 (slice_index f k) ≡ spot.2
  pub first : (k : ℕ) → k < spot.1 * w + spot.0 → slice_index f k ≢ spot.2

-- the spots that are told of a sheet with cells are what the words say
abbrev pub SpotsAreFirstExtremes : Type 0
SpotsAreFirstExtremes = (which : Extremum) (w : ℕ) (f : List ℕ) → 1 ≤ w → 1 ≤ length f → FirstExtreme which w f (extreme_spot which w f)

-- span tells the least and the greatest
abbrev pub span_answer : State (List ℕ) → ℕ → Result ((ℕ × ℕ × ℕ) × (ℕ × ℕ × ℕ)) Fault
span_answer s k =
    let sheet = sheet_of s k in
    tells (sheet_refusal s.outline k) (extreme_spot Minimum s.outline.w sheet, extreme_spot Maximum s.outline.w sheet)

-- what was told, with a height for each level
abbrev pub spots_told : {L : Type 0} → (L → ℕ) → Result (Spot L × Spot L) Fault → Result ((ℕ × ℕ × ℕ) × (ℕ × ℕ × ℕ)) Fault
spots_told height (Ok (least, greatest)) = Ok (spot_numbers height least, spot_numbers height greatest)
spots_told height (Err fault) = Err fault
