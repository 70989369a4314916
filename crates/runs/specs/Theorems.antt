-- What holds of every run of calls on a bench of any level kind. Of a kind only the height of each level and its top are used.
-- Assumes nothing.
use Rattle.std.specs.Prelude.{◌≡◌, ℕ, ◌*◌, ◌≤◌, List, ◌∷◌, map, length, is_some, drop, sum, None, Ok}
use Rattle.elements.specs.declared.element.Element.{Element}
use Rattle.morphology.specs.Cells.{cut}
use Rattle.morphology.specs.Sheets.{area}
use Rattle.bench.specs.Model.{Outline, sheet_of, tally_of}
use Rattle.operators.specs.Openings.{opening}
use Rattle.operators.specs.Restoring.{answer_list, restore_refusal}
use Rattle.model.specs.Calls.{Call, Begin, Skeleton, Spectrum, SkeletonTold, SlipTold, SpectrumTold, with_picture}
use Rattle.model.specs.Steps.{Bench, BenchSizes, after, answer, bench_opened}
use Rattle.calls.specs.ByElement.{shrink, swell}
use Rattle.weights.specs.Weights.{WithinWeight}
use Rattle.runs.specs.Sums.{AnswerSum, BenchSum}

-- the sides and the number of places of a rack or a slate
abbrev pub sizes_of : Outline → ℕ × ℕ × ℕ
sizes_of o = (o.w, o.h, o.places)

-- two benches are opened alike
pub record OpenedAlike (o p : BenchSizes) : Type 0 where
  pub rack : sizes_of (bench_opened o).rack.outline ≡ sizes_of (bench_opened p).rack.outline
  pub slate : sizes_of (bench_opened o).slate.outline ≡ sizes_of (bench_opened p).slate.outline

-- the heights from 0 to a top, a level kind for each top
abbrev pub HeightsTo : ℕ → Type 0
HeightsTo top = (x : ℕ) × (x ≤ top)

-- a call with the heights of its picture's levels, and the same call with them cut at a height
abbrev pub in_heights : {X : Type 0} → (X → ℕ) → Call X → Call ℕ
in_heights height = with_picture (map height)

abbrev pub cut_at : {X : Type 0} → (X → ℕ) → ℕ → Call X → Call ℕ
cut_at height a = with_picture (λ picture. cut a (map height picture))

-- the bench that calls reach from its opening, and the mask bench of a height that the same calls reach
abbrev pub bench_after : {X : Type 0} → (X → ℕ) → BenchSizes → List (Call X) → Bench
bench_after height o calls = after (bench_opened o) (map (in_heights height) calls)

abbrev pub mask_bench_after : {X : Type 0} → (X → ℕ) → ℕ → BenchSizes → List (Call X) → Bench
mask_bench_after height a o calls = after (bench_opened o) (map (cut_at height a) calls)

-- Mask sums. The same calls run with every picture cut at a height, for each height from 1 on and each on a bench of its own that
-- was opened alike: whatever was called before, the benches and the answers to the next call are made up of those of the masks.
abbrev pub MaskSums : {X : Type 0} → (X → ℕ) → ℕ → Type 0
MaskSums {X} height top = (o : BenchSizes) (masks : ℕ → BenchSizes) → ((a : ℕ) → 1 ≤ a → OpenedAlike (masks a) o) →
    (calls : List (Call X)) (next : Call X) →
    BenchSum top (bench_after height o calls) (λ a. mask_bench_after height a (masks a) calls)
    × AnswerSum top (answer (bench_after height o calls) (in_heights height next))
    (λ a. answer (mask_bench_after height a (masks a) calls) (cut_at height a next))

-- Restoring. From the skeleton that a call told of a sheet, restore with the same sides, depth and element, and with lists of the
-- right length, is not refused at any size up to the depth, and writes the opening of that size.
abbrev pub Restoring : {X : Type 0} → (X → ℕ) → Type 0
Restoring {X} height = (o : BenchSizes) (calls : List (Call X)) (e : Element) (depth place len : ℕ) (pieces : List ℕ) →
    let b = bench_after height o calls in
    let w = b.rack.outline.w in
    let h = b.rack.outline.h in
    answer b (Skeleton e depth place len) ≡ Ok (SkeletonTold pieces) →
    (size : ℕ) (answer_was work_was : List ℕ) → size ≤ depth → length answer_was ≡ w * h → length work_was ≡ w * h →
    (restore_refusal (swell e w h) w h depth size pieces (length answer_was) (length work_was) ≡ None)
    × (answer_list (swell e w h) w h depth size pieces answer_was work_was
    ≡ opening (shrink e w h) (swell e w h) size (sheet_of b.rack place))

-- So two sheets of the same sides with one skeleton, under one element and to one depth, are the same sheet.
abbrev pub SkeletonsTellSheets : {X : Type 0} → (X → ℕ) → Type 0
SkeletonsTellSheets {X} height = (o p : BenchSizes) (calls others : List (Call X)) (e : Element) (depth place other len : ℕ) (pieces : List ℕ) →
    let b = bench_after height o calls in
    let c = bench_after height p others in
    b.rack.outline.w ≡ c.rack.outline.w → b.rack.outline.h ≡ c.rack.outline.h →
    answer b (Skeleton e depth place len) ≡ Ok (SkeletonTold pieces) → answer c (Skeleton e depth other len) ≡ Ok (SkeletonTold pieces) →
    sheet_of b.rack place ≡ sheet_of c.rack other

-- The entries of a spectrum from size 0 on, with the rest, sum to the area of the sheet.
abbrev pub SpectraTellAreas : {X : Type 0} → (X → ℕ) → Type 0
SpectraTellAreas {X} height = (o : BenchSizes) (calls : List (Call X)) (e : Element) (depth place len : ℕ) (entries : List ℕ) →
    let b = bench_after height o calls in
    answer b (Spectrum e depth place len) ≡ Ok (SpectrumTold entries) → sum (drop depth entries) ≡ area (sheet_of b.rack place)

-- A tally weighs at most 1,000, and none of its cells exceeds weight × top in size.
abbrev pub TalliesWithinWeights : {X : Type 0} → (X → ℕ) → ℕ → Type 0
TalliesWithinWeights {X} height top = (o : BenchSizes) (calls : List (Call X)) (place : ℕ) →
    WithinWeight top (tally_of (bench_after height o calls).slate place)

-- A place counts as filled exactly where something stands in it.
abbrev pub FilledPlaces : {X : Type 0} → (X → ℕ) → Type 0
FilledPlaces {X} height = (o : BenchSizes) (calls : List (Call X)) (place : ℕ) →
    let b = bench_after height o calls in
    (b.rack.outline.filled place ≡ is_some (b.rack.content place)) × (b.slate.outline.filled place ≡ is_some (b.slate.content place))

-- Forgetting. On two benches opened alike, whatever was called before on each, a begin that both accept makes all later calls
-- get the same answers.
abbrev pub Forgetting : {X : Type 0} → (X → ℕ) → Type 0
Forgetting {X} height = (o p : BenchSizes) → OpenedAlike o p → (before others : List (Call X)) (flat : ℕ) →
    let b = bench_after height o before in
    let c = bench_after height p others in
    answer b (Begin flat) ≡ Ok (SlipTold flat) → answer c (Begin flat) ≡ Ok (SlipTold flat) → (calls : List (Call X)) (next : Call X) →
    answer (after b (map (in_heights height) (Begin flat ∷ calls))) (in_heights height next)
    ≡ answer (after c (map (in_heights height) (Begin flat ∷ calls))) (in_heights height next)

-- All of these, of a level kind with this height for each level and this top.
pub record RunLaws {X : Type 0} (height : X → ℕ) (top : ℕ) : Type 0 where
  pub sums : MaskSums height top
  pub restoring : Restoring height
  pub skeletons : SkeletonsTellSheets height
  pub spectra : SpectraTellAreas height
  pub weights : TalliesWithinWeights height top
  pub places : FilledPlaces height
  pub forgetting : Forgetting height
