-- The entries of negative sizes, from the laws of closings. Assumes nothing.
use Rattle.std.proofs.Common.{◌≡◌, ℕ, zero, suc, ◌+◌, ◌-◌, ◌≤◌, List, map, length, sym, refl, ap, ◌∙◌, add-one, zero-add, arith}
use Rattle.std.specs.Prelude.{sum}
use Rattle.std.specs.List.{range_with_len}
use Rattle.std.proofs.lemmas.List.FromFn.{length-map-range_with_len}
use Rattle.morphology.specs.Cells.{cut}
use Rattle.morphology.specs.Sheets.{area}
use Rattle.operators.specs.Closings.{closing_entries, closing_entry}
use Rattle.laws.specs.Closings.{ClosingLaws, ClosingsHaveEntries}
use Rattle.laws.specs.Sums.{HeightsAtMost, ListSum}
use Rattle.laws.proofs.Cells.{area-cons}
use Rattle.laws.proofs.Entries.{entry_over_cuts, less_area}
use Rattle.laws.proofs.Sums.{list_fold_map}

-- differences of numbers that grow, from the last to the first
climb : (area_at : ℕ → ℕ) → ((n : ℕ) → area_at n ≤ area_at (n + 1)) → (depth from n : ℕ) → from + n ≡ depth
    → sum (map (λ k. area_at (depth - k) - area_at (depth - k - 1)) (range_with_len from n)) + area_at 0 ≡ area_at (depth - from)
climb area_at grows depth from zero end = let all : depth - from ≡ 0 = omega arith in zero-add (area_at 0) ∙ ap area_at (sym all)
climb area_at grows depth from (suc n) end =
    let rest = climb area_at grows depth (from + 1) n (omega arith) in
    let next : depth - (from + 1) ≡ depth - from - 1 = omega arith in
    let here : depth - from - 1 + 1 ≡ depth - from = omega arith in
    let one = grows (depth - from - 1) in
    let step = ap area_at here in
    let same = ap area_at next in
    let more = area-cons (area_at (depth - from) - area_at (depth - from - 1)) (map (λ k. area_at (depth - k) - area_at (depth - k - 1)) (range_with_len (from + 1) n)) in
    omega arith

module _ (cells : ℕ) (close : ℕ → List ℕ → List ℕ) (closings : ClosingLaws cells close) where
  growing : (n : ℕ) (f : List ℕ) → length f ≡ cells → area (close n f) ≤ area (close (n + 1) f)
  growing n = rw add-one (less_area cells (close (suc n)) (close n) (closings.flat (suc n)) (closings.flat n) (closings.grow n))

  -- the size before, which is 0 before 0
  before : (n : ℕ) (f : List ℕ) → length f ≡ cells → area (close (n - 1) f) ≤ area (close n f)
  before zero f long = let same : 0 - 1 ≡ 0 = omega arith in omega (arith, ap (λ n. area (close n f)) same)
  before (suc n) f long =
      let last : suc n - 1 ≡ n = omega arith in
      omega (arith, ap (λ k. area (close k f)) last, ap (λ k. area (close k f)) (add-one n), growing n f long)

  over_cuts : (top depth : ℕ) (f : List ℕ) → length f ≡ cells → HeightsAtMost top f → ListSum top (closing_entries close depth f) (λ a. closing_entries close depth (cut a f))
  over_cuts top depth f long t =
      list_fold_map ◌+◌ 0 refl top (range_with_len 0 depth) (λ n. closing_entry close f (depth - n)) (λ a n. closing_entry close (cut a f) (depth - n))
      (λ n. entry_over_cuts cells (close (depth - n)) (close (depth - n - 1)) (closings.flat (depth - n)) (closings.flat (depth - n - 1)) (before (depth - n)) top f long t)

pub closings_have_entries : ClosingsHaveEntries
closings_have_entries cells close closings = record {
  growing = growing cells close closings;
  long = λ depth f long. length-map-range_with_len (λ n. closing_entry close f (depth - n)) 0 depth;
  total = λ depth f long.
      let none = ap area (closings.none f long) in
      let all = climb (λ n. area (close n f)) (λ n. growing cells close closings n f long) depth 0 depth (zero-add depth) in
      let whole : depth - 0 ≡ depth = omega arith in
      ap (λ x. sum (closing_entries close depth f) + x) (sym none) ∙ all ∙ ap (λ n. area (close n f)) whole;
  sums = over_cuts cells close closings;
}
