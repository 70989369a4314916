-- How a bench and its answers are made up of those of the masks, at each height from 1 on. Assumes nothing.
use Rattle.std.specs.Prelude.{◌≡◌, ℕ, ◌≤◌, List, Ok, Err, Result}
use Rattle.limits.specs.declared.fault.Fault.{Fault}
use Rattle.morphology.specs.Cells.{cut}
use Rattle.bench.specs.Model.{sheet_of, tally_of}
use Rattle.weights.specs.Weights.{Tally}
use Rattle.laws.specs.Sums.{IntListSum, ListSum, greatest_to, sum_to}
use Rattle.model.specs.Calls.{Told, NothingTold, SlipTold, RoundsTold, AreaTold, SpanTold, SpectrumTold, SkeletonTold, SheetTold, TallyTold}
use Rattle.model.specs.Steps.{Bench}

-- A tally is the sum of others, cell by cell, and weighs as much as each.
pub record TallySum (top : ℕ) (t : Tally) (masks : ℕ → Tally) : Type 0 where
  pub weight : (a : ℕ) → 1 ≤ a → (masks a).weight ≡ t.weight
  pub cells : IntListSum top t.cells (λ a. (masks a).cells)

-- A bench beside the mask bench of each height: they have the same sides, places and visits, and the same places are filled; each
-- sheet cut at a height is the sheet of that height's mask bench; and each tally is the sum of theirs.
pub record BenchSum (top : ℕ) (b : Bench) (masks : ℕ → Bench) : Type 0 where
  pub rack : (a : ℕ) → 1 ≤ a → (masks a).rack.outline ≡ b.rack.outline
  pub slate : (a : ℕ) → 1 ≤ a → (masks a).slate.outline ≡ b.slate.outline
  pub sheets : (a place : ℕ) → 1 ≤ a → sheet_of (masks a).rack place ≡ cut a (sheet_of b.rack place)
  pub tallies : (place : ℕ) → TallySum top (tally_of b.slate place) (λ a. tally_of (masks a).slate place)

-- What is told beside what the mask benches tell: of areas, of the heights of spots, of spectra and skeletons and of tallies it is
-- the sum, of rounds the greatest; a sheet cut at a height is that height's mask.
abbrev pub ToldSum : ℕ → Told → (ℕ → Told) → Type 0
ToldSum top NothingTold masks = (a : ℕ) → 1 ≤ a → masks a ≡ NothingTold
ToldSum top (SlipTold flat) masks = (a : ℕ) → 1 ≤ a → masks a ≡ SlipTold flat
ToldSum top (RoundsTold n) masks = (ns : ℕ → ℕ) × ((a : ℕ) → 1 ≤ a → masks a ≡ RoundsTold (ns a)) × (n ≡ greatest_to top ns)
ToldSum top (AreaTold n) masks = (ns : ℕ → ℕ) × ((a : ℕ) → 1 ≤ a → masks a ≡ AreaTold (ns a)) × (n ≡ sum_to top ns)
ToldSum top (SpanTold least greatest) masks = (ls gs : ℕ → ℕ × ℕ × ℕ) × ((a : ℕ) → 1 ≤ a → masks a ≡ SpanTold (ls a) (gs a))
    × (least.2 ≡ sum_to top (λ a. (ls a).2)) × (greatest.2 ≡ sum_to top (λ a. (gs a).2))
ToldSum top (SpectrumTold ns) masks = (nss : ℕ → List ℕ) × ((a : ℕ) → 1 ≤ a → masks a ≡ SpectrumTold (nss a)) × ListSum top ns nss
ToldSum top (SkeletonTold ns) masks = (nss : ℕ → List ℕ) × ((a : ℕ) → 1 ≤ a → masks a ≡ SkeletonTold (nss a)) × ListSum top ns nss
ToldSum top (SheetTold f) masks = (a : ℕ) → 1 ≤ a → masks a ≡ SheetTold (cut a f)
ToldSum top (TallyTold t) masks = (ts : ℕ → Tally) × ((a : ℕ) → 1 ≤ a → masks a ≡ TallyTold (ts a)) × TallySum top t ts

-- All refuse alike, with the same fault, or all tell.
abbrev pub AnswerSum : ℕ → Result Told Fault → (ℕ → Result Told Fault) → Type 0
AnswerSum top (Ok told) masks = (tolds : ℕ → Told) × ((a : ℕ) → 1 ≤ a → masks a ≡ Ok (tolds a)) × ToldSum top told tolds
AnswerSum top (Err fault) masks = (a : ℕ) → 1 ≤ a → masks a ≡ Err fault
