-- A bench and the calls on it beside those of the masks. Assumes nothing.
use Rattle.std.specs.Prelude.{◌≡◌, ℕ, ◌≤◌, List}
use Rattle.model.specs.Calls.{Call}
use Rattle.model.specs.Steps.{Bench, BenchSizes, answer}
use Rattle.runs.specs.Sums.{AnswerSum, BenchSum}
use Rattle.runs.specs.Theorems.{OpenedAlike, bench_after, cut_at, in_heights, mask_bench_after}

-- The bench was reached from an opening by calls. Where the same calls ran with every picture cut at a height, for each height from 1 on
-- and each on a bench of its own that was opened alike, the bench, and the answer to any call on it, are made up of those of the masks.
pub record MadeUpOfMasks {L : Type 0} (height : L → ℕ) (top : ℕ) (b : Bench) : Type 0 where
  pub sizes : BenchSizes
  pub calls : List (Call L)
  pub reached : b ≡ bench_after height sizes calls
  pub sums : (masks : ℕ → BenchSizes) → ((a : ℕ) → 1 ≤ a → OpenedAlike (masks a) sizes) →
      BenchSum top b (λ a. mask_bench_after height a (masks a) calls)
      × ((call : Call L) → AnswerSum top (answer b (in_heights height call)) (λ a. answer (mask_bench_after height a (masks a) calls) (cut_at height a call)))

-- There are such an opening and such calls.
abbrev pub SumsOfMasks : {L : Type 0} → (L → ℕ) → ℕ → Bench → Type 0
SumsOfMasks height top b = ∥ MadeUpOfMasks height top b ∥₁
