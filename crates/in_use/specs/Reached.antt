-- A bench that calls reached from its opening. Assumes nothing.
use Rattle.std.specs.Prelude.{◌≡◌, ℕ, List}
use Rattle.bench.specs.declared.rack.Rack.{Rack}
use Rattle.bench.specs.declared.slate.Slate.{Slate}
use Rattle.bench.specs.Model.{rack_state, slate_state}
use Rattle.model.specs.Calls.{Call}
use Rattle.model.specs.Steps.{Bench, BenchSizes}
use Rattle.runs.specs.Theorems.{bench_after}

-- a rack and its slate as a bench of the model, by the heights of the levels
abbrev pub bench_with : {L : Type 0} → (L → ℕ) → Rack L → Slate → Bench
bench_with height rack slate = record { rack = rack_state height rack; slate = slate_state slate }

-- A bench is what a run of calls leaves of a bench that opened with some sizes, right or wrong.
pub record ReachedByCalls {L : Type 0} (height : L → ℕ) (b : Bench) : Type 0 where
  pub sizes : BenchSizes
  pub calls : List (Call L)
  pub is : b ≡ bench_after height sizes calls
