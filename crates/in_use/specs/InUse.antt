-- A bench in use as a bench of the model. Assumes nothing.
use Rattle.std.specs.Prelude.{ℕ, unwrap_or}
use Rattle.bench.specs.Model.{flat_of}
use Rattle.in_use.specs.Reached.{bench_with}
use Rattle.in_use.specs.declared.bench_in_use.BenchInUse.{BenchInUse}
use Rattle.model.specs.Steps.{Bench}

-- the model's bench that a bench in use is, by the heights of its levels
abbrev pub bench_of : {L : Type 0} {kind : _} → (L → ℕ) → BenchInUse L kind → Bench
bench_of height bench = bench_with height bench.rack bench.slate

-- the flat of the visit that is open on a bench, 0 where none is
abbrev pub open_flat : Bench → ℕ
open_flat b = unwrap_or (flat_of b.rack.outline.visit) 0
