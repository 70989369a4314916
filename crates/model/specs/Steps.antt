-- A bench, and what each call leaves of it and answers; a run of calls. Assumes nothing.
use Rattle.std.specs.Prelude.{ℕ, List, [], ◌∷◌, length, Ok, Err, Option, Result}
use Rattle.elements.specs.Elements.{offsets}
use Rattle.limits.specs.declared.fault.Fault.{Fault}
use Rattle.limits.specs.Faults.{tells}
use Rattle.morphology.specs.declared.operation.Operation.TheVariants.{Erosion, Dilation}
use Rattle.morphology.specs.Cells.{joined, met}
use Rattle.bench.specs.Model.{State, sheet_of, tally_of}
use Rattle.bench.specs.Calls.{Making, OfTwo, as_opened, begin_leaves, begin_refusal, end_leaves, end_refusal, load_leaves, load_refusal, made_of, make_refusal, stored_unless}
use Rattle.calls.specs.Made.{by_element}
use Rattle.bench.specs.TallyCalls.{combine_refusal, difference_refusal}
use Rattle.calls.specs.ByElement.{opening_by, reconstruction_by}
use Rattle.calls.specs.OfSize.{of_size_refusal}
use Rattle.calls.specs.Queries.{area_answer, show_sheet_refusal, span_answer}
use Rattle.closings.specs.ByElement.{closing_by, valley_by}
use Rattle.model.specs.Calls.{Call, Begin, End, Load, Erode, Dilate, Open, Close, Meet, Join, Regrow, Edge, Peak, Valley, Differ, Add, Scale, Area, Span, Spectrum, Skeleton, ShowSheet, ShowTally, Told, NothingTold, SlipTold, RoundsTold, AreaTold, SpanTold, SpectrumTold, SkeletonTold, SheetTold, TallyTold}
use Rattle.model.specs.ListCalls.{skeleton_answer, spectrum_answer}
use Rattle.model.specs.SheetCalls.{regrow_answer}
use Rattle.tallies.specs.Differences.{difference_of_two, edge_by, peak_by}
use Rattle.tallies.specs.Scaling.{scale_refusal}
use Rattle.tallies.specs.Showing.{show_tally_refusal}
use Rattle.weights.specs.Weights.{Tally, multiple, sum_of_tallies}

-- A bench is a rack and its slate.
pub record Bench : Type 0 where
  pub rack : State (List ℕ)
  pub slate : State Tally

-- The sizes that a rack or a slate is opened with: its sides, its places, and how long its memory is.
pub record GivenSizes : Type 0 where
  pub w : ℕ
  pub h : ℕ
  pub places : ℕ
  pub memory : ℕ

-- The sizes, right or wrong, that a bench is opened with.
pub record BenchSizes : Type 0 where
  pub rack : GivenSizes
  pub slate : GivenSizes

-- The bench as it opens. A rack has two working planes, a slate none.
abbrev pub bench_opened : BenchSizes → Bench
bench_opened o = record {
  rack = as_opened 2 o.rack.w o.rack.h o.rack.places o.rack.memory;
  slate = as_opened 0 o.slate.w o.slate.h o.slate.places o.slate.memory;
}

-- the bench with another rack, and with another slate
abbrev pub with_rack : Bench → State (List ℕ) → Bench
with_rack b rack = record { rack = rack; slate = b.slate }

abbrev pub with_slate : Bench → State Tally → Bench
with_slate b slate = record { rack = b.rack; slate = slate }

-- the bench with a sheet made of two in a place of the rack, unless there is a refusal
abbrev pub with_made : Bench → Option Fault → Making → ℕ → ℕ → ℕ → Bench
with_made b refusal made one other to = with_rack b (stored_unless refusal b.rack to (made_of made b.rack one other))

-- the bench with a tally in a place of the slate, unless there is a refusal; a tally that is made of two sheets, and one of two tallies
abbrev pub with_tally_unless : Bench → Option Fault → Tally → ℕ → Bench
with_tally_unless b refusal tally to = with_slate b (stored_unless refusal b.slate to tally)

abbrev pub with_difference : Bench → OfTwo Tally → ℕ → ℕ → ℕ → Bench
with_difference b made one other to =
    with_tally_unless b (difference_refusal b.rack.outline b.slate.outline one other to) (made_of made b.rack one other) to

-- what each call leaves; a refused one leaves the bench as it was
abbrev pub step : Bench → Call ℕ → Bench
step b (Begin flat) = record {
  rack = begin_leaves b.rack.outline b.slate.outline flat b.rack;
  slate = begin_leaves b.rack.outline b.slate.outline flat b.slate;
}
step b (End flat) = record {
  rack = end_leaves b.rack.outline b.slate.outline flat b.rack;
  slate = end_leaves b.rack.outline b.slate.outline flat b.slate;
}
step b (Load place picture) = with_rack b (load_leaves b.rack place picture)
step b (Erode e from to) = with_made b (make_refusal b.rack.outline from from to) (by_element Erosion (offsets e)) from from to
step b (Dilate e from to) = with_made b (make_refusal b.rack.outline from from to) (by_element Dilation (offsets e)) from from to
step b (Open e size from to) = with_made b (of_size_refusal b.rack.outline size from to) (opening_by e size) from from to
step b (Close e size from to) = with_made b (of_size_refusal b.rack.outline size from to) (closing_by e size) from from to
step b (Meet one other to) = with_made b (make_refusal b.rack.outline one other to) (λ w h. met) one other to
step b (Join one other to) = with_made b (make_refusal b.rack.outline one other to) (λ w h. joined) one other to
step b (Regrow e marker upper to) = with_made b (make_refusal b.rack.outline marker upper to) (reconstruction_by e) marker upper to
step b (Edge e from to) = with_difference b (edge_by e) from from to
step b (Peak e from to) = with_difference b (peak_by e) from from to
step b (Valley e from to) = with_difference b (valley_by e) from from to
step b (Differ one other to) = with_difference b difference_of_two one other to
step b (Add one other to) =
    let sum = sum_of_tallies (tally_of b.slate one) (tally_of b.slate other) in
    with_tally_unless b (combine_refusal b.slate.outline sum one other to) sum to
step b (Scale factor from to) =
    let made = multiple factor (tally_of b.slate from) in
    with_tally_unless b (scale_refusal b.slate.outline made factor from to) made to
step b (Area place) = b
step b (Span place) = b
step b (Spectrum e depth place len) = b
step b (Skeleton e depth place len) = b
step b (ShowSheet place len) = b
step b (ShowTally place len) = b

-- an answer, with what it tells as a call of the model tells it
abbrev pub telling : {X : Type 0} → (X → Told) → Result X Fault → Result Told Fault
telling tell (Ok x) = Ok (tell x)
telling tell (Err fault) = Err fault

-- what each call answers: its refusal, or all that it tells, hands out and writes to lists
abbrev pub answer : Bench → Call ℕ → Result Told Fault
answer b (Begin flat) = tells (begin_refusal b.rack.outline b.slate.outline flat) (SlipTold flat)
answer b (End flat) = tells (end_refusal b.rack.outline b.slate.outline flat) NothingTold
answer b (Load place picture) = tells (load_refusal b.rack.outline place (length picture)) NothingTold
answer b (Erode e from to) = tells (make_refusal b.rack.outline from from to) NothingTold
answer b (Dilate e from to) = tells (make_refusal b.rack.outline from from to) NothingTold
answer b (Open e size from to) = tells (of_size_refusal b.rack.outline size from to) NothingTold
answer b (Close e size from to) = tells (of_size_refusal b.rack.outline size from to) NothingTold
answer b (Meet one other to) = tells (make_refusal b.rack.outline one other to) NothingTold
answer b (Join one other to) = tells (make_refusal b.rack.outline one other to) NothingTold
answer b (Regrow e marker upper to) = telling RoundsTold (regrow_answer e b.rack marker upper to)
answer b (Edge e from to) = tells (difference_refusal b.rack.outline b.slate.outline from from to) NothingTold
answer b (Peak e from to) = tells (difference_refusal b.rack.outline b.slate.outline from from to) NothingTold
answer b (Valley e from to) = tells (difference_refusal b.rack.outline b.slate.outline from from to) NothingTold
answer b (Differ one other to) = tells (difference_refusal b.rack.outline b.slate.outline one other to) NothingTold
answer b (Add one other to) =
    tells (combine_refusal b.slate.outline (sum_of_tallies (tally_of b.slate one) (tally_of b.slate other)) one other to) NothingTold
answer b (Scale factor from to) =
    tells (scale_refusal b.slate.outline (multiple factor (tally_of b.slate from)) factor from to) NothingTold
answer b (Area place) = telling AreaTold (area_answer b.rack place)
answer b (Span place) = telling (λ spots. SpanTold spots.0 spots.1) (span_answer b.rack place)
answer b (Spectrum e depth place len) = telling SpectrumTold (spectrum_answer e b.rack depth place len)
answer b (Skeleton e depth place len) = telling SkeletonTold (skeleton_answer e b.rack depth place len)
answer b (ShowSheet place len) = tells (show_sheet_refusal b.rack.outline place len) (SheetTold (sheet_of b.rack place))
answer b (ShowTally place len) = tells (show_tally_refusal b.slate.outline place len) (TallyTold (tally_of b.slate place))

-- the bench after a run of calls
abbrev pub after : Bench → List (Call ℕ) → Bench
after b [] = b
after b (call ∷ calls) = after (step b call) calls
