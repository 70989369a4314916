-- Each call in three parts: its refusal, and what it leaves and tells where it is accepted; and that a step and an answer are made of
-- these. Assumes nothing.
use Rattle.std.proofs.Common.{◌≡◌, ℕ, List, length, Some, None, Option, refl}
use Rattle.elements.specs.Elements.{offsets}
use Rattle.limits.specs.declared.fault.Fault.{Fault}
use Rattle.limits.specs.Faults.{tells, unless}
use Rattle.elements.specs.declared.element.Element.{Element}
use Rattle.morphology.specs.declared.extremum.Extremum.{Extremum}
use Rattle.morphology.specs.declared.extremum.Extremum.TheVariants.{Minimum, Maximum}
use Rattle.morphology.specs.declared.operation.Operation.TheVariants.{Erosion, Dilation}
use Rattle.morphology.specs.Cells.{joined, met}
use Rattle.morphology.specs.Sheets.{area}
use Rattle.bench.specs.Model.{State, sheet_of, tally_of}
use Rattle.bench.specs.Calls.{Making, begin_refusal, end_refusal, ended, load_refusal, made_of, make_refusal, sheet_refusal, stored, with_visit}
use Rattle.calls.specs.Made.{by_element}
use Rattle.calls.specs.Queries.{extreme_spot, show_sheet_refusal}
use Rattle.operators.specs.Tallies.{differed}
use Rattle.model.specs.Calls.{Call, Begin, End, Load, Erode, Dilate, Open, Close, Meet, Join, Regrow, Edge, Peak, Valley, Differ, Add, Scale, Area, Span, Spectrum, Skeleton, ShowSheet, ShowTally, Told, NothingTold, SlipTold, RoundsTold, AreaTold, SpanTold, SpectrumTold, SkeletonTold, SheetTold, TallyTold}
use Rattle.model.specs.ListCalls.{skeleton_refusal, spectrum_refusal}
use Rattle.model.specs.Steps.{Bench, answer, step, telling, with_rack, with_slate}
use Rattle.bench.specs.TallyCalls.{combine_refusal, difference_refusal}
use Rattle.calls.specs.ByElement.{opening_by, reconstruction_by, rounds_by, skeleton_by}
use Rattle.calls.specs.OfSize.{of_size_refusal}
use Rattle.closings.specs.ByElement.{closing_by, spectrum_by}
use Rattle.tallies.specs.Scaling.{scale_refusal}
use Rattle.tallies.specs.Showing.{show_tally_refusal}
use Rattle.weights.specs.Weights.{Tally, difference, multiple, sum_of_tallies}

-- of two sheets, the one and the other
abbrev pub the_first : Making
the_first w h f g = f

abbrev pub the_second : Making
the_second w h f g = g

-- the bench with a sheet, or a tally, in a place
abbrev pub with_sheet : Bench → ℕ → List ℕ → Bench
with_sheet b place sheet = with_rack b (stored b.rack place sheet)

abbrev pub with_tally : Bench → ℕ → Tally → Bench
with_tally b place tally = with_slate b (stored b.slate place tally)

-- the difference of two sheets that are so made
abbrev pub difference_of : Making → Making → Bench → ℕ → ℕ → Tally
difference_of more less b one other = difference (differed (made_of more b.rack one other) (made_of less b.rack one other))

abbrev pub refusal : Bench → Call ℕ → Option Fault
refusal b (Begin flat) = begin_refusal b.rack.outline b.slate.outline flat
refusal b (End flat) = end_refusal b.rack.outline b.slate.outline flat
refusal b (Load place picture) = load_refusal b.rack.outline place (length picture)
refusal b (Erode e from to) = make_refusal b.rack.outline from from to
refusal b (Dilate e from to) = make_refusal b.rack.outline from from to
refusal b (Open e size from to) = of_size_refusal b.rack.outline size from to
refusal b (Close e size from to) = of_size_refusal b.rack.outline size from to
refusal b (Meet one other to) = make_refusal b.rack.outline one other to
refusal b (Join one other to) = make_refusal b.rack.outline one other to
refusal b (Regrow e marker upper to) = make_refusal b.rack.outline marker upper to
refusal b (Edge e from to) = difference_refusal b.rack.outline b.slate.outline from from to
refusal b (Peak e from to) = difference_refusal b.rack.outline b.slate.outline from from to
refusal b (Valley e from to) = difference_refusal b.rack.outline b.slate.outline from from to
refusal b (Differ one other to) = difference_refusal b.rack.outline b.slate.outline one other to
refusal b (Add one other to) = combine_refusal b.slate.outline (sum_of_tallies (tally_of b.slate one) (tally_of b.slate other)) one other to
refusal b (Scale factor from to) = scale_refusal b.slate.outline (multiple factor (tally_of b.slate from)) factor from to
refusal b (Area place) = sheet_refusal b.rack.outline place
refusal b (Span place) = sheet_refusal b.rack.outline place
refusal b (Spectrum e depth place len) = spectrum_refusal b.rack.outline depth place len
refusal b (Skeleton e depth place len) = skeleton_refusal b.rack.outline depth place len
refusal b (ShowSheet place len) = show_sheet_refusal b.rack.outline place len
refusal b (ShowTally place len) = show_tally_refusal b.slate.outline place len

abbrev pub leaves : Bench → Call ℕ → Bench
leaves b (Begin flat) = record { rack = with_visit b.rack flat; slate = with_visit b.slate flat }
leaves b (End flat) = record { rack = ended b.rack; slate = ended b.slate }
leaves b (Load place picture) = with_sheet b place picture
leaves b (Erode e from to) = with_sheet b to (made_of (by_element Erosion (offsets e)) b.rack from from)
leaves b (Dilate e from to) = with_sheet b to (made_of (by_element Dilation (offsets e)) b.rack from from)
leaves b (Open e size from to) = with_sheet b to (made_of (opening_by e size) b.rack from from)
leaves b (Close e size from to) = with_sheet b to (made_of (closing_by e size) b.rack from from)
leaves b (Meet one other to) = with_sheet b to (made_of (λ w h. met) b.rack one other)
leaves b (Join one other to) = with_sheet b to (made_of (λ w h. joined) b.rack one other)
leaves b (Regrow e marker upper to) = with_sheet b to (made_of (reconstruction_by e) b.rack marker upper)
leaves b (Edge e from to) = with_tally b to (difference_of the_first (by_element Erosion (offsets e)) b from from)
leaves b (Peak e from to) = with_tally b to (difference_of the_first (opening_by e 1) b from from)
leaves b (Valley e from to) = with_tally b to (difference_of (closing_by e 1) the_first b from from)
leaves b (Differ one other to) = with_tally b to (difference_of the_first the_second b one other)
leaves b (Add one other to) = with_tally b to (sum_of_tallies (tally_of b.slate one) (tally_of b.slate other))
leaves b (Scale factor from to) = with_tally b to (multiple factor (tally_of b.slate from))
leaves b call = b

-- what is told of the sheets in places of a bench: the rounds of a reconstruction, a spot, and a list
abbrev pub rounds_of : Element → Bench → ℕ → ℕ → ℕ
rounds_of e b = made_of (rounds_by e) b.rack

abbrev pub extreme_of_sheet : Extremum → Bench → ℕ → ℕ × ℕ × ℕ
extreme_of_sheet which b place = extreme_spot which b.rack.outline.w (sheet_of b.rack place)

abbrev pub list_of : (ℕ → ℕ → List ℕ → List ℕ) → Bench → ℕ → List ℕ
list_of made b place = made b.rack.outline.w b.rack.outline.h (sheet_of b.rack place)

abbrev pub told_by : Bench → Call ℕ → Told
told_by b (Begin flat) = SlipTold flat
told_by b (Regrow e marker upper to) = RoundsTold (rounds_of e b marker upper)
told_by b (Area place) = AreaTold (area (sheet_of b.rack place))
told_by b (Span place) = SpanTold (extreme_of_sheet Minimum b place) (extreme_of_sheet Maximum b place)
told_by b (Spectrum e depth place len) = SpectrumTold (list_of (spectrum_by e depth) b place)
told_by b (Skeleton e depth place len) = SkeletonTold (list_of (skeleton_by e depth) b place)
told_by b (ShowSheet place len) = SheetTold (sheet_of b.rack place)
told_by b (ShowTally place len) = TallyTold (tally_of b.slate place)
told_by b call = NothingTold

-- a refusal in the rack or the slate, or in both, is one in the bench
module _ (b : Bench) where
  rack_part : (o : Option Fault) (rack : State (List ℕ)) → with_rack b (unless o rack b.rack) ≡ unless o (with_rack b rack) b
  rack_part None rack = refl
  rack_part (Some fault) rack = refl

  slate_part : (o : Option Fault) (slate : State Tally) → with_slate b (unless o slate b.slate) ≡ unless o (with_slate b slate) b
  slate_part None slate = refl
  slate_part (Some fault) slate = refl

  both_parts : (o : Option Fault) (rack : State (List ℕ)) (slate : State Tally) → record { rack = unless o rack b.rack; slate = unless o slate b.slate } ≡ unless o (record { rack = rack; slate = slate }) b
  both_parts None rack slate = refl
  both_parts (Some fault) rack slate = refl

  same_part : (o : Option Fault) → b ≡ unless o b b
  same_part None = refl
  same_part (Some fault) = refl

  pub step_parts : (c : Call ℕ) → step b c ≡ unless (refusal b c) (leaves b c) b
  step_parts (Begin flat) = both_parts (refusal b (Begin flat)) (with_visit b.rack flat) (with_visit b.slate flat)
  step_parts (End flat) = both_parts (refusal b (End flat)) (ended b.rack) (ended b.slate)
  step_parts (Load place picture) = rack_part (refusal b (Load place picture)) (leaves b (Load place picture)).rack
  step_parts (Erode e from to) = rack_part (refusal b (Erode e from to)) (leaves b (Erode e from to)).rack
  step_parts (Dilate e from to) = rack_part (refusal b (Dilate e from to)) (leaves b (Dilate e from to)).rack
  step_parts (Open e size from to) = rack_part (refusal b (Open e size from to)) (leaves b (Open e size from to)).rack
  step_parts (Close e size from to) = rack_part (refusal b (Close e size from to)) (leaves b (Close e size from to)).rack
  step_parts (Meet one other to) = rack_part (refusal b (Meet one other to)) (leaves b (Meet one other to)).rack
  step_parts (Join one other to) = rack_part (refusal b (Join one other to)) (leaves b (Join one other to)).rack
  step_parts (Regrow e marker upper to) = rack_part (refusal b (Regrow e marker upper to)) (leaves b (Regrow e marker upper to)).rack
  step_parts (Edge e from to) = slate_part (refusal b (Edge e from to)) (leaves b (Edge e from to)).slate
  step_parts (Peak e from to) = slate_part (refusal b (Peak e from to)) (leaves b (Peak e from to)).slate
  step_parts (Valley e from to) = slate_part (refusal b (Valley e from to)) (leaves b (Valley e from to)).slate
  step_parts (Differ one other to) = slate_part (refusal b (Differ one other to)) (leaves b (Differ one other to)).slate
  step_parts (Add one other to) = slate_part (refusal b (Add one other to)) (leaves b (Add one other to)).slate
  step_parts (Scale factor from to) = slate_part (refusal b (Scale factor from to)) (leaves b (Scale factor from to)).slate
  step_parts (Area place) = same_part (refusal b (Area place))
  step_parts (Span place) = same_part (refusal b (Span place))
  step_parts (Spectrum e depth place len) = same_part (refusal b (Spectrum e depth place len))
  step_parts (Skeleton e depth place len) = same_part (refusal b (Skeleton e depth place len))
  step_parts (ShowSheet place len) = same_part (refusal b (ShowSheet place len))
  step_parts (ShowTally place len) = same_part (refusal b (ShowTally place len))

  tells_part : {T : Type 0} (tell : T → Told) (o : Option Fault) (x : T) → telling tell (tells o x) ≡ tells o (tell x)
  tells_part tell None x = refl
  tells_part tell (Some fault) x = refl

  pub answer_parts : (c : Call ℕ) → answer b c ≡ tells (refusal b c) (told_by b c)
  answer_parts (Regrow e marker upper to) = tells_part RoundsTold (refusal b (Regrow e marker upper to)) (rounds_of e b marker upper)
  answer_parts (Area place) = tells_part AreaTold (refusal b (Area place)) (area (sheet_of b.rack place))
  answer_parts (Span place) = tells_part (λ spots. SpanTold spots.0 spots.1) (refusal b (Span place)) (extreme_of_sheet Minimum b place, extreme_of_sheet Maximum b place)
  answer_parts (Spectrum e depth place len) = tells_part SpectrumTold (refusal b (Spectrum e depth place len)) (list_of (spectrum_by e depth) b place)
  answer_parts (Skeleton e depth place len) = tells_part SkeletonTold (refusal b (Skeleton e depth place len)) (list_of (skeleton_by e depth) b place)
  answer_parts call = refl
