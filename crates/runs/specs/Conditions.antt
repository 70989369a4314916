-- The conditions of the refusals, each told of all calls alike, and that a call tells the first whose condition holds. Assumes nothing.
use Rattle.std.specs.Prelude.{◌≡◌, ℕ, ◌+◌, ◌*◌, Bool, true, false, not, ◌&&◌, ◌||◌, List, [], ◌∷◌, ◌++◌, map, length, find, ℤ, is_some, Some, None, Ok, Err, Option, Result, ◌==◌, nat_lt}
use Rattle.std.specs.List.{list_all, list_any}
use Rattle.limits.specs.declared.fault.Fault.{Fault}
use Rattle.limits.specs.declared.fault.Fault.TheVariants.{Side, Places, Memory, Length, SheetPlace, TallyPlace, SizeOrDepth, ListLength, FactorOrHeight, BuiltIn, Flat, RestoreCell, NoVisit, VisitOpen, OtherFlat, EmptySheet, EmptyTally, Weight, Unequal}
use Rattle.limits.specs.Faults.{fault_number}
use Rattle.limits.specs.Sizes.{lawful_flat, lawful_size, lawful_factor}
use Rattle.bench.specs.Model.{Outline, State, flat_of, is_place, tally_of}
use Rattle.bench.specs.declared.visit.Visit.{Visit}
use Rattle.bench.specs.Calls.{equal_benches, same_flat}
use Rattle.model.specs.Calls.{Call, Told, Begin, End, Load, Erode, Dilate, Open, Close, Meet, Join, Regrow, Edge, Peak, Valley, Differ, Add, Scale, Area, Span, Spectrum, Skeleton, ShowSheet, ShowTally}
use Rattle.weights.specs.Weights.{Tally, lawful_weight, multiple, sum_of_tallies}
use Rattle.model.specs.Steps.{Bench, answer, step}

-- the sheet places that a call reads, and those that it fills
abbrev pub sheets_read : Call ℕ → List ℕ
sheets_read (Erode element from to) = from ∷ []
sheets_read (Dilate element from to) = from ∷ []
sheets_read (Open element size from to) = from ∷ []
sheets_read (Close element size from to) = from ∷ []
sheets_read (Meet one other to) = one ∷ other ∷ []
sheets_read (Join one other to) = one ∷ other ∷ []
sheets_read (Regrow element marker upper to) = marker ∷ upper ∷ []
sheets_read (Edge element from to) = from ∷ []
sheets_read (Peak element from to) = from ∷ []
sheets_read (Valley element from to) = from ∷ []
sheets_read (Differ one other to) = one ∷ other ∷ []
sheets_read (Area place) = place ∷ []
sheets_read (Span place) = place ∷ []
sheets_read (Spectrum element depth place len) = place ∷ []
sheets_read (Skeleton element depth place len) = place ∷ []
sheets_read (ShowSheet place len) = place ∷ []
sheets_read call = []

abbrev pub sheets_filled : Call ℕ → List ℕ
sheets_filled (Load place picture) = place ∷ []
sheets_filled (Erode element from to) = to ∷ []
sheets_filled (Dilate element from to) = to ∷ []
sheets_filled (Open element size from to) = to ∷ []
sheets_filled (Close element size from to) = to ∷ []
sheets_filled (Meet one other to) = to ∷ []
sheets_filled (Join one other to) = to ∷ []
sheets_filled (Regrow element marker upper to) = to ∷ []
sheets_filled call = []

-- the tally places that a call reads, and those that it fills
abbrev pub tallies_read : Call ℕ → List ℕ
tallies_read (Add one other to) = one ∷ other ∷ []
tallies_read (Scale factor from to) = from ∷ []
tallies_read (ShowTally place len) = place ∷ []
tallies_read call = []

abbrev pub tallies_filled : Call ℕ → List ℕ
tallies_filled (Edge element from to) = to ∷ []
tallies_filled (Peak element from to) = to ∷ []
tallies_filled (Valley element from to) = to ∷ []
tallies_filled (Differ one other to) = to ∷ []
tallies_filled (Add one other to) = to ∷ []
tallies_filled (Scale factor from to) = to ∷ []
tallies_filled call = []

-- the size or the depth of a call, and its factor
abbrev pub sizes_asked : Call ℕ → List ℕ
sizes_asked (Open element size from to) = size ∷ []
sizes_asked (Close element size from to) = size ∷ []
sizes_asked (Spectrum element depth place len) = depth ∷ []
sizes_asked (Skeleton element depth place len) = depth ∷ []
sizes_asked call = []

abbrev pub factors : Call ℕ → List ℤ
factors (Scale factor from to) = factor ∷ []
factors call = []

-- the tally that a call would make of tallies
abbrev pub tallies_made : State Tally → Call ℕ → List Tally
tallies_made slate (Add one other to) = sum_of_tallies (tally_of slate one) (tally_of slate other) ∷ []
tallies_made slate (Scale factor from to) = multiple factor (tally_of slate from) ∷ []
tallies_made slate call = []

-- the flat to which a call begins a visit, and the flat on the slip by which it ends one
abbrev pub flats_begun : Call ℕ → List ℕ
flats_begun (Begin flat) = flat ∷ []
flats_begun call = []

abbrev pub flats_ended : Call ℕ → List ℕ
flats_ended (End flat) = flat ∷ []
flats_ended call = []

-- the visit that has to be open: on the slate for calls on tallies alone, and for others on the rack
abbrev pub visits_needed : Outline → Outline → Call ℕ → List (Option Visit)
visits_needed rack slate (Begin flat) = []
visits_needed rack slate (Add one other to) = slate.visit ∷ []
visits_needed rack slate (Scale factor from to) = slate.visit ∷ []
visits_needed rack slate (ShowTally place len) = slate.visit ∷ []
visits_needed rack slate call = rack.visit ∷ []

-- whether a call takes rack and slate together
abbrev pub takes_both : Call ℕ → Bool
takes_both (Begin flat) = true
takes_both (End flat) = true
takes_both (Edge element from to) = true
takes_both (Peak element from to) = true
takes_both (Valley element from to) = true
takes_both (Differ one other to) = true
takes_both call = false

-- the length of a picture or of a list to show to, and the number of cells that it has to have
abbrev pub cell_lengths : Outline → Outline → Call ℕ → List (ℕ × ℕ)
cell_lengths rack slate (Load place picture) = (length picture, rack.w * rack.h) ∷ []
cell_lengths rack slate (ShowSheet place len) = (len, rack.w * rack.h) ∷ []
cell_lengths rack slate (ShowTally place len) = (len, slate.w * slate.h) ∷ []
cell_lengths rack slate call = []

-- the length of a list for a spectrum or a skeleton, and the number of entries that it has to have
abbrev pub entry_lengths : Outline → Call ℕ → List (ℕ × ℕ)
entry_lengths rack (Spectrum element depth place len) = (len, 2 * depth + 1) ∷ []
entry_lengths rack (Skeleton element depth place len) = (len, (depth + 1) * (rack.w * rack.h)) ∷ []
entry_lengths rack call = []

-- whether some item of a list fails a test
abbrev pub fails : {X : Type 0} → (X → Bool) → List X → Bool
fails test xs = not (list_all test xs)

-- The condition of each refusal.
abbrev pub applies : State (List ℕ) → State Tally → Call ℕ → Fault → Bool
-- the picture or the list has not as many items as there are cells
applies rack slate call Length = fails (λ len. len.0 == len.1) (cell_lengths rack.outline slate.outline call)
-- a sheet place that is named is none of the rack's
applies rack slate call SheetPlace = fails (is_place rack.outline.places) (sheets_read call ++ sheets_filled call)
-- a tally place that is named is none of the slate's
applies rack slate call TallyPlace = fails (is_place slate.outline.places) (tallies_read call ++ tallies_filled call)
-- the size or the depth is not 1 to 64
applies rack slate call SizeOrDepth = fails lawful_size (sizes_asked call)
-- the list has not as many items as the spectrum or the skeleton
applies rack slate call ListLength = fails (λ len. len.0 == len.1) (entry_lengths rack.outline call)
-- the factor is not −100 to 100
applies rack slate call FactorOrHeight = fails lawful_factor (factors call)
-- the flat to begin with is not 1 to 9,999
applies rack slate call Flat = fails lawful_flat (flats_begun call)
-- the visit that has to be open is not
applies rack slate call NoVisit = fails is_some (visits_needed rack.outline slate.outline call)
-- a visit would begin while one is open on the rack or on the slate
applies rack slate call VisitOpen = list_any (λ flat. is_some rack.outline.visit || is_some slate.outline.visit) (flats_begun call)
-- the slip is not of the flat of the open visit
applies rack slate call OtherFlat = fails (λ flat. same_flat (flat_of rack.outline.visit) (Some flat)) (flats_ended call)
-- a sheet place that is read is empty
applies rack slate call EmptySheet = fails rack.outline.filled (sheets_read call)
-- a tally place that is read is empty
applies rack slate call EmptyTally = fails slate.outline.filled (tallies_read call)
-- the tally to be made would weigh more than 1,000
applies rack slate call Weight = fails lawful_weight (tallies_made slate call)
-- rack and slate are taken together and differ in their sides or in the flats of their visits
applies rack slate call Unequal = takes_both call && not (equal_benches rack.outline slate.outline)
-- the others are refusals of openings, and of calls without a bench
applies rack slate call fault = false

-- the refusals in the order in which they are tried
abbrev pub in_order : List Fault
in_order =
    Side ∷ Places ∷ Memory ∷ Length ∷ SheetPlace ∷ TallyPlace ∷ SizeOrDepth ∷ ListLength ∷ FactorOrHeight ∷ BuiltIn ∷ Flat
    ∷ RestoreCell ∷ NoVisit ∷ VisitOpen ∷ OtherFlat ∷ EmptySheet ∷ EmptyTally ∷ Weight ∷ Unequal ∷ []

-- whether each number is above the one before it, and the first above a bound
abbrev pub ascends : ℕ → List ℕ → Bool
ascends bound [] = true
ascends bound (n ∷ ns) = nat_lt bound n && ascends n ns

-- the numbers of the refusals ascend in that order, and each refusal is in it, found by its number
pub record NumbersAscend : Type 0 where
  pub ascend : ascends 0 (map fault_number in_order) ≡ true
  pub complete : (fault : Fault) → find (λ other. fault_number other == fault_number fault) in_order ≡ Some fault

-- the refusal that an answer tells, if it is one
abbrev pub fault_told : Result Told Fault → Option Fault
fault_told (Ok told) = None
fault_told (Err fault) = Some fault

-- A call tells the first refusal in that order whose condition holds, and is accepted where none holds.
abbrev pub FirstInOrder : Type 0
FirstInOrder = (b : Bench) (call : Call ℕ) → fault_told (answer b call) ≡ find (applies b.rack b.slate call) in_order

-- A refused call leaves the bench as it was.
abbrev pub RefusalsLeaveTheBench : Type 0
RefusalsLeaveTheBench = (b : Bench) (call : Call ℕ) (fault : Fault) → answer b call ≡ Err fault → step b call ≡ b
