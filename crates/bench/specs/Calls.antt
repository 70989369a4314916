-- The calls on the bench: what each refuses, in order, and what it leaves. Assumes nothing.
use Rattle.std.specs.Prelude.{ℕ, ◌*◌, Bool, true, false, cond, not, ◌&&◌, ◌||◌, ◌≡◌, List, length, map, replicate, is_some, Some, None, Option, Result, MatchResult, ◌==◌}
use Rattle.std.specs.Borrow.{MutBor}
use Rattle.limits.specs.declared.fault.Fault.{Fault}
use Rattle.limits.specs.declared.fault.Fault.TheVariants.{Length, SheetPlace, TallyPlace, SizeOrDepth, ListLength, Flat, NoVisit, VisitOpen, OtherFlat, EmptySheet, EmptyTally, Unequal}
use Rattle.limits.specs.Faults.{first, tells, told, unless}
use Rattle.limits.specs.Sizes.{lawful_flat, lawful_size, sizes_refusal}
use Rattle.bench.specs.declared.rack.Rack.{Rack}
use Rattle.bench.specs.Model.{Outline, State, cells_from, flat_of, is_place, overwritten, place_start, places_of, plane_of, rack_outline, rack_state, sheet_of, visit_to}

-- every place empty, and no visit open
abbrev pub opened : {C : Type 0} → ℕ → ℕ → ℕ → State C
opened w h places = record {
  outline = record { w = w; h = h; places = places; visit = None; filled = λ k. false };
  content = λ k. None;
}

-- the state after opening: wrong sizes open with sides 0 and no places
abbrev pub as_opened : {C : Type 0} → ℕ → ℕ → ℕ → ℕ → ℕ → State C
as_opened working w h places len = unless (sizes_refusal working w h places len) (opened w h places) (opened 0 0 0)

-- the state with something else in place k, which is then filled
abbrev pub stored : {C : Type 0} → State C → ℕ → C → State C
stored s k c = record {
  outline = record {
    w = s.outline.w;
    h = s.outline.h;
    places = s.outline.places;
    visit = s.outline.visit;
    filled = λ j. cond (j == k) true (s.outline.filled j);
  };
  content = λ j. cond (j == k) (Some c) (s.content j);
}

-- and unless there is a refusal
abbrev pub stored_unless : {C : Type 0} → Option Fault → State C → ℕ → C → State C
stored_unless refusal s k c = unless refusal (stored s k c) s

-- load: the picture's length, then the place, then the visit
abbrev pub load_refusal : Outline → ℕ → ℕ → Option Fault
load_refusal o k len =
    first (not (len == o.w * o.h)) Length
    (first (not (is_place o.places k)) SheetPlace
    (first (not (is_some o.visit)) NoVisit None))

abbrev pub load_leaves : State (List ℕ) → ℕ → List ℕ → State (List ℕ)
load_leaves s k picture = stored_unless (load_refusal s.outline k (length picture)) s k picture

-- what is read from a place: the place, then the visit, then whether it is filled
abbrev pub source_refusal : Fault → Fault → Outline → ℕ → Option Fault
source_refusal no_place empty o k =
    first (not (is_place o.places k)) no_place
    (first (not (is_some o.visit)) NoVisit
    (first (not (o.filled k)) empty None))

abbrev pub sheet_refusal : Outline → ℕ → Option Fault
sheet_refusal = source_refusal SheetPlace EmptySheet

abbrev pub tally_refusal : Outline → ℕ → Option Fault
tally_refusal = source_refusal TallyPlace EmptyTally

-- numbers told of the sheet in a place, to a depth and to a list that is to have `wanted` of them: the place, then the depth, then the
-- length of the list, then the visit and the sheet
abbrev pub depth_refusal : Outline → ℕ → ℕ → ℕ → ℕ → Option Fault
depth_refusal o depth place len wanted =
    first (not (is_place o.places place)) SheetPlace
    (first (not (lawful_size depth)) SizeOrDepth
    (first (not (len == wanted)) ListLength
    (sheet_refusal o place)))

-- the sheets in two places, the same or not: the places, then the visit, then whether they are filled
abbrev pub sources_refusal : Outline → ℕ → ℕ → Option Fault
sources_refusal o one other =
    first (not (is_place o.places one && is_place o.places other)) SheetPlace
    (first (not (is_some o.visit)) NoVisit
    (first (not (o.filled one && o.filled other)) EmptySheet None))

-- a sheet made of those in two places into a third, each the same as another or not: the places, then the visit, then the sources
abbrev pub make_refusal : Outline → ℕ → ℕ → ℕ → Option Fault
make_refusal o one other to =
    first (not (is_place o.places one && is_place o.places other && is_place o.places to)) SheetPlace
    (first (not (is_some o.visit)) NoVisit
    (first (not (o.filled one && o.filled other)) EmptySheet None))

-- what is made or reported of two sheets, by their sides
abbrev pub OfTwo : Type 0 → Type 0
OfTwo X = ℕ → ℕ → List ℕ → List ℕ → X

-- a sheet that is made of two
abbrev pub Making : Type 0
Making = OfTwo (List ℕ)

-- what is made or reported of the sheets from two starts in memory of heights, and of those in two places
abbrev pub made_from : {X : Type 0} → OfTwo X → ℕ → ℕ → ℕ → ℕ → List ℕ → X
made_from made w h one other heights = made w h (cells_from one (w * h) heights) (cells_from other (w * h) heights)

abbrev pub made_of : {X : Type 0} → OfTwo X → State (List ℕ) → ℕ → ℕ → X
made_of made s one other = made s.outline.w s.outline.h (sheet_of s one) (sheet_of s other)

-- the memory is the one that was lent, and as long
pub record SameMemory {X : Type 0} (was is : MutBor (List X)) : Type 0 where
  pub reference : is.ghost_name ≡ was.ghost_name
  pub long : length is.now ≡ length was.now

-- A call makes a sheet in the first working plane so: it tells its refusal, or what is reported of the sources; no place changes; and
-- the plane is what is made of the sources. The second plane is free; a refusal leaves both as they were.
pub record MakesInPlane {L T : Type 0} (height : L → ℕ) (made : Making) (report : OfTwo T) (was is : Rack L) (one other : ℕ)
    (answer : Result T Fault) : Type 0 where
  pub answers : answer ≡ tells (sources_refusal (rack_outline was) one other) (made_of report (rack_state height was) one other)
  pub steps : rack_state height is ≡ rack_state height was
  pub memory : MatchResult answer
      (λ _. (places_of was.marks (map height is.memory.now) ≡ places_of was.marks (map height was.memory.now))
      × (plane_of is.marks (map height is.memory.now) ≡ made_of made (rack_state height was) one other))
      (λ _. is.memory.now ≡ was.memory.now)
  pub lent : SameMemory was.memory is.memory

-- A call keeps the sheets of a rack so: the state is the same, and so are the cells of all places. The working planes are free; a
-- refusal leaves them as they were.
pub record KeepsSheets {L T : Type 0} (height : L → ℕ) (was is : Rack L) (answer : Result T Fault) : Type 0 where
  pub steps : rack_state height is ≡ rack_state height was
  pub memory : MatchResult answer
      (λ _. places_of was.marks (map height is.memory.now) ≡ places_of was.marks (map height was.memory.now))
      (λ _. is.memory.now ≡ was.memory.now)
  pub lent : SameMemory was.memory is.memory

-- A call writes numbers that are told of a sheet, to a depth, to a list so: it tells its refusal; the list has the numbers, or is as it
-- was; and the sheets are kept. How many numbers there are goes by the number of the sheet's cells.
pub record MeasuresSheet {L N : Type 0} (height : L → ℕ) (depth : ℕ) (wanted : ℕ → ℕ) (numbers : ℕ → ℕ → List ℕ → List N) (was is : Rack L)
    (place : ℕ) (list_was list_is : List N) (answer : Result (Unit {0}) Fault) : Type 0 where
  pub answers : answer ≡ told (depth_refusal (rack_outline was) depth place (length list_was) (wanted ((rack_outline was).w * (rack_outline was).h)))
  pub list : MatchResult answer
      (λ _. list_is ≡ numbers (rack_outline was).w (rack_outline was).h (sheet_of (rack_state height was) place))
      (λ _. list_is ≡ list_was)
  pub sheets : KeepsSheets height was is answer

-- A call makes a sheet so, unless there is a refusal: it tells that, or what is reported of the sources; the state is the one with the
-- sheet in the target; and of the places just the target's cells change. The working planes are free; a refusal leaves them
-- as they were.
pub record MakesUnless {L T : Type 0} (height : L → ℕ) (refusal : Option Fault) (made : Making) (report : OfTwo T) (was is : Rack L)
    (one other to : ℕ) (answer : Result T Fault) : Type 0 where
  pub answers : answer ≡ tells refusal (made_of report (rack_state height was) one other)
  pub steps : rack_state height is ≡ stored_unless refusal (rack_state height was) to (made_of made (rack_state height was) one other)
  pub memory : MatchResult answer
      (λ _. places_of was.marks (map height is.memory.now)
      ≡ overwritten (place_start (was.marks.w * was.marks.h) to) (made_of made (rack_state height was) one other)
      (places_of was.marks (map height was.memory.now)))
      (λ _. is.memory.now ≡ was.memory.now)
  pub lent : SameMemory was.memory is.memory

-- and with no refusal but that of the places, the visit and the sources
abbrev pub MakesSheet : {L T : Type 0} → (L → ℕ) → Making → OfTwo T → Rack L → Rack L → ℕ → ℕ → ℕ → Result T Fault → Type 0
MakesSheet height made report was is one other to answer =
    MakesUnless height (make_refusal (rack_outline was) one other to) made report was is one other to answer

-- nothing is reported of two sheets
abbrev pub no_report : OfTwo (Unit {0})
no_report w h f g = tt

-- the same flat, where no visit counts as a flat of its own
abbrev pub same_flat : Option ℕ → Option ℕ → Bool
same_flat None None = true
same_flat None (Some b) = false
same_flat (Some a) None = false
same_flat (Some a) (Some b) = a == b

-- rack and slate have the same sides, and visits to the same flat or none
abbrev pub equal_benches : Outline → Outline → Bool
equal_benches r s = (r.w == s.w && r.h == s.h) && same_flat (flat_of r.visit) (flat_of s.visit)

-- begin: the flat's number, then no visit open on either, then rack and slate equal
abbrev pub begin_refusal : Outline → Outline → ℕ → Option Fault
begin_refusal r s flat =
    first (not (lawful_flat flat)) Flat
    (first (is_some r.visit || is_some s.visit) VisitOpen
    (first (not (equal_benches r s)) Unequal None))

-- the state with a visit to a flat open
abbrev pub with_visit : {C : Type 0} → State C → ℕ → State C
with_visit s flat = record {
  outline = record {
    w = s.outline.w;
    h = s.outline.h;
    places = s.outline.places;
    visit = Some (visit_to flat);
    filled = s.outline.filled;
  };
  content = s.content;
}

-- what begin leaves of a rack or a slate, by the outlines of both
abbrev pub begin_leaves : {C : Type 0} → Outline → Outline → ℕ → State C → State C
begin_leaves rack slate flat s = unless (begin_refusal rack slate flat) (with_visit s flat) s

-- end: a visit open on the rack, then the slip of its flat, then rack and slate equal
abbrev pub end_refusal : Outline → Outline → ℕ → Option Fault
end_refusal r s flat =
    first (not (is_some r.visit)) NoVisit
    (first (not (same_flat (flat_of r.visit) (Some flat))) OtherFlat
    (first (not (equal_benches r s)) Unequal None))

-- memory after an accepted end: all lowest, or zero, where there are places; without places it stays
abbrev pub wiped : {X : Type 0} → ℕ → X → List X → List X
wiped places lowest memory = cond (places == 0) memory (replicate (length memory) lowest)

-- an accepted end leaves what an opening with the same sides and places leaves
abbrev pub ended : {C : Type 0} → State C → State C
ended s = opened s.outline.w s.outline.h s.outline.places

-- what end leaves of a rack or a slate, by the outlines of both
abbrev pub end_leaves : {C : Type 0} → Outline → Outline → ℕ → State C → State C
end_leaves rack slate flat s = unless (end_refusal rack slate flat) (ended s) s
