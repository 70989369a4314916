-- The calls that make a tally: what each refuses, in order, and what it leaves of the slate. Assumes nothing.
use Rattle.std.specs.Prelude.{◌≡◌, ℕ, ◌*◌, not, ◌&&◌, is_some, None, Option, Result, MatchResult, ◌==◌}
use Rattle.limits.specs.declared.fault.Fault.{Fault}
use Rattle.limits.specs.declared.fault.Fault.TheVariants.{Length, SheetPlace, TallyPlace, NoVisit, EmptySheet, EmptyTally, Weight, Unequal}
use Rattle.limits.specs.Faults.{first, told}
use Rattle.weights.specs.Weights.{Tally, lawful_weight}
use Rattle.bench.specs.declared.slate.Slate.{Slate}
use Rattle.bench.specs.Model.{Outline, is_place, overwritten, place_start, slate_state}
use Rattle.bench.specs.Calls.{SameMemory, equal_benches, stored_unless}

-- A difference of two sheets, the same or not: the sheet places, then the tally place, then the visit on the rack, then the sources,
-- then rack and slate equal.
abbrev pub difference_refusal : Outline → Outline → ℕ → ℕ → ℕ → Option Fault
difference_refusal rack slate one other to =
    first (not (is_place rack.places one && is_place rack.places other)) SheetPlace
    (first (not (is_place slate.places to)) TallyPlace
    (first (not (is_some rack.visit)) NoVisit
    (first (not (rack.filled one && rack.filled other)) EmptySheet
    (first (not (equal_benches rack slate)) Unequal None))))

-- A tally of two lists of so many cells: their lengths, then the tally place, then the visit on the slate.
abbrev pub store_refusal : Outline → ℕ → ℕ → ℕ → Option Fault
store_refusal o to one other =
    first (not (one == o.w * o.h && other == o.w * o.h)) Length
    (first (not (is_place o.places to)) TallyPlace
    (first (not (is_some o.visit)) NoVisit None))

-- the weight of a tally to be made
abbrev pub weight_refusal : Tally → Option Fault
weight_refusal made = first (not (lawful_weight made)) Weight None

-- A tally made of those in two places into a third, each the same as another or not, where this is what is made: the places, then the
-- visit on the slate, then the sources, then the weight.
abbrev pub combine_refusal : Outline → Tally → ℕ → ℕ → ℕ → Option Fault
combine_refusal o made one other to =
    first (not (is_place o.places one && is_place o.places other && is_place o.places to)) TallyPlace
    (first (not (is_some o.visit)) NoVisit
    (first (not (o.filled one && o.filled other)) EmptyTally
    (weight_refusal made)))

-- A call makes this tally so: it tells its refusal; where it is not refused, the target holds the tally, and of the memory just the
-- target's cells change; and a refusal leaves all as it was.
pub record MakesTally (refusal : Option Fault) (made : Tally) (was is : Slate) (to : ℕ) (answer : Result (Unit {0}) Fault) : Type 0 where
  pub answers : answer ≡ told refusal
  pub steps : slate_state is ≡ stored_unless refusal (slate_state was) to made
  pub memory : MatchResult answer
      (λ _. is.memory.now ≡ overwritten (place_start (was.marks.w * was.marks.h) to) made.cells was.memory.now)
      (λ _. is.memory.now ≡ was.memory.now)
  pub lent : SameMemory was.memory is.memory
