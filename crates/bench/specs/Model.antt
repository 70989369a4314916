-- The state of a rack or a slate, as its users know it. Assumes nothing.
use Rattle.std.specs.Prelude.{◌≡◌, ℕ, ◌+◌, ◌*◌, Bool, List, [], ◌++◌, map, length, take, drop, is_some, Option, option_map, unwrap_or}
use Rattle.bench.specs.declared.marks.Marks.{Marks}
use Rattle.bench.specs.declared.rack.Rack.{Rack}
use Rattle.bench.specs.declared.slate.Slate.{Slate}
use Rattle.bench.specs.declared.slip.Slip.{Slip}
use Rattle.bench.specs.declared.visit.Visit.{Visit}
use Rattle.weights.specs.Weights.{Tally, no_tally, weighed}
pub use Rattle.bench.specs.Places.{cells_from, cells_of, is_place, kept, place_start}

-- The outline of a rack or a slate: its sides, how many places it has, the open visit or none, and which
-- places, counted from 1, are filled. Every refusal of the bench is told from outlines, and 36 also from the weight of the tally to be
-- made.
pub record Outline : Type 0 where
  pub w : ℕ
  pub h : ℕ
  pub places : ℕ
  pub visit : Option Visit
  pub filled : ℕ → Bool

-- the visit to a flat
abbrev pub visit_to : ℕ → Visit
visit_to flat = record { flat = flat }

-- the flat of a visit, if one is open
abbrev pub flat_of : Option Visit → Option ℕ
flat_of visit = option_map (λ v. v.flat) visit

-- The outline, and what each place holds or that it is empty: a place of a rack holds a sheet of heights, one of a slate a tally.
pub record State (C : Type 0) : Type 0 where
  pub outline : Outline
  pub content : ℕ → Option C

-- the sheet in place k of a rack; no cells where the place is empty
abbrev pub sheet_of : State (List ℕ) → ℕ → List ℕ
sheet_of s k = unwrap_or (s.content k) []

-- the tally in place k of a slate; no cells where the place is empty
abbrev pub tally_of : State Tally → ℕ → Tally
tally_of s k = unwrap_or (s.content k) no_tally

-- memory with other cells from a start on
abbrev pub overwritten : {X : Type 0} → ℕ → List X → List X → List X
overwritten start cells memory = take start memory ++ (cells ++ drop (start + length cells) memory)

-- the memory of all places, which the working planes follow
abbrev pub places_of : {T X : Type 0} → Marks T → List X → List X
places_of m memory = take (m.places * (m.w * m.h)) memory

-- the first working plane, which lies right behind all places
abbrev pub plane_of : {T X : Type 0} → Marks T → List X → List X
plane_of m memory = cells_from (m.places * (m.w * m.h)) (m.w * m.h) memory

-- marks with the same sides and places
pub record SameSizes {T : Type 0} (was is : Marks T) : Type 0 where
  pub w : is.w ≡ was.w
  pub h : is.h ≡ was.h
  pub places : is.places ≡ was.places

-- the outline that marks stand for
abbrev pub outline_of : {T : Type 0} → Marks T → Outline
outline_of m = record {
  w = m.w;
  h = m.h;
  places = m.places;
  visit = m.visit;
  filled = λ k. is_some (kept m k);
}

-- the state that marks and memory stand for, where a filled place holds what is made of that which is kept for it and of its cells
abbrev pub state_of : {T X C : Type 0} → (T → List X → C) → Marks T → List X → State C
state_of holds m memory = record {
  outline = outline_of m;
  content = λ k. option_map (λ t. holds t (cells_of (m.w * m.h) k memory)) (kept m k);
}

-- the outline of a rack and of a slate
abbrev pub rack_outline : {L : Type 0} → Rack L → Outline
rack_outline r = outline_of r.marks

abbrev pub slate_outline : Slate → Outline
slate_outline s = outline_of s.marks

-- what a place of a rack holds: nothing is kept of a sheet beside its cells
abbrev pub sheet_held : Unit {0} → List ℕ → List ℕ
sheet_held nothing cells = cells

-- the state of a rack whose levels have these heights
abbrev pub rack_state : {L : Type 0} → (L → ℕ) → Rack L → State (List ℕ)
rack_state height r = state_of sheet_held r.marks (map height r.memory.now)

-- the state of a slate
abbrev pub slate_state : Slate → State Tally
slate_state s = state_of weighed s.marks s.memory.now

-- what a rack and its slate have in common during a visit: the visit, and the sides
abbrev pub shared : Outline → Option Visit × ℕ × ℕ
shared o = (o.visit, o.w, o.h)

-- the visit that a slip was handed out for, if there is one
abbrev pub slip_visit : Option Slip → Option Visit
slip_visit slip = option_map (λ s. visit_to s.flat) slip
